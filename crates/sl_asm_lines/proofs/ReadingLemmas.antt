-- Lines read one after another.
use Rattle.std.proofs.Common.{◌≡◌, ℕ, zero, suc, ◌+◌, ◌*◌, ◌^◌, ◌%◌, ◌≤◌, List, [], ◌∷◌, ◌++◌, Option, Some, Result, Err, length, map, drop, refl, sym, ap, subst, ◌∙◌, arith, append_assoc, length-append}
use Rattle.std.specs.Prelude.{MatchOption, MatchResult}
use Rattle.hex.specs.Hex.{encode_lower}
use Rattle.sl_list_instructions.specs.Lines.{address_text}
use Rattle.sl_asm_lines.specs.declared.faults.LineFault.{LineFault}
use Rattle.std.proofs.lemmas.List.{length-map, map-append}
use Rattle.std.proofs.lemmas.List.Elements.{All-push, All-nil}
use Rattle.sl_asm_lines.specs.Fronts.{line_of}
use Rattle.sl_asm_lines.specs.Kept.{AreKept, IsFrontKept, kept_shape}
use Rattle.sl_asm_lines.specs.Lines.{IsLine, Line, Shape, bytes_of, line_text, shape_of, text_from}
use Rattle.sl_asm_lines.specs.Nexts.{IsReadTo, base_after}
use Rattle.sl_asm_lines.specs.Reading.{BeginsBy, BeginsWithNone, CanFollow, IsBadAddress, IsBadLine, IsFront}
use Rattle.sl_asm_lines.specs.declared.front.Front.{Front}
use Rattle.sl_asm_lines.specs.declared.listing.EditedListing.{EditedListing}
use Rattle.sl_asm_lines.specs.declared.listing.ShownLine.{ShownLine}

-- ---- as many lines are kept as were read

pub as_many_kept : (image : List ℕ) (kept : List ShownLine) (lines : List Line) → AreKept image kept lines → length kept ≡ length lines
as_many_kept image kept lines k = sym (length-map kept kept_shape) ∙ ap length k.shapes ∙ length-map lines shape_of

-- ---- whether a line can follow

pub limit_is : (size : ℕ) → size ≤ 8 → 1 * 2 ^ (8 * size) % 340282366920938463463374607431768211456 ≡ 256 ^ size
limit_is zero few = refl
limit_is (suc zero) few = refl
limit_is (suc (suc zero)) few = refl
limit_is (suc (suc (suc zero))) few = refl
limit_is (suc (suc (suc (suc zero)))) few = refl
limit_is (suc (suc (suc (suc (suc zero))))) few = refl
limit_is (suc (suc (suc (suc (suc (suc zero)))))) few = refl
limit_is (suc (suc (suc (suc (suc (suc (suc zero))))))) few = refl
limit_is (suc (suc (suc (suc (suc (suc (suc (suc zero)))))))) few = refl
limit_is (suc (suc (suc (suc (suc (suc (suc (suc (suc n))))))))) few = absurd (omega (arith, few))

-- ---- one more line

pub bytes_append : (a b : List Line) → bytes_of (a ++ b) ≡ bytes_of a ++ bytes_of b
bytes_append [] b = refl
bytes_append (l ∷ a) b = ap (λ (xs : List ℕ). l.bytes ++ xs) (bytes_append a b) ∙ sym (append_assoc l.bytes (bytes_of a) (bytes_of b))

append-none : {A : Type 0} (xs : List A) → xs ++ [] ≡ xs
append-none [] = refl
append-none (x ∷ xs) = ap (λ ys. x ∷ ys) (append-none xs)

pub bytes_push : (a : List Line) (l : Line) → bytes_of (a ++ l ∷ []) ≡ bytes_of a ++ l.bytes
bytes_push a l = bytes_append a (l ∷ []) ∙ ap (λ (xs : List ℕ). bytes_of a ++ xs) (append-none l.bytes)

pub text_append : (size base : ℕ) (a b : List Line) → text_from size base (a ++ b) ≡ text_from size base a ++ text_from size (base + length (bytes_of a)) b
text_append size base [] b = ap (λ (n : ℕ). text_from size n b) (omega arith)
text_append size base (l ∷ a) b =
    let moved : base + length l.bytes + length (bytes_of a) ≡ base + length (l.bytes ++ bytes_of a) = omega (arith, length-append l.bytes (bytes_of a)) in
    ap (λ (xs : List ℕ). line_text size base l ++ xs) (text_append size (base + length l.bytes) a b ∙ ap (λ (n : ℕ). text_from size (base + length l.bytes) a ++ text_from size n b) moved)
    ∙ sym (append_assoc (line_text size base l) (text_from size (base + length l.bytes) a) (text_from size (base + length (l.bytes ++ bytes_of a)) b))

pub keeps_more : (image bytes text : List ℕ) (kept : List ShownLine) (lines : List Line) (x : ShownLine) (new : List ℕ) (more : List ShownLine)
    → AreKept image kept lines → new ≡ image ++ bytes → more ≡ kept ++ x ∷ [] → kept_shape x ≡ record { count = length bytes; text = text }
    → AreKept new more (lines ++ line_of bytes text ∷ [])
keeps_more image bytes text kept lines x new more k image_is lines_are shape = record {
  image_is = image_is ∙ ap (λ (xs : List ℕ). xs ++ bytes) k.image_is ∙ sym (bytes_push lines (line_of bytes text));
  shapes = ap (map kept_shape) lines_are ∙ map-append kept_shape kept (x ∷ [])
      ∙ ap (λ (xs : List Shape). xs ++ kept_shape x ∷ []) k.shapes ∙ ap (λ (s : Shape). map shape_of lines ++ s ∷ []) shape
      ∙ sym (map-append shape_of lines (line_of bytes text ∷ []));
}

-- ---- the next line

pub begins_more : (size : ℕ) (text : List ℕ) (base address : ℕ) (lines : List Line) (rest : List ℕ) (l : Line) (more : List ℕ) → BeginsBy size text base lines rest
    → IsFront size rest address l more → CanFollow size base lines address l → BeginsBy size text (base_after lines base address) (lines ++ l ∷ []) more
begins_more size text base address [] rest l more b f c = record {
  is = b.is ∙ f.is ∙ ap (λ (xs : List ℕ). xs ++ more) (sym (append-none (line_text size address l)));
  are_lines = All-push IsLine [] l (All-nil IsLine) f.is_line;
  fits = omega (arith, c.fits, ap length (append-none l.bytes));
}
begins_more size text base address (m ∷ ms) rest l more b f c =
    let lines = m ∷ ms in
    let at : base + length (bytes_of lines) ≡ address = sym c.after in
    let one : text_from size (base + length (bytes_of lines)) (l ∷ []) ≡ line_text size address l =
    append-none (line_text size (base + length (bytes_of lines)) l) ∙ ap (λ (n : ℕ). line_text size n l) at in record {
      is = b.is ∙ ap (λ (xs : List ℕ). text_from size base lines ++ xs) f.is
          ∙ sym (append_assoc (text_from size base lines) (line_text size address l) more)
          ∙ ap (λ (xs : List ℕ). xs ++ more) (ap (λ (xs : List ℕ). text_from size base lines ++ xs) (sym one) ∙ sym (text_append size base lines (l ∷ [])));
      are_lines = All-push IsLine lines l b.are_lines f.is_line;
      fits = omega (arith, c.fits, c.after, ap length (bytes_push lines l), length-append (bytes_of lines) l.bytes);
    }

-- where no line is at the front
pub bad_line : (size : ℕ) (rest : List ℕ) (listing : EditedListing) → 1 ≤ length rest → BeginsWithNone size rest → (text : List ℕ) → IsReadTo size text rest listing
    → IsBadLine size text (length listing.lines.items + 1)
bad_line size rest listing some none text r = record {
  base = listing.base;
  lines = r.lines;
  rest = rest;
  before = r.before;
  is = omega (arith, as_many_kept listing.image.items listing.lines.items r.lines r.are_kept);
  there = λ e. omega (arith, some, ap length e);
  bad = none;
}

-- where one is whose address can't follow
pub bad_address : (size : ℕ) (rest : List ℕ) (listing : EditedListing) (address : ℕ) (l : Line) (more : List ℕ) → IsFront size rest address l more
    → ((lines : List Line) → AreKept listing.image.items listing.lines.items lines → CanFollow size listing.base lines address l → ⊥)
    → (text : List ℕ) → IsReadTo size text rest listing → IsBadAddress size text (length listing.lines.items + 1)
bad_address size rest listing address l more front not text r = record {
  base = listing.base;
  lines = r.lines;
  rest = rest;
  before = r.before;
  is = omega (arith, as_many_kept listing.image.items listing.lines.items r.lines r.are_kept);
  address = address;
  line = l;
  more = more;
  front = front;
  bad = not r.lines r.are_kept;
}

-- where it is taken
pub takes : (size : ℕ) (rest bytes text : List ℕ) (old new : EditedListing) (f : Front) (l : Line) → IsFront size rest f.address l (drop f.length rest)
    → l ≡ line_of bytes text
    → ((lines : List Line) → AreKept old.image.items old.lines.items lines → CanFollow size old.base lines f.address l)
    → ((lines : List Line) → AreKept old.image.items old.lines.items lines → new.base ≡ base_after lines old.base f.address)
    → ((lines : List Line) → AreKept old.image.items old.lines.items lines → AreKept new.image.items new.lines.items (lines ++ line_of bytes text ∷ []))
    → (whole : List ℕ) → IsReadTo size whole rest old → IsReadTo size whole (drop f.length rest) new
takes size rest bytes text old new f l front is can base keeps whole r = record {
  lines = r.lines ++ l ∷ [];
  before = subst (λ (b : ℕ). BeginsBy size whole b (r.lines ++ l ∷ []) (drop f.length rest)) (sym (base r.lines r.are_kept))
      (begins_more size whole old.base f.address r.lines rest l (drop f.length rest) r.before front (can r.lines r.are_kept));
  are_kept = subst (λ (k : Line). AreKept new.image.items new.lines.items (r.lines ++ k ∷ [])) (sym is) (keeps r.lines r.are_kept);
}

pub kept_front : (size : ℕ) (rest bytes : List ℕ) (found : Option Front) (f : Front) (N : Type 0) → MatchOption found N (λ g. IsFrontKept size rest bytes g) → found ≡ Some f
    → IsFrontKept size rest bytes f
kept_front size rest bytes found f N h is = subst (λ (o : Option Front). MatchOption o N (λ g. IsFrontKept size rest bytes g)) is h

pub some_taken : (size : ℕ) (rest bytes : List ℕ) (f : Front) → IsFrontKept size rest bytes f → 1 ≤ f.length
some_taken size rest bytes f k =
    omega (arith, k.4, length-append (address_text size f.address) (58 ∷ 32 ∷ (encode_lower k.0.bytes ++ 32 ∷ (k.0.text ++ 10 ∷ []))))

pub taken_within : (size : ℕ) (rest bytes : List ℕ) (f : Front) → IsFrontKept size rest bytes f → f.length ≤ length rest
taken_within size rest bytes f k =
    omega (arith, k.4, ap length k.1.is, length-append (line_text size f.address k.0) (drop f.length rest))

pub line_is : (l : Line) (bytes text : List ℕ) → bytes ≡ l.bytes → text ≡ l.text → l ≡ line_of bytes text
line_is l bytes text b t = λ i. record { bytes = sym b i; text = sym t i }

pub failed : {T : Type 0} (r : Result T LineFault) (fault : LineFault) (P : T → Type 0) (Q : LineFault → Type 0) → MatchResult r P Q → r ≡ Err fault → Q fault
failed r fault P Q h is = subst (λ q. MatchResult q P Q) is h
