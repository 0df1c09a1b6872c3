-- The line at the front of a text.
use Rattle.std.proofs.Common.{◌≡◌, ◌≢◌, ℕ, ◌+◌, Bool, true, false, List, [], ◌∷◌, ◌++◌, Option, Some, None, length, take, drop, refl, sym, ap, subst, ◌∙◌, arith, append_assoc, length-append}
use Rattle.std.proofs.lemmas.List.{length-take-le, take-append-drop, take_at}
use Rattle.std.proofs.lemmas.List.Elements.{All-drop}
use Rattle.std.specs.List.{All}
use Rattle.std.specs.Prelude.{not}
use Rattle.memchr.specs.Find.{IsFirstByte, is_byte}
use Rattle.sl_asm_lines.proofs.TextLemmas.{bare, bare_lacks, before_lacks, first_is, front_is, none_is_some, some_is, with_feed}
use Rattle.sl_asm_lines.specs.Fronts.{ReadsAs, ReadsLine, line_of}
use Rattle.sl_asm_lines.specs.Kept.{IsFrontKept}
use Rattle.sl_asm_lines.specs.Lines.{IsLine, Line, line_text}
use Rattle.sl_asm_lines.specs.declared.front.Front.{Front}

module _ (size a : ℕ) (l : Line) (more text : List ℕ) (line : IsLine l) (is : text ≡ line_text size a l ++ more) (r : Option ℕ) (first : IsFirstByte (is_byte 10) text r) where
  cut : text ≡ bare size a l ++ 10 ∷ more
  cut = is ∙ with_feed size a l more

  at_feed : r ≡ Some (length (bare size a l))
  at_feed = first_is 10 text (bare size a l) more cut (bare_lacks size a l line) r first

  pub front_end : r ≡ None → ⊥
  front_end none = none_is_some (length (bare size a l)) (sym none ∙ at_feed)

  module _ (end : ℕ) (there : r ≡ Some end) where
    before : take end text ≡ bare size a l
    before = ap (λ (i : ℕ). take i text) (some_is end (length (bare size a l)) (sym there ∙ at_feed))
        ∙ front_is 10 text (bare size a l) more cut (bare_lacks size a l line)

    append-none : (xs : List ℕ) → xs ++ [] ≡ xs
    append-none [] = refl
    append-none (x ∷ xs) = ap (λ (ys : List ℕ). x ∷ ys) (append-none xs)

    pub front_text : take end text ++ 10 ∷ [] ≡ line_text size a l
    front_text = ap (λ (xs : List ℕ). xs ++ 10 ∷ []) before ∙ sym (with_feed size a l []) ∙ append-none (line_text size a l)

    pub whole_line : take (end + 1) text ≡ line_text size a l
    whole_line =
        let long : length (bare size a l ++ 10 ∷ []) ≡ end + 1 = omega (arith, length-append (bare size a l) (10 ∷ []), some_is end (length (bare size a l)) (sym there ∙ at_feed)) in
        ap (take (end + 1)) (cut ∙ sym (append_assoc (bare size a l) (10 ∷ []) more)) ∙ take_at (bare size a l ++ 10 ∷ []) more (end + 1) long
        ∙ sym (with_feed size a l []) ∙ append-none (line_text size a l)

pub is_none : (size : ℕ) (line bytes : List ℕ) (found : Option Front) → ReadsLine size line bytes found → found ≡ None → ReadsLine size line bytes None
is_none size line bytes found reads none = subst (ReadsLine size line bytes) none reads

pub is_found : (size : ℕ) (line bytes : List ℕ) (found : Option Front) (f : Front) → ReadsLine size line bytes found → found ≡ Some f → ReadsAs size line bytes f
is_found size line bytes found f reads some = subst (ReadsLine size line bytes) some reads

pub has_front : (size : ℕ) (text bytes line : List ℕ) (end : ℕ) (f : Front) → IsFirstByte (is_byte 10) text (Some end) → ReadsAs size (take end text) bytes f
    → line ≡ line_text size f.address (line_of bytes f.text.now) → line ≡ take (end + 1) text → IsFrontKept size text bytes f
has_front size text bytes line end f first reads is same =
    let taken : f.length ≡ end + 1 = omega (arith, reads.taken, length-take-le end text (omega (arith, first.0.high))) in
    let one : All (λ c. c ≢ 10) f.text.now = subst (λ (xs : List ℕ). All (λ c. c ≢ 10) xs) (sym reads.text) (All-drop (λ c. c ≢ 10) reads.cut (take end text) (before_lacks 10 text end first)) in (
      line_of bytes f.text.now,
      record {
        is = sym (take-append-drop (end + 1) text) ∙ ap (λ (xs : List ℕ). xs ++ drop (end + 1) text) (sym same ∙ is)
            ∙ ap (λ (n : ℕ). line_text size f.address (line_of bytes f.text.now) ++ drop n text) (sym taken);
        is_line = record { some = reads.shown.some; most = reads.shown.most; are_bytes = reads.shown.are_bytes; one_line = one };
        in_space = reads.in_space;
      },
      refl,
      refl,
      taken ∙ sym (length-take-le (end + 1) text (omega (arith, first.0.high))) ∙ ap length (sym same ∙ is),
    )

pub not_both : (p r : Bool) → p ≡ true → r ≡ not p → r ≡ true → ⊥
not_both true r is e t = absurd (let both : ◌≡◌ {A = Bool} false true = sym e ∙ t in cc)
not_both false r is e t = absurd (cc)

pub must_be : (p r : Bool) → r ≡ not p → r ≡ false → p ≡ true
must_be true r e f = refl
must_be false r e f = absurd (let both : ◌≡◌ {A = Bool} true false = sym e ∙ f in cc)
