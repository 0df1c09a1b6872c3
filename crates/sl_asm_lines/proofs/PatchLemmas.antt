-- Lines that are given their bytes one after another.
use Rattle.std.proofs.Common.{Bool, true, false, ◌≡◌, ℕ, ◌+◌, ◌^◌, ◌<◌, ◌≤◌, List, [], ◌∷◌, ◌++◌, length, map, take, drop, refl, sym, ap, subst, ◌∙◌, arith, append_assoc, length-append, length-drop, Option, Some, inl, inr, append-nil}
use Rattle.std.proofs.lemmas.List.{drop_all, drop_at, drop-drop, length-take-le, map-append, take_at}
use Rattle.std.specs.Prelude.{MatchOption}
use Rattle.sl_asm_encodings.specs.Encodings.{IsEncoding}
use Rattle.sl_asm_lines.specs.Fronts.{line_of}
use Rattle.sl_decode_contexts.specs.Commits.{IsContextAt}
use Rattle.sl_asm_lines.proofs.ReadingLemmas.{bytes_append, bytes_push}
use Rattle.sl_asm_lines.specs.Lines.{Line, Shape, bytes_of, line_text, shape_of}
use Rattle.sl_asm_lines.specs.Patching.{AreAlike, HasLines, HasNone, HasNoEncoding, IsListedAs, IsListedOtherwise, IsReplaced, ListsItself, Patches, begun, kept, replaced, subject_at}
use Rattle.sl_asm_lines.specs.Steps.{ArePassed, ArePatched, IsAt, IsFirstOther, IsGiven, IsNextOr, IsPassedOr, IsReplacedOr, IsShownAs, IsUnder}
use Rattle.sl_asm_lines.specs.Kept.{AreKept, kept_shape}
use Rattle.sl_asm_lines.specs.declared.listing.ShownLine.{ShownLine}
use Rattle.sl_decode_contexts.specs.Kept.{Kept}
use Rattle.sl_decode_contexts.specs.Runs.{Stands}
use Rattle.sl_decode_contexts.specs.declared.commits.Commit.{Commit}
use Rattle.sl_list_instructions.specs.Instructions.{DecodeFunction, Listed}

-- ---- bytes of lines, cut and put together

module _ (done rest : List Line) (l : Line) (image : List ℕ) (at count : ℕ) (is : image ≡ bytes_of (done ++ l ∷ rest)) (at_is : at ≡ length (bytes_of done)) (long : count ≡ length l.bytes) where
  parted : image ≡ bytes_of done ++ (l.bytes ++ bytes_of rest)
  parted = is ∙ bytes_append done (l ∷ rest)

  after : drop at image ≡ l.bytes ++ bytes_of rest
  after = ap (drop at) parted ∙ drop_at (bytes_of done) (l.bytes ++ bytes_of rest) at (sym at_is)

  -- the line's bytes in the image
  pub own_bytes : take count (drop at image) ≡ l.bytes
  own_bytes = ap (take count) after ∙ take_at l.bytes (bytes_of rest) count (sym long)

  pub own_within : at + count ≤ length image
  own_within = omega (arith, ap length parted, at_is, long, length-append (bytes_of done) (l.bytes ++ bytes_of rest), length-append l.bytes (bytes_of rest))

  -- other bytes in their place
  pub other_bytes : (new : Line) (out : List ℕ) → out ≡ take at image ++ (new.bytes ++ drop (at + count) image) → out ≡ bytes_of (done ++ new ∷ rest)
  other_bytes new out out_is =
      let front : take at image ≡ bytes_of done = ap (take at) parted ∙ take_at (bytes_of done) (l.bytes ++ bytes_of rest) at (sym at_is) in
      let behind : drop (at + count) image ≡ bytes_of rest = sym (drop-drop count at image) ∙ ap (drop count) after ∙ drop_at l.bytes (bytes_of rest) count (sym long) in
      out_is ∙ ap (λ (xs : List ℕ). xs ++ (new.bytes ++ drop (at + count) image)) front ∙ ap (λ (xs : List ℕ). bytes_of done ++ (new.bytes ++ xs)) behind
      ∙ sym (bytes_append done (new ∷ rest))

-- ---- one line more

pub pushed : (done rest : List Line) (x : Line) → done ++ x ∷ rest ≡ (done ++ x ∷ []) ++ rest
pushed done rest x = sym (append_assoc done (x ∷ []) rest)

module _ (decodes : DecodeFunction) (size alignment start base : ℕ) where
  module _ (lines done rest : List Line) (l : Line) (cs made : List Commit) (image : List ℕ) (at count : ℕ) (contexts after : Kept)
      (is : IsAt decodes size alignment start base lines done (l ∷ rest) cs image at contexts) (goes_on : Stands after start (cs ++ made)) where
    pub keeps_line : IsListedAs decodes size alignment start base image at cs l made → count ≡ length l.bytes
        → IsAt decodes size alignment start base lines (done ++ l ∷ []) rest (cs ++ made) image (at + count) after
    keeps_line listed long = record {
      patches = kept is.patches (subst (λ (xs : List ℕ). IsListedAs decodes size alignment start base xs (length (bytes_of done)) cs l made) is.image_is
          (subst (λ (n : ℕ). IsListedAs decodes size alignment start base image n cs l made) is.at_is listed));
      image_is = is.image_is ∙ ap bytes_of (pushed done rest l);
      at_is = omega (arith, is.at_is, long, ap length (bytes_push done l), length-append (bytes_of done) l.bytes);
      contexts_are = goes_on;
    }

    pub replaces_line : (new : Line) (out : List ℕ) → IsListedOtherwise decodes size alignment start base image at cs l → IsReplaced decodes size alignment start base at cs l new made
        → out ≡ bytes_of (done ++ new ∷ rest) → count ≡ length new.bytes
        → IsAt decodes size alignment start base lines (done ++ new ∷ []) rest (cs ++ made) out (at + count) after
    replaces_line new out other by out_is long = record {
      patches = replaced is.patches (subst (λ (xs : List ℕ). IsListedOtherwise decodes size alignment start base xs (length (bytes_of done)) cs l) is.image_is
          (subst (λ (n : ℕ). IsListedOtherwise decodes size alignment start base image n cs l) is.at_is other))
          (subst (λ (n : ℕ). IsReplaced decodes size alignment start base n cs l new made) is.at_is by);
      image_is = out_is ∙ ap bytes_of (pushed done rest new);
      at_is = omega (arith, is.at_is, long, ap length (bytes_push done new), length-append (bytes_of done) new.bytes);
      contexts_are = goes_on;
    }

    pub has_no_encoding : IsListedOtherwise decodes size alignment start base image at cs l → HasNone decodes size alignment start base at cs l
        → HasNoEncoding decodes size alignment start base lines (length done + 1)
    has_no_encoding other none = record {
      done = done;
      line = l;
      rest = rest;
      made = cs;
      patches = is.patches;
      is = refl;
      other = subst (λ (xs : List ℕ). IsListedOtherwise decodes size alignment start base xs (length (bytes_of done)) cs l) is.image_is
          (subst (λ (n : ℕ). IsListedOtherwise decodes size alignment start base image n cs l) is.at_is other);
      none = subst (λ (n : ℕ). HasNone decodes size alignment start base n cs l) is.at_is none;
    }

  -- lines that have their bytes are as the given ones
  pub patches_alike : (lines done rest : List Line) (cs : List Commit) → Patches decodes size alignment start base lines done rest cs → AreAlike (done ++ rest) lines
  patches_alike lines done rest cs begun = refl
  patches_alike lines done rest cs (kept {done = d} {rest = r} {cs = c} {made = m} {l = l} p listed) =
      ap (map shape_of) (sym (pushed d r l)) ∙ patches_alike lines d (l ∷ r) c p
  patches_alike lines done rest cs (replaced {done = d} {rest = r} {cs = c} {made = m} {l = l} {new = n} p other by) =
      ap (map shape_of) (sym (pushed d r n)) ∙ map-append shape_of d (n ∷ r) ∙ ap (λ (s : Shape). map shape_of d ++ s ∷ map shape_of r) by.alike
      ∙ sym (map-append shape_of d (l ∷ r)) ∙ patches_alike lines d (l ∷ r) c p

  -- ---- the listing of what was made

  pub lines_append : (image : List ℕ) (a b : List Line) (at : ℕ) (cs ds es : List Commit) → HasLines decodes size alignment start base image at cs a ds
      → HasLines decodes size alignment start base image (at + length (bytes_of a)) ds b es → HasLines decodes size alignment start base image at cs (a ++ b) es
  lines_append image [] b at cs ds es h k =
      subst (λ (n : ℕ). HasLines decodes size alignment start base image n cs b es) (omega arith)
      (subst (λ (fs : List Commit). HasLines decodes size alignment start base image (at + 0) fs b es) (sym h) k)
  lines_append image (l ∷ a) b at cs ds es h k = (
    h.0,
    h.1,
    lines_append image a b (at + length l.bytes) (cs ++ h.0) ds es h.2
        (subst (λ (n : ℕ). HasLines decodes size alignment start base image n ds b es) (omega (arith, length-append l.bytes (bytes_of a))) k),
  )

-- ---- what is listed, against a line

pub shown_as : (decodes : DecodeFunction) (size alignment start base : ℕ) (image : List ℕ) (at : ℕ) (cs : List Commit) (l : Line) (made : List Commit) (text : List ℕ) (count : ℕ) (b : Bool)
    → Listed (subject_at decodes size alignment start image base) at cs text count made
    → (b ≡ true → (text ≡ line_text size (base + at) l) × (count ≡ length l.bytes)) → (b ≡ false → (text ≡ line_text size (base + at) l) × (count ≡ length l.bytes) → ⊥)
    → IsShownAs decodes size alignment start base image at cs l made b
shown_as decodes size alignment start base image at cs l made text count true listed same other =
    let both = same refl in
    subst (λ (n : ℕ). Listed (subject_at decodes size alignment start image base) at cs (line_text size (base + at) l) n made) both.1
    (subst (λ (xs : List ℕ). Listed (subject_at decodes size alignment start image base) at cs xs count made) both.0 listed)
shown_as decodes size alignment start base image at cs l made text count false listed same other =
    record { text = text; count = count; made = made; listed = listed; other = other refl }

pub not_false : (p b : Bool) → p ≡ true → b ≡ p → b ≡ false → ⊥
not_false p b t is f = let both : ◌≡◌ {A = Bool} true false = sym t ∙ sym is ∙ f in cc

-- ---- a line that has other bytes

pub found_bytes : {X : Type 0} (items : X → List ℕ) (found : Option X) (x : X) (N : Type 0) (P : List ℕ → Type 0) → MatchOption found N (λ y. P (items y)) → found ≡ Some x → P (items x)
found_bytes items found x N P h is = subst (λ o. MatchOption o N (λ y. P (items y))) is h

pub is_replaced : (decodes encodes : DecodeFunction) (size alignment start base : ℕ) (image out bytes shown text : List ℕ) (at count n : ℕ) (cs made : List Commit) (context : ℕ) → encodes ≡ decodes
    → context < 2 ^ 64 → IsContextAt start cs (base + at) context
    → (length bytes ≡ n) × IsEncoding encodes (base + at) context text bytes → at + n ≤ length image
    → Listed (subject_at decodes size alignment start bytes (base + at)) 0 cs shown count made
    → out ≡ take at image ++ (bytes ++ drop (at + length bytes) image)
    → IsReplacedOr decodes size alignment start base image out at cs (line_of (take n (drop at image)) text) made true
is_replaced decodes encodes size alignment start base image out bytes shown text at count n cs made context same below is found within listed put =
    let long : length (take n (drop at image)) ≡ n = length-take-le n (drop at image) (omega (arith, within, length-drop at image)) in (
      line_of bytes text,
      record {
        context = context;
        below = below;
        is_context = is;
        encoding = subst (λ (d : DecodeFunction). IsEncoding d (base + at) context text bytes) same found.1;
        alike = ap (λ (k : ℕ). record { count = k; text = text }) (found.0 ∙ sym long);
        text = shown;
        count = count;
        listed = listed;
      },
      put ∙ ap (λ (k : ℕ). take at image ++ (bytes ++ drop (at + k) image)) (found.0 ∙ sym long),
    )

-- ---- the next line

module _ (decodes : DecodeFunction) (size alignment start base : ℕ) (lines done rest : List Line) (cs : List Commit) (l : Line) (image : List ℕ) (at n : ℕ) (contexts : Kept) (text : List ℕ)
    (is : IsAt decodes size alignment start base lines done (l ∷ rest) cs image at contexts) (shape : shape_of l ≡ record { count = n; text = text }) where
  -- the line is the one that lies in the image
  own_line : line_of (take n (drop at image)) text ≡ l
  own_line =
      let bytes = own_bytes done rest l image at n is.image_is is.at_is (sym (ap (λ (s : Shape). s.count) shape)) in
      λ i. record { bytes = bytes i; text = sym (ap (λ (s : Shape). s.text) shape) i }

  pub stuck_line : (out : List ℕ) (made : List Commit) → IsGiven decodes size alignment start base image out at cs (line_of (take n (drop at image)) text) made false
      → HasNoEncoding decodes size alignment start base lines (length done + 1)
  stuck_line out made given =
      let own = subst (λ (k : Line). IsGiven decodes size alignment start base image out at cs k made false) own_line given in
      has_no_encoding decodes size alignment start base lines done rest l cs [] image at n contexts contexts is
      (subst (λ (ds : List Commit). Stands contexts start ds) (sym (append-nil cs)) is.contexts_are) own.0 own.1

  pub next_line : (out : List ℕ) (made : List Commit) (later : Kept) → IsGiven decodes size alignment start base image out at cs (line_of (take n (drop at image)) text) made true
      → Stands later start (cs ++ made) → IsNextOr decodes size alignment start base lines done rest l out (at + n) later true
  next_line out made later given goes_on =
      let long : n ≡ length l.bytes = sym (ap (λ (s : Shape). s.count) shape) in
      elim (subst (λ (k : Line). IsGiven decodes size alignment start base image out at cs k made true) own_line given) [
        | inl stays ↦ (
          l,
          cs ++ made,
          refl,
          subst (λ (xs : List ℕ). IsAt decodes size alignment start base lines (done ++ l ∷ []) rest (cs ++ made) xs (at + n) later) (sym stays.0)
              (keeps_line decodes size alignment start base lines done rest l cs made image at n contexts later is goes_on stays.1 long),
        )
        | inr by ↦
            let new = by.1.0 in
            let as_long : n ≡ length new.bytes = long ∙ sym (ap (λ (s : Shape). s.count) by.1.1.alike) in
            let put = by.1.2 ∙ ap (λ (k : ℕ). take at image ++ (new.bytes ++ drop (at + k) image)) (sym long) in (
              new,
              cs ++ made,
              by.1.1.alike,
              replaces_line decodes size alignment start base lines done rest l cs made image at n contexts later is goes_on new out by.0 by.1.1
                  (other_bytes done rest l image at n is.image_is is.at_is long new out put) as_long,
            )
      ]

-- ---- all lines

module _ (decodes : DecodeFunction) (size alignment start base : ℕ) (lines : List Line) (keeps : List ShownLine) where
  abbrev Under : ℕ → List ℕ → ℕ → Kept → Type 0
  Under = IsUnder decodes size alignment start base lines keeps

  pub under_first : (image : List ℕ) (contexts : Kept) → AreKept image keeps lines → Stands contexts start [] → Under 0 image 0 contexts
  under_first image contexts k stands = record {
    done = [];
    rest = lines;
    made = [];
    is_at = record { patches = begun; image_is = k.image_is; at_is = refl; contexts_are = stands };
    shapes = k.shapes;
    count = refl;
  }

  -- the line that waits at the front
  pub under_next : (index : ℕ) (x : ShownLine) (image out : List ℕ) (at to : ℕ) (contexts later : Kept) → drop index keeps ≡ x ∷ drop (index + 1) keeps
      → ((ls done rest : List Line) (cs : List Commit) (l : Line) → IsAt decodes size alignment start base ls done (l ∷ rest) cs image at contexts → shape_of l ≡ kept_shape x
      → IsNextOr decodes size alignment start base ls done rest l out to later true)
      → Under index image at contexts → Under (index + 1) out to later
  under_next index x image out at to contexts later front step u = by u.rest u.is_at u.shapes
    where
      by : (rest : List Line) → IsAt decodes size alignment start base lines u.done rest u.made image at contexts → map kept_shape (drop index keeps) ≡ map shape_of rest → Under (index + 1) out to later
      by [] is shapes = absurd (omega (arith, ap length (sym (ap (map kept_shape) front) ∙ shapes)))
      by (l ∷ rest) is shapes =
          let both : kept_shape x ∷ map kept_shape (drop (index + 1) keeps) ≡ shape_of l ∷ map shape_of rest = sym (ap (map kept_shape) front) ∙ shapes in
          let one : kept_shape x ≡ shape_of l = cc in
          let others : map kept_shape (drop (index + 1) keeps) ≡ map shape_of rest = cc in
          let next = step lines u.done rest u.made l is (sym one) in record {
            done = u.done ++ next.0 ∷ [];
            rest = rest;
            made = next.1;
            is_at = next.3;
            shapes = others;
            count = omega (arith, u.count, length-append u.done (next.0 ∷ []));
          }

  pub under_stuck : (index : ℕ) (x : ShownLine) (image out : List ℕ) (at to : ℕ) (contexts later : Kept) → drop index keeps ≡ x ∷ drop (index + 1) keeps
      → ((ls done rest : List Line) (cs : List Commit) (l : Line) → IsAt decodes size alignment start base ls done (l ∷ rest) cs image at contexts → shape_of l ≡ kept_shape x
      → IsNextOr decodes size alignment start base ls done rest l out to later false)
      → Under index image at contexts → HasNoEncoding decodes size alignment start base lines (index + 1)
  under_stuck index x image out at to contexts later front step u = by u.rest u.is_at u.shapes
    where
      by : (rest : List Line) → IsAt decodes size alignment start base lines u.done rest u.made image at contexts → map kept_shape (drop index keeps) ≡ map shape_of rest → HasNoEncoding decodes size alignment start base lines (index + 1)
      by [] is shapes = absurd (omega (arith, ap length (sym (ap (map kept_shape) front) ∙ shapes)))
      by (l ∷ rest) is shapes =
          let both : kept_shape x ∷ map kept_shape (drop (index + 1) keeps) ≡ shape_of l ∷ map shape_of rest = sym (ap (map kept_shape) front) ∙ shapes in
          let one : kept_shape x ≡ shape_of l = cc in
          subst (λ (n : ℕ). HasNoEncoding decodes size alignment start base lines (n + 1)) u.count (step lines u.done rest u.made l is (sym one))

  pub under_all : (index : ℕ) (image : List ℕ) (at : ℕ) (contexts : Kept) → length keeps ≤ index → Under index image at contexts → ArePatched decodes size alignment start base lines image
  under_all index image at contexts past u = by u.rest u.is_at (sym u.shapes ∙ ap (map kept_shape) (drop_all index keeps past))
    where
      by : (rest : List Line) → IsAt decodes size alignment start base lines u.done rest u.made image at contexts → map shape_of rest ≡ [] → ArePatched decodes size alignment start base lines image
      by [] is none = record { new = u.done; made = u.made; patches = is.patches; image_is = is.image_is ∙ ap bytes_of (append-nil u.done) }
      by (l ∷ rest) is none = absurd (omega (arith, ap length none))

-- ---- given bytes

pub given_by : (decodes : DecodeFunction) (size alignment start base : ℕ) (image out : List ℕ) (at : ℕ) (cs : List Commit) (l : Line) (made : List Commit) (b : Bool)
    → IsListedOtherwise decodes size alignment start base image at cs l → IsReplacedOr decodes size alignment start base image out at cs l made b
    → IsGiven decodes size alignment start base image out at cs l made b
given_by decodes size alignment start base image out at cs l made false other by = (other, by.1)
given_by decodes size alignment start base image out at cs l made true other by = inr (other, by)

-- ---- the listing of the image

module _ (decodes : DecodeFunction) (size alignment start base : ℕ) (lines : List Line) (keeps : List ShownLine) where
  abbrev Passed : ℕ → List ℕ → ℕ → Kept → Type 0
  Passed = ArePassed decodes size alignment start base lines keeps

  pub passed_first : (image : List ℕ) (contexts : Kept) → AreKept image keeps lines → Stands contexts start [] → Passed 0 image 0 contexts
  passed_first image contexts k stands = record {
    front = [];
    rest = lines;
    so_far = [];
    parts = refl;
    image_is = k.image_is;
    at_is = refl;
    listed = refl;
    contexts_are = stands;
    shapes = k.shapes;
    count = refl;
  }

  module _ (index : ℕ) (x : ShownLine) (image : List ℕ) (at : ℕ) (contexts later : Kept) (first : drop index keeps ≡ x ∷ drop (index + 1) keeps) (p : Passed index image at contexts) where
    abbrev Steps : Bool → Type 0
    Steps b = (cs : List Commit) → Stands contexts start cs → IsPassedOr decodes size alignment start base image at cs (line_of (take x.count (drop at image)) x.text.now) later b

    shape_is : (l : Line) (rest : List Line) → map kept_shape (drop index keeps) ≡ map shape_of (l ∷ rest) → shape_of l ≡ kept_shape x
    shape_is l rest shapes =
        let both : kept_shape x ∷ map kept_shape (drop (index + 1) keeps) ≡ shape_of l ∷ map shape_of rest = sym (ap (map kept_shape) first) ∙ shapes in
        let one : kept_shape x ≡ shape_of l = cc in sym one

    others_are : (l : Line) (rest : List Line) → map kept_shape (drop index keeps) ≡ map shape_of (l ∷ rest) → map kept_shape (drop (index + 1) keeps) ≡ map shape_of rest
    others_are l rest shapes =
        let both : kept_shape x ∷ map kept_shape (drop (index + 1) keeps) ≡ shape_of l ∷ map shape_of rest = sym (ap (map kept_shape) first) ∙ shapes in cc

    its_line : (l : Line) (rest : List Line) → lines ≡ p.front ++ l ∷ rest → shape_of l ≡ kept_shape x → line_of (take x.count (drop at image)) x.text.now ≡ l
    its_line l rest parts shape =
        let bytes = own_bytes p.front rest l image at x.count (p.image_is ∙ ap bytes_of parts) p.at_is (sym (ap (λ (s : Shape). s.count) shape)) in
        λ i. record { bytes = bytes i; text = sym (ap (λ (s : Shape). s.text) shape) i }

    pub passed_next : Steps true → Passed (index + 1) image (at + x.count) later
    passed_next step = by p.rest p.parts p.shapes
      where
        by : (rest : List Line) → lines ≡ p.front ++ rest → map kept_shape (drop index keeps) ≡ map shape_of rest → Passed (index + 1) image (at + x.count) later
        by [] parts shapes = absurd (omega (arith, ap length (sym (ap (map kept_shape) first) ∙ shapes)))
        by (l ∷ rest) parts shapes =
            let shape = shape_is l rest shapes in
            let s = subst (λ (k : Line). IsPassedOr decodes size alignment start base image at p.so_far k later true) (its_line l rest parts shape) (step p.so_far p.contexts_are) in
            let there = subst (λ (n : ℕ). IsListedAs decodes size alignment start base image n p.so_far l s.0) (p.at_is ∙ omega arith) s.1 in record {
              front = p.front ++ l ∷ [];
              rest = rest;
              so_far = p.so_far ++ s.0;
              parts = parts ∙ pushed p.front rest l;
              image_is = p.image_is;
              at_is = omega (arith, p.at_is, ap (λ (t : Shape). t.count) shape, ap length (bytes_push p.front l), length-append (bytes_of p.front) l.bytes);
              listed = lines_append decodes size alignment start base image p.front (l ∷ []) 0 [] p.so_far (p.so_far ++ s.0) p.listed (s.0, there, refl);
              contexts_are = s.2;
              shapes = others_are l rest shapes;
              count = omega (arith, p.count, length-append p.front (l ∷ []));
            }

    pub passed_other : Steps false → IsFirstOther decodes size alignment start base lines (index + 1)
    passed_other step = by p.rest p.parts p.shapes
      where
        by : (rest : List Line) → lines ≡ p.front ++ rest → map kept_shape (drop index keeps) ≡ map shape_of rest → IsFirstOther decodes size alignment start base lines (index + 1)
        by [] parts shapes = absurd (omega (arith, ap length (sym (ap (map kept_shape) first) ∙ shapes)))
        by (l ∷ rest) parts shapes =
            let s = subst (λ (k : Line). IsPassedOr decodes size alignment start base image at p.so_far k later false) (its_line l rest parts (shape_is l rest shapes)) (step p.so_far p.contexts_are) in record {
              front = p.front;
              line = l;
              rest = rest;
              parts = parts;
              is = omega (arith, p.count);
              so_far = p.so_far;
              before = subst (λ (xs : List ℕ). HasLines decodes size alignment start base xs 0 [] p.front p.so_far) p.image_is p.listed;
              other = subst (λ (xs : List ℕ). IsListedOtherwise decodes size alignment start base xs (length (bytes_of p.front)) p.so_far l) p.image_is
                  (subst (λ (n : ℕ). IsListedOtherwise decodes size alignment start base image n p.so_far l) p.at_is s);
            }

  pub passed_all : (index : ℕ) (image : List ℕ) (at : ℕ) (contexts : Kept) → length keeps ≤ index → Passed index image at contexts → ListsItself decodes size alignment start base lines
  passed_all index image at contexts past p = by p.rest p.parts (sym p.shapes ∙ ap (map kept_shape) (drop_all index keeps past))
    where
      by : (rest : List Line) → lines ≡ p.front ++ rest → map shape_of rest ≡ [] → ListsItself decodes size alignment start base lines
      by [] parts none = (
        p.so_far,
        subst (λ (xs : List ℕ). HasLines decodes size alignment start base xs 0 [] lines p.so_far) p.image_is
            (subst (λ (ls : List Line). HasLines decodes size alignment start base image 0 [] ls p.so_far) (sym (parts ∙ append-nil p.front)) p.listed),
      )
      by (l ∷ rest) parts none = absurd (omega (arith, ap length none))
