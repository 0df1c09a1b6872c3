-- Templates, statement by statement.
use Rattle.std.proofs.Common.{◌≡◌, ◌∙◌, ◌++◌, ◌∷◌, [], ℕ, ◌+◌, Bool, true, false, List, Option, Some, None, refl, sym, ap, append_assoc, length, length-append, map}
use Rattle.std.proofs.Math.Path.{fun_ext}
use Rattle.std.specs.Prelude.{if◌then◌else◌, ◌||◌, is_some}
use Rattle.sl_faithful_code.specs.Operations.{Operation}
use Rattle.sl_build_emit.specs.Views.{jump_inside, jumps_to, place_by, scan}
use Rattle.sl_meaning_sections.specs.References.{Setting}
use Rattle.sl_meaning_sections.specs.Values.{Frame}
use Rattle.sl_section_flat.specs.Sections.{Label}
use Rattle.sl_build_template.specs.Pieces as t
use Rattle.sl_build_template.specs.Pieces.{Part, Tail}
use Rattle.sl_build_template.specs.Placed.{label_at, part_code, part_length, parts_code, pieces_code, placed, tail_code, tail_is}

-- neither of two tests is true
left_alone : (o : Option Label) (b : Bool) → (is_some o || b) ≡ false → o ≡ None
left_alone None b none = refl
left_alone (Some l) b none = absurd (cc)

right_alone : (o : Option Label) (b : Bool) → (is_some o || b) ≡ false → b ≡ false
right_alone None b none = none
right_alone (Some l) b none = absurd (cc)

module _ (top : ℕ) (g : Setting) (f : Frame) (lists : List (List Operation)) where
  -- no label changes the number of operations
  tail_same : (label_place : Label → ℕ) (p q : ℕ) (a : Tail) → length (tail_code top g f label_place lists p a) ≡ length (tail_code top g f (λ l. 0) lists q a)
  tail_same label_place p q t.nothing = refl
  tail_same label_place p q (t.build i) = refl
  tail_same label_place p q (t.label l) = refl
  tail_same label_place p q (t.branch l) = refl
  tail_same label_place p q (t.branch_if l v) = refl

  part_same : (label_place : Label → ℕ) (p : ℕ) (a : Part) → length (part_code top g f label_place lists p a) ≡ part_length top g f lists a
  part_same label_place p a =
      let c = pieces_code top g f a.pieces in
      length-append c _ ∙ ap (λ n. length c + n) (tail_same label_place (p + length c) (0 + length c) a.tail) ∙ sym (length-append c _)

  -- only the label that a statement jumps to counts
  tail_at : (label_place : Label → ℕ) (p place : ℕ) (a : Tail) → place ≡ place_by label_place (jumps_to a) → tail_code top g f label_place lists p a ≡ tail_code top g f (λ l. place) lists p a
  tail_at label_place p place t.nothing is = refl
  tail_at label_place p place (t.build i) is = refl
  tail_at label_place p place (t.label l) is = refl
  tail_at label_place p place (t.branch l) is = ap (λ q. tail_code top g f (λ x. q) lists p (t.branch l)) (sym is)
  tail_at label_place p place (t.branch_if l v) is = ap (λ q. tail_code top g f (λ x. q) lists p (t.branch_if l v)) (sym is)

  part_at : (label_place : Label → ℕ) (p place : ℕ) (a : Part) → place ≡ place_by label_place (jumps_to a.tail) → part_code top g f label_place lists p a ≡ part_code top g f (λ l. place) lists p a
  part_at label_place p place a is =
      let c = pieces_code top g f a.pieces in
      ap (λ more. c ++ more) (tail_at label_place (p + length c) place a.tail is)

  -- one statement more
  pub one_more : (label_place : Label → ℕ) (place : ℕ) (a : Part) (ps : List Part) (old new : List Operation) → place ≡ place_by label_place (jumps_to a.tail)
      → new ≡ old ++ part_code top g f (λ l. place) lists (length old) a
      → new ++ parts_code top g f lists label_place (length new) ps ≡ old ++ parts_code top g f lists label_place (length old) (a ∷ ps)
  one_more label_place place a ps old new is put =
      let cs = part_code top g f label_place lists (length old) a in
      let same : part_code top g f (λ l. place) lists (length old) a ≡ cs = sym (part_at label_place (length old) place a is) in
      let here : length new ≡ length old + part_length top g f lists a = ap length put ∙ length-append old _ ∙ ap (λ n. length old + n) (part_same (λ l. place) (length old) a) in
      ap (λ xs. xs ++ parts_code top g f lists label_place (length new) ps) (put ∙ ap (λ xs. old ++ xs) same)
      ∙ ap (λ n. (old ++ cs) ++ parts_code top g f lists label_place n ps) here
      ∙ append_assoc old cs (parts_code top g f lists label_place (length old + part_length top g f lists a) ps)

  -- a label's place by the numbers of operations
  pub scanned : (l : Label) (ps : List Part) (p : ℕ) → scan ps (map (part_length top g f lists) ps) l p ≡ label_at top g f lists l p ps
  scanned l [] p = refl
  scanned l (a ∷ ps) p = picked (tail_is a.tail l) (scanned l ps (p + part_length top g f lists a))
    where
      picked : (b : Bool) → scan ps (map (part_length top g f lists) ps) l (p + part_length top g f lists a) ≡ label_at top g f lists l (p + part_length top g f lists a) ps
          → (if b then p else scan ps (map (part_length top g f lists) ps) l (p + part_length top g f lists a)) ≡ (if b then p else label_at top g f lists l (p + part_length top g f lists a) ps)
      picked true h = refl
      picked false h = h

  -- where no statement jumps to a label, their places don't count
  pub unplaced : (one other : Label → ℕ) (ps : List Part) (p : ℕ) → jump_inside ps ≡ false → parts_code top g f lists one p ps ≡ parts_code top g f lists other p ps
  unplaced one other [] p none = refl
  unplaced one other (a ∷ ps) p none =
      let here : jumps_to a.tail ≡ None = left_alone (jumps_to a.tail) (jump_inside ps) none in
      let there : jump_inside ps ≡ false = right_alone (jumps_to a.tail) (jump_inside ps) none in
      ap (λ (c : List Operation). c ++ parts_code top g f lists one (p + part_length top g f lists a) ps)
      (part_at one p 0 a (sym (ap (place_by one) here)) ∙ sym (part_at other p 0 a (sym (ap (place_by other) here))))
      ∙ ap (λ (c : List Operation). part_code top g f other lists p a ++ c) (unplaced one other ps (p + part_length top g f lists a) there)

  -- labels by the numbers of operations make the section
  pub section_is : (ps : List Part) (ns : List ℕ) → ns ≡ map (part_length top g f lists) ps → parts_code top g f lists (λ l. scan ps ns l 0) 0 ps ≡ placed top g f lists ps
  section_is ps ns is =
      ap (λ (xs : List ℕ). parts_code top g f lists (λ l. scan ps xs l 0) 0 ps) is
      ∙ ap (λ (label_place : Label → ℕ). parts_code top g f lists label_place 0 ps) (fun_ext (λ l. scanned l ps 0))

-- a label's place where no number is told
pub scan_none : (ps : List Part) (l : Label) (p : ℕ) → scan ps [] l p ≡ p
scan_none [] l p = refl
scan_none (a ∷ ps) l p = refl
