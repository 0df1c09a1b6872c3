-- The lines of changed bytes are told in one way, and there are some.
use Rattle.std.proofs.Common.{◌≡◌, ◌≢◌, ℕ, zero, suc, ◌+◌, ◌^◌, ◌<◌, ◌≤◌, inl, inr, List, [], ◌∷◌, ◌++◌, refl, sym}
use Rattle.std.proofs.Common.{ap, subst, ◌∙◌, arith}
use Rattle.std.proofs.lemmas.Bool.{cases_lt}
use Rattle.std.proofs.lemmas.Bool.Decides.{eqb_tells}
use Rattle.sl_step_run.specs.RunLines.{TellsChanges, TellsSpaceBy, TellsSpaces, change_line, next, no_more, no_spaces}
use Rattle.sl_step_run.specs.RunLines.{space}
use Rattle.sl_spec.specs.Tables.{Space}
use Rattle.sl_spec.specs.declared.definitions.SpaceKind.{SpaceKind}
use Rattle.sl_spec.specs.declared.definitions.SpaceKind.TheVariants as kind
use Rattle.sl_word.specs.Memories.{Memory}

module _ (s : Space) (old new : ℕ → ℕ) where
  abbrev Changes : ℕ → List ℕ → Type 0
  Changes from text = TellsChanges s old new from text

  -- ---- one text

  -- a text that begins with the line of this offset
  record BeginsAt (offset : ℕ) (text : List ℕ) : Type 0 where
    rest : List ℕ
    more : Changes (offset + 1) rest
    text_is : text ≡ change_line s offset (new offset) ++ rest

  told_none : (from : ℕ) (text : List ℕ) → ((k : ℕ) → from ≤ k → k < 256 ^ s.size → old k ≡ new k) → Changes from text
      → text ≡ []
  told_none from text none (no_more also) = refl
  told_none from text none (next {offset = o} ge below differ gap more) = absurd (differ (none o ge below))

  told_next : (from offset : ℕ) (text : List ℕ) → from ≤ offset → offset < 256 ^ s.size → old offset ≢ new offset
      → ((k : ℕ) → from ≤ k → k < offset → old k ≡ new k) → Changes from text → BeginsAt offset text
  told_next from offset text ge below differ gap (no_more none) = absurd (differ (none offset ge below))
  told_next from offset text ge below differ gap
      (next {offset = o} {rest = rest} ge_other below_other differ_other gap_other more) =
      let same : o ≡ offset = elim (cases_lt o offset) [
        | inl less ↦ absurd (differ_other (gap o ge_other less))
        | inr most ↦ elim (cases_lt offset o) [
          | inl less ↦ absurd (differ (gap_other offset ge less))
          | inr least ↦ omega (arith, most, least)
        ]
      ] in
      record {
        rest = rest;
        more = subst (λ (k : ℕ). Changes (k + 1) rest) same more;
        text_is = ap (λ (k : ℕ). change_line s k (new k) ++ rest) same;
      }

  pub told_is_one : (from : ℕ) (x y : List ℕ) → Changes from x → Changes from y → x ≡ y
  told_is_one from x y (no_more none) g = sym (told_none from y none g)
  told_is_one from x y (next {offset = o} {rest = rest} ge below differ gap more) g =
      let other = told_next from o y ge below differ gap g in
      ap (λ (t : List ℕ). change_line s o (new o) ++ t) (told_is_one (o + 1) rest other.rest more other.more)
      ∙ sym other.text_is

  pub space_is_one : (k : SpaceKind) (x y : List ℕ) → TellsSpaceBy k s old new x → TellsSpaceBy k s old new y → x ≡ y
  space_is_one kind.Ram x y h g = told_is_one 0 x y h g
  space_is_one kind.Rom x y h g = told_is_one 0 x y h g
  space_is_one kind.Register x y h g = h ∙ sym g

  -- ---- some text

  -- The two have the same bytes from one offset up to another.
  abbrev AreSameBetween : ℕ → ℕ → Type 0
  AreSameBetween from later = (k : ℕ) → from ≤ k → k < later → old k ≡ new k

  joined : (from later bound : ℕ) → AreSameBetween from later → AreSameBetween later bound → AreSameBetween from bound
  joined from later bound front back = λ k ge below. elim (cases_lt k later) [
    | inl less ↦ front k ge less
    | inr most ↦ back k most below
  ]

  -- what is told from an offset is told from an earlier one, where nothing between them has changed
  told_earlier : (from later : ℕ) (text : List ℕ) → from ≤ later → AreSameBetween from later → Changes later text
      → Changes from text
  told_earlier from later text le same (no_more none) = no_more (joined from later (256 ^ s.size) same none)
  told_earlier from later text le same (next {offset = offset} ge below differ none rest) =
      next (omega (arith, le, ge)) below differ (joined from later offset same none) rest

  same_here : (from : ℕ) → old from ≡ new from → AreSameBetween from (from + 1)
  same_here from same = λ k ge below.
      let at : from ≡ k = omega (arith, ge, below) in ap old (sym at) ∙ same ∙ ap new at

  changes_within : (left from : ℕ) → 256 ^ s.size ≤ from + left → (text : List ℕ) × Changes from text
  changes_within zero from near = ([], no_more (λ k ge below. absurd (omega (arith, near, ge, below))))
  changes_within (suc left) from near =
      let rest = changes_within left (from + 1) (omega (arith, near)) in
      elim (cases_lt from (256 ^ s.size)) [
        | inr past ↦ ([], no_more (λ k ge below. absurd (omega (arith, past, ge, below))))
        | inl within ↦ elim (eqb_tells (old from) (new from)) [
          | inl same ↦ (rest.0, told_earlier from (from + 1) rest.0 (omega arith) (same_here from same.1) rest.1)
          | inr differ ↦ (
            change_line s from (new from) ++ rest.0,
            next (omega arith) within differ.1 (λ k ge below. absurd (omega (arith, ge, below))) rest.1,
          )
        ]
      ]

  some_changes : (text : List ℕ) × Changes 0 text
  some_changes = changes_within (256 ^ s.size) 0 (omega arith)

  pub some_space : (k : SpaceKind) → (text : List ℕ) × TellsSpaceBy k s old new text
  some_space kind.Ram = some_changes
  some_space kind.Rom = some_changes
  some_space kind.Register = ([], refl)

-- ---- several spaces

module _ (old new : Memory) where
  pub spaces_are_one : (number : ℕ) (ss : List Space) (x y : List ℕ) → TellsSpaces old new number ss x
      → TellsSpaces old new number ss y → x ≡ y
  spaces_are_one number [] x y no_spaces no_spaces = refl
  spaces_are_one number (s ∷ ss) x y (space a b here more) (space c d also others) =
      ap (λ (t : List ℕ). t ++ b) (space_is_one s (old number) (new number) s.kind a c here also)
      ∙ ap (λ (t : List ℕ). c ++ t) (spaces_are_one (number + 1) ss b d more others)

  pub some_spaces : (number : ℕ) (ss : List Space) → (text : List ℕ) × TellsSpaces old new number ss text
  some_spaces number [] = ([], no_spaces)
  some_spaces number (s ∷ ss) =
      let here = some_space s (old number) (new number) s.kind in
      let rest = some_spaces (number + 1) ss in
      (here.0 ++ rest.0, space here.0 rest.0 here.1 rest.1)
