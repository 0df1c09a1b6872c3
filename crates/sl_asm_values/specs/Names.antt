-- view: regions narrowed to the lists that give a node's action names values with wanted texts.
use Rattle.std.specs.Prelude.{◌≡◌, ℕ, ℤ, List, [], false, Option, Some, Ok, slice_get}
use denote.Ref.{Bor}
use Rattle.sl_asm_fit.specs.Regions.{IsOf}
use Rattle.sl_asm_fit.specs.declared.Cell.{Cell}
use Rattle.sl_asm_known.specs.Frames.{IsSiteOf}
use Rattle.sl_asm_known.specs.declared.Frame.{Frame}
use Rattle.sl_asm_values.specs.Narrowing.{IsPart}
use Rattle.sl_decode_contexts.specs.declared.commits.Commit.{Commit}
use Rattle.sl_decode_meaning.specs.Actions.{own}
use Rattle.sl_decode_meaning.specs.Outcomes.{in_turn}
use Rattle.sl_decode_meaning.specs.Values.{Site}
use Rattle.sl_decode_meaning.specs.declared.notes.Noted.{Noted}
use Rattle.sl_decode_plan.specs.Steps.{late_step}
use Rattle.sl_show.specs.Numbers.{number_text}
use Rattle.sl_decode_plan.specs.declared.late.Late.{Late}
use Rattle.sl_spec.specs.declared.tables.Tables.{Tables}

-- Each value is shown as the text that is wanted of it.
abbrev pub AreWanted : List (Option (Bor (List ℕ))) → List ℤ → Type 0
AreWanted wanted values = (i : ℕ) (text : Bor (List ℕ)) (z : ℤ) → slice_get wanted i ≡ Some (Some text)
    → slice_get values i ≡ Some z → number_text false z ≡ text.now

-- There the steps give the action names values with the wanted texts.
pub record Names (t : Tables) (steps : List Late) (wanted : List (Option (Bor (List ℕ)))) (s : Site) : Type 0 where
  pub notes : List Noted
  pub others : List Noted
  pub values : List ℤ
  pub commits : List Commit
  pub more : List Commit
  pub are : in_turn (late_step t s) steps (own notes [] commits) ≡ Ok (own others values more)
  pub wanted_are : AreWanted wanted values

module _ (t : Tables) (f : Frame) (region : List Cell) (steps : List Late) (wanted : List (Option (Bor (List ℕ)))) where
  -- No list of the region gives the names such values.
  abbrev pub NamesNone : Type 0
  NamesNone = (s : Site) → IsSiteOf f region s → Names t steps wanted s → ⊥

  -- Lists of the region, and among them each that gives the names such values.
  pub record KeepsNames (narrow : List Cell) : Type 0 where
    pub part : IsPart region narrow
    pub stays : (s : Site) (is : IsSiteOf f region s) → Names t steps wanted s → IsOf narrow is.bytes
