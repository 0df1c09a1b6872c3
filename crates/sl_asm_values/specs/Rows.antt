-- step: what is known of a node's action names when some of its steps are done.
use Rattle.std.specs.Prelude.{◌≡◌, ℕ, ℤ, List, false, Option, None, Some, Ok}
use Rattle.sl_asm_bits.specs.Known.{HasBits}
use Rattle.sl_asm_fit.specs.Regions.{IsOf}
use Rattle.sl_asm_fit.specs.Windows.{with_zeros}
use Rattle.sl_asm_fit.specs.declared.Cell.{Cell}
use Rattle.sl_asm_known.specs.Frames.{AreOf, IsSiteOf}
use Rattle.sl_asm_known.specs.declared.Frame.{Frame}
use Rattle.sl_asm_values.specs.Names.{AreWanted}
use Rattle.sl_asm_values.specs.Narrowing.{IsPart}
use Rattle.sl_asm_values.specs.declared.names.Named.{Named}
use Rattle.sl_asm_values.specs.declared.names.Reached.{Reached}
use Rattle.sl_decode_meaning.specs.Actions.{Own, own}
use Rattle.sl_decode_meaning.specs.Outcomes.{in_turn}
use Rattle.sl_decode_meaning.specs.Values.{Site}
use Rattle.sl_decode_plan.specs.Steps.{late_step}
use Rattle.sl_decode_plan.specs.Values.{value_in}
use Rattle.sl_decode_plan.specs.declared.late.Late.{Late}
use Rattle.sl_decode_plan.specs.declared.values.Value.{Value}
use Rattle.sl_show.specs.Numbers.{number_text}
use Rattle.sl_spec.specs.declared.tables.Tables.{Tables}
use denote.Ref.{Bor}

-- The number is shown as the wanted text, if one is wanted.
abbrev pub IsWanted : Option (Bor (List ℕ)) → ℤ → Type 0
IsWanted None z = Unit {0}
IsWanted (Some text) z = number_text false z ≡ text.now

-- There the expression has a value, with the wanted text if one is wanted.
pub record GivesNumber (t : Tables) (v : Value) (wanted : Option (Bor (List ℕ))) (s : Site) : Type 0 where
  pub number : ℤ
  pub is : value_in t s v ≡ Ok number
  pub wanted_is : IsWanted wanted number

module _ (t : Tables) (f : Frame) (region : List Cell) (v : Value) (wanted : Option (Bor (List ℕ))) where
  -- No list of the region gives it such a value.
  abbrev pub GivesNoNumber : Type 0
  GivesNoNumber = (s : Site) → IsSiteOf f region s → GivesNumber t v wanted s → ⊥

  -- Lists of the region, among them each that gives such a value, and what is known of those values.
  pub record IsNamed (n : Named) : Type 0 where
    pub part : IsPart region n.region.items
    pub stays : (s : Site) (is : IsSiteOf f region s) → GivesNumber t v wanted s → IsOf n.region.items is.bytes
    pub has : (s : Site) → IsSiteOf f region s → (g : GivesNumber t v wanted s) → HasBits n.known g.number

module _ (t : Tables) (f : Frame) (region : List Cell) (v : Value) (number : ℤ) where
  -- No list of the region gives it the number.
  abbrev pub GivesOther : Type 0
  GivesOther = (s : Site) → IsSiteOf f region s → value_in t s v ≡ Ok number → ⊥

  -- Lists of the region, among them each that gives it the number, all of whose bits are known.
  pub record IsExact (n : Named) : Type 0 where
    pub part : IsPart region n.region.items
    pub stays : (s : Site) (is : IsSiteOf f region s) → value_in t s v ≡ Ok number → IsOf n.region.items is.bytes
    pub has : HasBits n.known number

-- A site whose bytes are the list followed by zeros, and which is as the frame says but for the
-- names.
pub record IsAt (f : Frame) (s : Site) (xs : List ℕ) : Type 0 where
  pub reads : s.bytes ≡ with_zeros xs
  pub at : s.at ≡ f.at
  pub lengths : s.lengths ≡ f.lengths.now
  pub context : s.context ≡ f.context
  pub start : s.start ≡ f.start
  pub next : s.next ≡ f.next

-- the values of the names so far
abbrev pub values_of : Own → List ℤ
values_of (own notes values commits) = values

-- The list is in the region, and the values of the names so far have the bits that are known.
pub record IsReached (r : Reached) (xs : List ℕ) (o : Own) : Type 0 where
  pub inside : IsOf r.region.items xs
  pub names : AreOf r.names.items (values_of o)

-- The region is there, and they are so.
abbrev pub Holds : Option Reached → List ℕ → Own → Type 0
Holds None xs o = ⊥
Holds (Some r) xs o = IsReached r xs o

-- The region is there, and it is a part.
abbrev pub IsPartOf : List Cell → Option Reached → Type 0
IsPartOf region None = Unit {0}
IsPartOf region (Some r) = IsPart region r.region.items

-- Lists in which the steps give wanted values are left, with what is known of the names then.
abbrev pub Leaves : Tables → Frame → List (Option (Bor (List ℕ))) → Reached → List Late → Option Reached → Type 0
Leaves t f wanted r steps found = (s : Site) (xs : List ℕ) (before after : Own) → IsAt f s xs
    → IsReached r xs before → in_turn (late_step t s) steps before ≡ Ok after
    → AreWanted wanted (values_of after) → Holds found xs after
