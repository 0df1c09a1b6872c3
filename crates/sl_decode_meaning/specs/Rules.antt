-- law: the first moments of a decode by rules: which operands stand, and where the first moment
-- is that can't be met.
use Rattle.std.specs.Prelude.{◌≡◌, ℕ, zero, suc, ◌+◌, Some, None, Result, Ok, Err}
use Rattle.std.specs.Prelude.{List, [], ◌∷◌, ◌++◌}
use Rattle.std.specs.List.{AllByRecursion}
use Rattle.sl_decode_meaning.specs.Actions.{changed}
use Rattle.sl_decode_meaning.specs.Decoding.{Grove, Input, chosen, chosen_at, grow, operands, site_at}
use Rattle.sl_decode_meaning.specs.Meanings.{Meaning, Slot, slot, table_of}
use Rattle.sl_decode_meaning.specs.Trees.{Begun, Trees, none, tree}
use Rattle.sl_decode_meaning.specs.declared.faults.Fault.{Fault}
use Rattle.sl_decode_meaning.specs.declared.faults.Fault.TheVariants.{NoConstructor}
use Rattle.sl_decode_meaning.specs.declared.notes.Noted.{Noted}

abbrev pub begun : ℕ → ℕ → ℕ → ℕ → List Noted → Begun
begun ctor at length context notes =
    record { ctor = ctor; at = at; length = length; context = context; notes = notes }

-- The operands stand: each has, at its place and from the context that the one before left, its
-- choice, its actions are met, and its own operands stand; then their lengths and the context that
-- they leave.
pub data Stand (i : Input) : List Slot → ℕ → List ℕ → ℕ → Trees Begun → List ℕ → ℕ → Type 0 where
  no_more : {at x : ℕ} {lengths : List ℕ} → Stand i [] at lengths x none lengths x
  one : {table : ℕ} {place : List ℕ → ℕ} {slots : List Slot} {at x y z after ctor : ℕ}
      {lengths inner all : List ℕ} {m : Meaning} {notes : List Noted} {below behind : Trees Begun}
      → chosen_at i table (at + place lengths) x ≡ Some (chosen ctor m)
      → m.early (site_at i ctor (at + place lengths) [] x 0) (changed x [])
      ≡ Ok (changed y notes)
      → Stand i m.slots (at + place lengths) [] y below inner z
      → Stand i slots at (lengths ++ m.length inner ∷ []) z behind all after
      → Stand i (slot table place ∷ slots) at lengths x
      (tree (begun ctor (at + place lengths) (m.length inner) y notes) below behind) all after

-- The first moment that can't be met: no constructor is chosen, an action fails, it is below, or
-- the first operand stands and it is behind.
pub data Stuck (i : Input) : List Slot → ℕ → List ℕ → ℕ → Fault → Type 0 where
  unmatched : {table : ℕ} {place : List ℕ → ℕ} {slots : List Slot} {at x : ℕ} {lengths : List ℕ}
      → chosen_at i table (at + place lengths) x ≡ None
      → Stuck i (slot table place ∷ slots) at lengths x (NoConstructor table (at + place lengths))
  undone : {table : ℕ} {place : List ℕ → ℕ} {slots : List Slot} {at x ctor : ℕ}
      {lengths : List ℕ} {m : Meaning} {fault : Fault}
      → chosen_at i table (at + place lengths) x ≡ Some (chosen ctor m)
      → m.early (site_at i ctor (at + place lengths) [] x 0) (changed x []) ≡ Err fault
      → Stuck i (slot table place ∷ slots) at lengths x fault
  below : {table : ℕ} {place : List ℕ → ℕ} {slots : List Slot} {at x y ctor : ℕ}
      {lengths : List ℕ} {m : Meaning} {notes : List Noted} {fault : Fault}
      → chosen_at i table (at + place lengths) x ≡ Some (chosen ctor m)
      → m.early (site_at i ctor (at + place lengths) [] x 0) (changed x [])
      ≡ Ok (changed y notes)
      → Stuck i m.slots (at + place lengths) [] y fault
      → Stuck i (slot table place ∷ slots) at lengths x fault
  behind : {table : ℕ} {place : List ℕ → ℕ} {slots : List Slot} {at x y z ctor : ℕ}
      {lengths inner : List ℕ} {m : Meaning} {notes : List Noted} {trees : Trees Begun}
      {fault : Fault}
      → chosen_at i table (at + place lengths) x ≡ Some (chosen ctor m)
      → m.early (site_at i ctor (at + place lengths) [] x 0) (changed x [])
      ≡ Ok (changed y notes)
      → Stand i m.slots (at + place lengths) [] y trees inner z
      → Stuck i slots at (lengths ++ m.length inner ∷ []) z fault
      → Stuck i (slot table place ∷ slots) at lengths x fault

-- what the rules say of an outcome
abbrev pub Rules : Input → List Slot → ℕ → List ℕ → ℕ → Result Grove Fault → Type 0
Rules i slots at lengths x (Ok g) = Stand i slots at lengths x g.trees g.lengths g.after
Rules i slots at lengths x (Err fault) = Stuck i slots at lengths x fault

-- Tables nest at most so deep below a table.
abbrev pub NestsWithin : Input → ℕ → ℕ → Type 0
NestsWithin i zero table = ⊥
NestsWithin i (suc levels) table = (at x ctor : ℕ) (m : Meaning)
    → chosen_at i table at x ≡ Some (chosen ctor m)
    → AllByRecursion (λ s. NestsWithin i levels (table_of s)) m.slots

-- Where tables nest at most so deep, what is grown is what the rules say.
abbrev pub GrowsByRules : Type 0
GrowsByRules = (i : Input) (levels : ℕ) (slots : List Slot) (at : ℕ) (lengths : List ℕ) (x : ℕ)
    → AllByRecursion (λ s. NestsWithin i levels (table_of s)) slots
    → Rules i slots at lengths x (operands (grow i levels) slots at lengths x)
