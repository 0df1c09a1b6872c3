-- law: the entries that stand for given constructors, and what a point picks.
use Rattle.std.specs.Prelude.{◌≡◌, ◌↔◌, ℕ, ◌+◌, ◌<◌, List, [], ◌∷◌, length, Option, Some, None, option_map, Contains, get_or, slice_get}
use Rattle.std.specs.List.{HoldsAt}
use Rattle.sl_cube.specs.declared.Point.{Point}
use Rattle.sl_cube.specs.Points.{IsIn}
use Rattle.sl_choose.specs.declared.Entry.{Entry}
use Rattle.sl_choose.specs.declared.chooser.Chooser.{Chooser}
use Rattle.sl_choose.specs.Trees.{IsTreeOf}
use Rattle.sl_cube_sets.specs.declared.CubeSet.{CubeSet}
use Rattle.sl_cube_sets.specs.Sets.{IsChoice, IsUnmatched}
use Rattle.sl_cube_sets.specs.Unions.{has_set}

-- The entry's constructor and set stand at its index in the lists, and its cube is one of the set's.
pub record IsGiven (ctors : List ℕ) (sets : List CubeSet) (e : Entry) : Type 0 where
  pub ctor_is : slice_get ctors e.set ≡ Some e.ctor
  pub union : CubeSet
  pub union_is : slice_get sets e.set ≡ Some union
  pub has : Contains union.cubes.items e.cube

-- The entries are all that are given.
abbrev pub AreEntriesOf : List ℕ → List CubeSet → List Entry → Type 0
AreEntriesOf ctors sets entries = (e : Entry) → Contains entries e ↔ IsGiven ctors sets e

-- How many cubes the sets have.
abbrev pub cubes_in : List CubeSet → ℕ
cubes_in [] = 0
cubes_in (s ∷ ss) = length s.cubes.items + cubes_in ss

-- The chooser's tree is one of the entries at each point, and it keeps how many there are.
pub record StandsFor (chooser : Chooser) (ctors : List ℕ) (sets : List CubeSet) : Type 0 where
  pub counted : chooser.cubes ≡ cubes_in sets
  pub entries : List Entry
  pub are_given : AreEntriesOf ctors sets entries
  pub tree : (p : Point) → IsTreeOf sets chooser.root entries p

-- What a point picks: the constructor of the choice, or none where no set has the point.
abbrev pub IsPick : List ℕ → List CubeSet → Point → Option ℕ → Type 0
IsPick ctors sets p None = IsUnmatched has_set sets p
IsPick ctors sets p (Some ctor) = (i : ℕ) × (slice_get ctors i ≡ Some ctor) × IsChoice has_set sets p i

-- The first entry that has the point.
pub record FirstHas (leaf : List Entry) (p : Point) (e : Entry) : Type 0 where
  pub place : ℕ
  pub within : place < length leaf
  pub entry_is : e ≡ get_or leaf place e
  pub has : IsIn p e.cube
  pub none_before : (k : ℕ) → k < place → HoldsAt (λ (x : Entry). IsIn p x.cube → ⊥) leaf k

abbrev pub IsFirst : List Entry → Point → Option Entry → Type 0
IsFirst leaf p None = (e : Entry) → Contains leaf e → IsIn p e.cube → ⊥
IsFirst leaf p (Some e) = FirstHas leaf p e

-- The first entry that has the point holds what the point picks, and there is none exactly where nothing is picked.
abbrev pub HoldsPick : List ℕ → List CubeSet → List Entry → Point → Type 0
HoldsPick ctors sets leaf p = (first : Option Entry) → IsFirst leaf p first → IsPick ctors sets p (option_map (λ e. e.ctor) first)
