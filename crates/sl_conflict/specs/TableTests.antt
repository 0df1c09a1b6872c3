-- view: what the test of tables tells, and the sets of points that it has of them.
use Rattle.std.specs.Prelude.{◌≡◌, ℕ, List, length, Some, slice_get}
use Rattle.sl_ast.specs.Trees.{Constructor}
use Rattle.sl_ast.specs.Unfolding.{Placed}
use Rattle.sl_conflict.specs.Ambiguity.{IsOf}
use Rattle.sl_conflict.specs.Kept.{HasChoices}
use Rattle.sl_conflict.specs.declared.judging.ConflictError.{ConflictError}
use Rattle.sl_conflict.specs.declared.judging.ConflictError.TheVariants as conflict
use Rattle.sl_conflict.specs.declared.table_sets.TableSets.{TableSets}
use Rattle.sl_shape_constraints.specs.Sets.{IsUnionOf}
use Rattle.sl_spec_constructors.specs.Listed.{AreListed}
use Rattle.sl_base_graphs.specs.Orders.{NoneReaches}
use Rattle.sl_cube_sets.specs.declared.CubeSet.{CubeSet}
use Rattle.sl_shape.specs.Readings.{HasPoint}
use Rattle.sl_shape.specs.Tables.{IsError, IsFirstFault, table_graph}
use Rattle.sl_spec.specs.declared.tables.Tables.{Tables}
use Rattle.sl_conflict.specs.declared.soundness.Unsound.{Unsound}
use Rattle.sl_conflict.specs.declared.soundness.Unsound.TheVariants as u
use Rattle.sl_conflict.specs.Soundness.{IsAmbiguousAt}

-- The tables and the constructors are those of a specification that keeps the rules of tables: each table has its
-- constructors, and none reaches itself.
pub record Stand (t : Tables) (cs : List (Placed Constructor)) : Type 0 where
  pub listed : AreListed t cs
  pub acyclic : NoneReaches (table_graph t cs)

module _ (t : Tables) (cs : List (Placed Constructor)) where
  -- the table that isn't settled, with the report; want of memory is free
  abbrev pub TellsTable : ConflictError → Type 0
  TellsTable (conflict.Ambiguous table first second both apart) =
      IsAmbiguousAt t cs table (record { both = both; first = first; second = second; apart = apart })
  TellsTable conflict.NoMemory = Unit {0}

  -- why the tables aren't sound
  abbrev pub Refuses : Unsound → Type 0
  Refuses (u.Shape error) = IsError (IsFirstFault t cs) error
  Refuses (u.Conflict error) = TellsTable error

  -- The set of the constructor with this number has its points.
  pub record IsSetOf (number : ℕ) (set : CubeSet) : Type 0 where
    pub union : IsUnionOf (HasPoint t cs number) set.cubes.items

  -- Each table has its constructors, all of them, and a set for each; and where some set has a point there is a choice.
  pub record AreSetsOf (kept : List TableSets) : Type 0 where
    pub counted : length kept ≡ length t.tables
    pub own : (table : ℕ) (k : TableSets) (place number : ℕ) → slice_get kept table ≡ Some k
        → slice_get k.ctors.items place ≡ Some number → IsOf t.constructors table number
    pub all : (table : ℕ) (k : TableSets) (number : ℕ) → slice_get kept table ≡ Some k
        → IsOf t.constructors table number → (place : ℕ) × (slice_get k.ctors.items place ≡ Some number)
    pub sets : (table : ℕ) (k : TableSets) (place number : ℕ) (set : CubeSet) → slice_get kept table ≡ Some k
        → slice_get k.ctors.items place ≡ Some number → slice_get k.sets.items place ≡ Some set → IsSetOf number set
    pub choices : (table : ℕ) (k : TableSets) → slice_get kept table ≡ Some k → HasChoices k
