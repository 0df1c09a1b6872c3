-- step: tables one after another, in an order in which each stands behind those that it names.
use Rattle.std.specs.Prelude.{◌≡◌, ℕ, List}
use Rattle.std.specs.List.{AllByRecursion}
use Rattle.sl_ast.specs.Trees.{Constructor}
use Rattle.sl_ast.specs.Unfolding.{Placed}
use Rattle.sl_base_graphs.specs.Heights.{AreHeights}
use Rattle.sl_shape.specs.Next.{shapes_known}
use Rattle.sl_shape.specs.Tables.{HasSets, IsError, IsFirstAmong, IsTable, order_by, table_graph}
use Rattle.sl_shape.specs.declared.errors.ShapeError.{ShapeError}
use Rattle.sl_shape.specs.declared.shaping.Known.{Known}
use Rattle.sl_spec.specs.declared.tables.Tables.{Tables}

module _ (t : Tables) (cs : List (Placed Constructor)) where
  -- The order is by these heights.
  pub record IsBy (order heights : List ℕ) : Type 0 where
    pub are_heights : AreHeights (table_graph t cs) heights
    pub order_is : order ≡ order_by t heights

  -- The tables are ordered by their heights.
  abbrev pub IsOrdered : List ℕ → Type 0
  IsOrdered order = (heights : List ℕ) × IsBy order heights

  -- What is known of these tables is right, where the order is by heights.
  abbrev pub AreKnown : List ℕ → Known → List ℕ → Type 0
  AreKnown order known done = (heights : List ℕ) → IsBy order heights
      → AllByRecursion (IsTable t cs (shapes_known known) known.hulls.items) done
      × AllByRecursion (HasSets t cs (shapes_known known) known.hulls.items known.sets.items) done

  -- The error tells the first fault, where the order is by heights.
  abbrev pub FaultsIn : List ℕ → ShapeError → Type 0
  FaultsIn order e = (heights : List ℕ) → IsBy order heights → IsError (IsFirstAmong t cs order) e
