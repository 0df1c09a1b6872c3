-- The points of constructors don't depend on the reading, and the sets of the program have them.
use Rattle.std.proofs.Common.{◌↔◌, ℕ, ◌<◌, length, List, Option}
use Rattle.sl_ast.specs.Trees.{Constructor}
use Rattle.sl_ast.specs.Unfolding.{Placed}
use Rattle.sl_spec_constructors.specs.Listed.{AreListed}
use Rattle.sl_cube.specs.Points.{InRange}
use Rattle.sl_cube.specs.declared.Cube.{Cube}
use Rattle.sl_cube.specs.declared.Point.{Point}
use Rattle.sl_cube_sets.specs.declared.CubeSet.{CubeSet}
use Rattle.sl_shape.specs.PatternShapes.{Shapes}
use Rattle.sl_shape.specs.Readings.{AreRead, HasItsSet, HasPoint, IsShaped}
use Rattle.sl_shape.specs.Tables.{AreShaped, CtorHolds, HasSets, IfSetAt, IsSetAt, IsTable, constructors_of, named_by, order_by, pattern_at}
use Rattle.sl_shape.proofs.AmongLemmas.{among_all}
use Rattle.sl_shape.proofs.CarryLemmas.{Agree, AgreeAt, all_each, if_holds}
use Rattle.sl_shape.proofs.OneReading.{tables_agree}
use Rattle.sl_shape.proofs.StandLemmas.{in_its_table, in_order, named_by_within}
use Rattle.sl_spec.specs.declared.tables.Tables.{Tables}

pub are_read : (t : Tables) (cs : List (Placed Constructor)) (sets : List CubeSet) (hulls : List (Option Cube)) (are : AreShaped t cs sets hulls)
    → AreRead t cs are.shapes hulls
are_read t cs sets hulls are = record { heights = are.heights; are_heights = are.are_heights; tables = are.tables }

pub is_shaped : (t : Tables) (cs : List (Placed Constructor)) (sets : List CubeSet) (hulls : List (Option Cube)) → AreShaped t cs sets hulls → IsShaped t cs
is_shaped t cs sets hulls are = record { shapes = are.shapes; hulls = hulls; read = are_read t cs sets hulls are }

module _ (t : Tables) (cs : List (Placed Constructor)) (listed : AreListed t cs) where
  -- each table is one by a reading
  pub table_read : (s : Shapes) (h : List (Option Cube)) → AreRead t cs s h → (u : ℕ) → u < length t.tables → IsTable t cs s h u
  table_read s h read u inside = among_all (IsTable t cs s h) (order_by t read.heights) u read.tables (in_order t cs listed read.heights u inside)

  module _ (s r : Shapes) (h k : List (Option Cube)) (one : AreRead t cs s h) (two : AreRead t cs r k) where
    -- two readings agree on each table
    pub reads_agree : (u : ℕ) → u < length t.tables → Agree t s r h k u
    reads_agree u inside = tables_agree t cs listed one.heights one.are_heights s r h k (λ v. v < length t.tables) (record {
      inside = λ v d. d;
      first = λ v d. table_read s h one v d;
      second = λ v d. table_read r k two v d;
      down = λ v w d below less. below;
    }) u inside

    -- and on what a constructor names
    pub reads_agree_at : (i : ℕ) → AgreeAt t s r h k cs i
    reads_agree_at i = all_each (λ w. w < length t.tables) (Agree t s r h k) reads_agree (named_by t (pattern_at cs i)) (named_by_within t (pattern_at cs i))

    -- so a constructor has the same points by both
    pub points_same : (i : ℕ) (x : Point) → InRange x → CtorHolds t cs s h i x ↔ CtorHolds t cs r k i x
    points_same i x range = if_holds t s r h k cs (pattern_at cs i) (reads_agree_at i) x range

  -- the points of a constructor are those by any reading
  pub has_point : (s : Shapes) (h : List (Option Cube)) → AreRead t cs s h → (i : ℕ) (x : Point) → InRange x → HasPoint t cs i x ↔ CtorHolds t cs s h i x
  has_point s h read i x range = (
    λ p. (points_same p.shapes s p.hulls h p.read read i x range).0 p.holds,
    λ c. record { shapes = s; hulls = h; read = read; holds = c },
  )

  module _ (sets : List CubeSet) (hulls : List (Option Cube)) (are : AreShaped t cs sets hulls) where
    its_set : (i : ℕ) → IsSetAt t cs are.shapes hulls sets i → HasItsSet t cs sets i
    its_set i is = record {
      set = is.set;
      set_is = is.set_is;
      union = λ x range.
          let same = has_point are.shapes hulls (are_read t cs sets hulls are) i x range in
          let union = is.union x range in
          (λ inside. same.1 (union.0 inside), λ p. union.1 (same.0 p));
    }

    -- the set of each constructor is there, and has its points
    pub sets_have_points : (i : ℕ) → i < length cs → HasItsSet t cs sets i
    sets_have_points i inside =
        let at = in_its_table t cs listed i inside in
        let its = among_all (HasSets t cs are.shapes hulls sets) (order_by t are.heights) at.0 are.have_sets (in_order t cs listed are.heights at.0 at.1) in
        its_set i (among_all (IfSetAt t cs are.shapes hulls sets) (constructors_of t at.0) i its at.2 inside)
