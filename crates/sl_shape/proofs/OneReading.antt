-- Two readings agree on each table, if it and those below it are tables by both.
use Rattle.std.proofs.Common.{◌≡◌, ℕ, zero, suc, ◌<◌, length, List, [], ◌∷◌, get_or, Option, Some, None, refl, sym, ap, ◌∙◌, arith}
use Rattle.std.specs.List.{AllByRecursion, Any}
use Rattle.sl_ast.specs.Trees.{Constructor, Pattern}
use Rattle.sl_ast.specs.Unfolding.{Placed}
use Rattle.sl_spec_constructors.specs.Listed.{AreListed}
use Rattle.sl_cube.specs.Points.{InRange}
use Rattle.sl_cube.specs.declared.Cube.{Cube}
use Rattle.sl_cube.specs.declared.Point.{Point}
use Rattle.sl_base_graphs.specs.Heights.{AreHeights}
use Rattle.sl_shape_patterns.specs.Patterns.{hull_at}
use Rattle.sl_shape_patterns.proofs.OneHull.{hulls_alike}
use Rattle.sl_shape.specs.PatternShapes.{Shapes}
use Rattle.sl_shape.specs.Tables.{CtorHolds, CtorTells, IfHolds, IfTells, IsTable, constructors_of, named_by, pattern_at, table_graph}
use Rattle.sl_shape.proofs.CarryLemmas.{Agree, AgreeAt, all_each, hull_same, shapes_same}
use Rattle.sl_shape.proofs.OrderLemmas.{named_below}
use Rattle.sl_shape.proofs.StandLemmas.{named_by_within, numbers_within, some_number}
use Rattle.sl_shape_tokens.specs.Shapes.{of_table}
use Rattle.sl_spec.specs.declared.tables.Tables.{Tables}

all_two : {X : Type 0} (P Q R : X → Type 0) → ((x : X) → P x → Q x → R x) → (xs : List X) → AllByRecursion P xs → AllByRecursion Q xs → AllByRecursion R xs
all_two P Q R f [] a b = tt
all_two P Q R f (x ∷ xs) a b = (f x a.0 b.0, all_two P Q R f xs a.1 b.1)

-- ---- a table without a fault has a point

module _ (t : Tables) (cs : List (Placed Constructor)) (r : Shapes) (k : List (Option Cube)) where
  -- Some point is one of these constructors'.
  abbrev HasSome : List ℕ → Type 0
  HasSome is = (x : Point) × InRange x × Any (λ i. CtorHolds t cs r k i x) is

  pattern_there : (cs : List (Placed Constructor)) (i : ℕ) → i < length cs → (p : Pattern) × (pattern_at cs i ≡ Some p)
  pattern_there [] i below = absurd (omega (arith, below))
  pattern_there (c ∷ cs) zero below = (c.1.pattern, refl)
  pattern_there (c ∷ cs) (suc i) below = pattern_there cs i (omega (arith, below))

  point_of : (o : Option Pattern) (p : Pattern) → o ≡ Some p → IfTells t cs r k o None → (x : Point) × InRange x × IfHolds t cs r k o x
  point_of None p e tells = absurd cc
  point_of (Some q) p e tells = tells.1.1.1

  some_point : (is : List ℕ) → 0 < length is → AllByRecursion (λ i. i < length cs) is → AllByRecursion (λ i. CtorTells t cs r k i None) is → HasSome is
  some_point [] some within sound = absurd (omega (arith, some))
  some_point (i ∷ is) some within sound =
      let pattern = pattern_there cs i within.0 in
      let point = point_of (pattern_at cs i) pattern.0 pattern.1 sound.0 in
      (point.0, point.1, (0, i, omega arith, refl, point.2))

-- ---- agreement

module _ (t : Tables) (cs : List (Placed Constructor)) (listed : AreListed t cs) (heights : List ℕ) (are : AreHeights (table_graph t cs) heights)
    (s r : Shapes) (h k : List (Option Cube)) where
  abbrev level : ℕ → ℕ
  level v = get_or heights v 0

  -- what a table names lies below it, and is a table
  named_each : (P : ℕ → Type 0) (u : ℕ) → ((w : ℕ) → level w < level u → w < length t.tables → P w)
      → AllByRecursion (λ i. AllByRecursion P (named_by t (pattern_at cs i))) (constructors_of t u)
  named_each P u each = all_each (λ i. AllByRecursion (λ w. level w < level u) (named_by t (pattern_at cs i)))
      (λ i. AllByRecursion P (named_by t (pattern_at cs i)))
      (λ i low. all_two (λ w. level w < level u) (λ w. w < length t.tables) P each (named_by t (pattern_at cs i)) low (named_by_within t (pattern_at cs i)))
      (constructors_of t u) (named_below t cs heights are u)

  -- The tables are so by both readings, and so are those below them.
  pub record AreBoth (D : ℕ → Type 0) : Type 0 where
    pub inside : (u : ℕ) → D u → u < length t.tables
    pub first : (u : ℕ) → D u → IsTable t cs s h u
    pub second : (u : ℕ) → D u → IsTable t cs r k u
    pub down : (u w : ℕ) → D u → w < length t.tables → level w < level u → D w

  module _ (D : ℕ → Type 0) (both : AreBoth D) where
    agree_here : (u : ℕ) → D u → AllByRecursion (AgreeAt t s r h k cs) (constructors_of t u) → Agree t s r h k u
    agree_here u d agree =
        let one = both.first u d in
        let two = both.second u d in
        let in_tables = both.inside u d in
        let point = some_point t cs r k (constructors_of t u) (some_number t cs listed u in_tables) (numbers_within t cs listed u in_tables) two.sound in
        record {
          shape = one.shape ∙ ap of_table (shapes_same t s r h k cs (constructors_of t u) agree) ∙ sym two.shape;
          hull = hulls_alike (λ x. Any (λ i. CtorHolds t cs r k i x) (constructors_of t u)) point.0 point.1 point.2 (hull_at h u) (hull_at k u)
              (hull_same t s r h k cs u agree (hull_at h u) one.hull) two.hull;
        }

    agree_up_to : (n u : ℕ) → D u → level u < n → Agree t s r h k u
    agree_up_to zero u d below = absurd (omega (arith, below))
    agree_up_to (suc n) u d below = agree_here u d (named_each (Agree t s r h k) u (λ w less inside.
        agree_up_to n w (both.down u w d inside less) (omega (arith, below, less))))

    pub tables_agree : (u : ℕ) → D u → Agree t s r h k u
    tables_agree u d = agree_up_to (suc (level u)) u d (omega arith)

    -- and on the constructors of a table whose lower ones are such tables
    pub ctors_agree : (u : ℕ) → ((w : ℕ) → w < length t.tables → level w < level u → D w) → AllByRecursion (AgreeAt t s r h k cs) (constructors_of t u)
    ctors_agree u lower = named_each (Agree t s r h k) u (λ w less inside. tables_agree w (lower w inside less))
