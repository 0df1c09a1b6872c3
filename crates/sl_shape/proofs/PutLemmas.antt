-- The shape and the hull of one table more are put: what was told of the tables before is told still.
use Rattle.std.proofs.Common.{◌≡◌, ◌≢◌, ℕ, ◌<◌, ◌≤◌, zero, suc, inl, inr, length, arith, List, [], ◌∷◌, ◌++◌, get_or, map, set, Option, None, refl, sym, ap, ◌∙◌, subst}
use Rattle.std.proofs.lemmas.Bool.{cases_eq}
use Rattle.std.specs.List.{AllByRecursion, Any}
use Rattle.std.specs.Prelude.{option_and_then}
use Rattle.sl_ast.specs.Trees.{Constructor}
use Rattle.sl_ast.specs.Unfolding.{Placed}
use Rattle.sl_cube.specs.declared.Cube.{Cube}
use Rattle.sl_base_graphs.specs.Heights.{AreHeights}
use Rattle.sl_shape_patterns.specs.Hulls.{IsHullOrNone}
use Rattle.sl_shape_patterns.specs.Patterns.{hull_at}
use Rattle.sl_shape_patterns.proofs.OneHull.{alike_same}
use Rattle.sl_shape.specs.PatternShapes.{Shapes}
use Rattle.sl_shape.specs.Tables.{CtorHolds, CtorTells, IsTable, constructors_of, ctor_shape, named_by, pattern_at, table_graph}
use Rattle.sl_shape.proofs.CarryLemmas.{Agree, AgreeAt, all_each, all_tell, hull_same, shapes_same, table_carried}
use Rattle.sl_shape.proofs.OrderLemmas.{named_below, set_here, set_other}
use Rattle.sl_shape_tokens.specs.Shapes.{Shape, of_nothing, of_table}
use Rattle.sl_spec.proofs.KeyedLemmas.{all_push}
use Rattle.sl_spec.specs.declared.tables.Tables.{Tables}

read_other : {X : Type 0} (xs : List X) (v w : ℕ) (x d : X) → w ≢ v → get_or (set xs v x) w d ≡ get_or xs w d
read_other [] v w x d apart = refl
read_other (y ∷ xs) zero zero x d apart = absurd (apart refl)
read_other (y ∷ xs) zero (suc w) x d apart = refl
read_other (y ∷ xs) (suc v) zero x d apart = refl
read_other (y ∷ xs) (suc v) (suc w) x d apart = read_other xs v w x d (λ e. apart (ap suc e))

read_here : {X : Type 0} (xs : List X) (v : ℕ) (x d : X) → v < length xs → get_or (set xs v x) v d ≡ x
read_here [] v x d below = absurd (omega arith)
read_here (y ∷ xs) zero x d below = refl
read_here (y ∷ xs) (suc v) x d below = read_here xs v x d (omega arith)

module _ (t : Tables) (s r : Shapes) (h k : List (Option Cube)) (table : ℕ) (shape : Shape) (hull : Option Cube)
    (shapes_are : r ≡ set s table shape) (hulls_are : k ≡ set h table hull) where
  pub shape_other : (w : ℕ) → w ≢ table → get_or s w of_nothing ≡ get_or r w of_nothing
  shape_other w apart = sym (ap (λ (l : Shapes). get_or l w of_nothing) shapes_are ∙ read_other s table w shape of_nothing apart)

  pub hull_other : (w : ℕ) → w ≢ table → hull_at h w ≡ hull_at k w
  hull_other w apart = sym (ap (λ (l : List (Option Cube)). hull_at l w) hulls_are ∙ ap (λ (o : Option (Option Cube)). option_and_then (λ h. h) o) (set_other h table w hull apart))

  agree_other : (w : ℕ) → w ≢ table → Agree t s r h k w
  agree_other w apart = record {
    shape = shape_other w apart;
    hull = alike_same (hull_at h w) (hull_at k w) (hull_other w apart);
  }

module _ (t : Tables) (cs : List (Placed Constructor)) (heights : List ℕ) (are : AreHeights (table_graph t cs) heights)
    (s r : Shapes) (h k : List (Option Cube)) (table : ℕ) (hull : Option Cube)
    (shapes_are : r ≡ set s table (of_table (map (ctor_shape t cs s) (constructors_of t table)))) (hulls_are : k ≡ set h table hull) where
  abbrev level : ℕ → ℕ
  level v = get_or heights v 0

  abbrev own_shape : Shape
  own_shape = of_table (map (ctor_shape t cs s) (constructors_of t table))

  pub agree_named : (u : ℕ) → level u ≤ level table → AllByRecursion (AgreeAt t s r h k cs) (constructors_of t u)
  agree_named u low = all_each (λ i. AllByRecursion (λ w. level w < level u) (named_by t (pattern_at cs i))) (AgreeAt t s r h k cs)
      (λ i all. all_each (λ w. level w < level u) (Agree t s r h k)
      (λ w below. agree_other t s r h k table own_shape hull shapes_are hulls_are w (λ e. let f = ap (level) e in omega (arith, below, low, f))) (named_by t (pattern_at cs i)) all)
      (constructors_of t u) (named_below t cs heights are u)

  pub own : AllByRecursion (AgreeAt t s r h k cs) (constructors_of t table)
  own = agree_named table (omega arith)

  -- tables before this one
  pub tables_still : (here : IsTable t cs r k table) (done : List ℕ) → AllByRecursion (λ u. level u ≤ level table) done → AllByRecursion (IsTable t cs s h) done → AllByRecursion (IsTable t cs r k) done
  tables_still here [] low all = tt
  tables_still here (u ∷ done) low all = (
    elim (cases_eq u table) [
      | inl same ↦ subst (λ (n : ℕ). IsTable t cs r k n) (sym same) here
      | inr apart ↦ table_carried t s r h k cs u (agree_named u low.0)
          (shape_other t s r h k table own_shape hull shapes_are hulls_are u apart) (hull_other t s r h k table own_shape hull shapes_are hulls_are u apart) all.0
    ],
    tables_still here done low.1 all.1,
  )

  module _ (is_hull : IsHullOrNone (λ x. Any (λ i. CtorHolds t cs s h i x) (constructors_of t table)) hull)
      (sound : AllByRecursion (λ i. CtorTells t cs s h i None) (constructors_of t table))
      (in_shapes : table < length s) (in_hulls : table < length h) where
    hull_here : hull_at k table ≡ hull
    hull_here = ap (λ (l : List (Option Cube)). hull_at l table) hulls_are ∙ ap (λ (o : Option (Option Cube)). option_and_then (λ h. h) o) (set_here h table hull in_hulls)

    table_put : IsTable t cs r k table
    table_put = record {
      shape =
          ap (λ (l : Shapes). get_or l table of_nothing) shapes_are ∙ read_here s table _ of_nothing in_shapes
          ∙ ap of_table (shapes_same t s r h k cs (constructors_of t table) own);
      hull = subst (λ (o : Option Cube). IsHullOrNone (λ x. Any (λ i. CtorHolds t cs r k i x) (constructors_of t table)) o) (sym hull_here)
          (hull_same t s r h k cs table own hull is_hull);
      sound = all_tell t s r h k cs (constructors_of t table) own sound;
    }

    pub tables_put : (done : List ℕ) → AllByRecursion (λ u. level u ≤ level table) done → AllByRecursion (IsTable t cs s h) done
        → AllByRecursion (IsTable t cs r k) (done ++ table ∷ [])
    tables_put done low all = all_push (IsTable t cs r k) done table (tables_still table_put done low all) table_put
