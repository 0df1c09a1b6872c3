-- One table more is known: what was told of those before is told still.
use Rattle.std.proofs.Common.{◌≡◌, ℕ, ◌<◌, ◌≤◌, zero, suc, length, arith, List, [], ◌∷◌, ◌++◌, get_or, map, Option, None, refl, sym, ap, ◌∙◌, subst}
use Rattle.std.proofs.lemmas.List.{get_or_past}
use Rattle.std.specs.List.{AllByRecursion, Any}
use Rattle.std.specs.Prelude.{option_and_then, slice_get}
use Rattle.sl_ast.specs.Trees.{Constructor}
use Rattle.sl_ast.specs.Unfolding.{Placed}
use Rattle.sl_cube.specs.declared.Cube.{Cube}
use Rattle.sl_base_graphs.specs.Heights.{AreHeights}
use Rattle.sl_shape_patterns.specs.Hulls.{IsHullOrNone}
use Rattle.sl_shape.specs.Next.{IsNext, shapes_known}
use Rattle.sl_shape.specs.PatternShapes.{Shapes}
use Rattle.sl_shape.specs.Tables.{CtorHolds, CtorTells, HasSets, IfSetAt, IsTable, constructors_of, ctor_shape, numbers, table_graph}
use Rattle.sl_shape.specs.declared.shaping.Known.{Known}
use Rattle.sl_shape.proofs.CarryLemmas.{AgreeAt, all_each, sets_carried}
use Rattle.sl_shape.proofs.PutLemmas as put
use Rattle.sl_shape_tokens.specs.Shapes.{of_nothing, of_table}
use Rattle.sl_spec.proofs.KeyedLemmas.{all_push}
use Rattle.sl_spec.specs.declared.tables.Tables.{Tables}

get_past : {A : Type 0} (xs : List A) (i : ℕ) → length xs ≤ i → slice_get xs i ≡ None
get_past [] i e = refl
get_past (x ∷ xs) zero e = absurd (omega arith)
get_past (x ∷ xs) (suc i) e = get_past xs i (omega arith)

module _ (t : Tables) (cs : List (Placed Constructor)) (heights : List ℕ) (are : AreHeights (table_graph t cs) heights) (old new : Known) (table : ℕ)
    (next : IsNext t cs old new table) where
  abbrev pub level : ℕ → ℕ
  level v = get_or heights v 0

  abbrev s : Shapes
  s = shapes_known old

  abbrev r : Shapes
  r = shapes_known new

  abbrev h : List (Option Cube)
  h = old.hulls.items

  abbrev k : List (Option Cube)
  k = new.hulls.items

  own : AllByRecursion (AgreeAt t s r h k cs) (constructors_of t table)
  own = put.own t cs heights are s r h k table next.hull next.shapes_are next.hulls_are

  agree_named : (u : ℕ) → level u ≤ level table → AllByRecursion (AgreeAt t s r h k cs) (constructors_of t u)
  agree_named u low = put.agree_named t cs heights are s r h k table next.hull next.shapes_are next.hulls_are u low

  sets_still : (done : List ℕ) → AllByRecursion (λ u. level u ≤ level table) done → AllByRecursion (HasSets t cs s h old.sets.items) done → AllByRecursion (HasSets t cs r k new.sets.items) done
  sets_still [] low all = tt
  sets_still (u ∷ done) low all = (
    sets_carried t s r h k cs new.sets.items u (agree_named u low.0)
        (all_each (IfSetAt t cs s h old.sets.items) (IfSetAt t cs s h new.sets.items) (λ i f below. next.keeps i (f below)) (constructors_of t u) all.0),
    sets_still done low.1 all.1,
  )

  module _ (in_shapes : table < length (shapes_known old)) (in_hulls : table < length old.hulls.items) where
    pub next_tables : (done : List ℕ) → AllByRecursion (λ u. level u ≤ level table) done → AllByRecursion (IsTable t cs s h) done
        → AllByRecursion (IsTable t cs r k) (done ++ table ∷ [])
    next_tables done low all = put.tables_put t cs heights are s r h k table next.hull next.shapes_are next.hulls_are
        next.is_hull next.sound in_shapes in_hulls done low all

    pub next_sets : (done : List ℕ) → AllByRecursion (λ u. level u ≤ level table) done → AllByRecursion (HasSets t cs s h old.sets.items) done
        → AllByRecursion (HasSets t cs r k new.sets.items) (done ++ table ∷ [])
    next_sets done low all = all_push (HasSets t cs r k new.sets.items) done table (sets_still done low all) (sets_carried t s r h k cs new.sets.items table own next.have_sets)

  -- there is no such table
  module _ (past : length t.tables ≤ table) (out_shapes : length r ≤ table) (out_hulls : length k ≤ table) where
    none : constructors_of t table ≡ []
    none = ap numbers (get_past t.tables table past)

    table_past : IsTable t cs r k table
    table_past = record {
      shape = get_or_past r table of_nothing out_shapes ∙ sym (ap (λ (l : List ℕ). of_table (map (ctor_shape t cs r) l)) none);
      hull = subst (λ (o : Option Cube). IsHullOrNone (λ x. Any (λ i. CtorHolds t cs r k i x) (constructors_of t table)) o)
          (sym (ap (λ (o : Option (Option Cube)). option_and_then (λ h. h) o) (get_past k table out_hulls)))
          (λ x range w. subst (λ (l : List ℕ). Any (λ i. CtorHolds t cs r k i x) l → ⊥) (sym none) (λ v. omega (arith, v.2)) w);
      sound = subst (λ (l : List ℕ). AllByRecursion (λ i. CtorTells t cs r k i None) l) (sym none) tt;
    }

    pub tables_past : (done : List ℕ) → AllByRecursion (λ u. level u ≤ level table) done → AllByRecursion (IsTable t cs s h) done
        → AllByRecursion (IsTable t cs r k) (done ++ table ∷ [])
    tables_past done low all = all_push (IsTable t cs r k) done table
        (put.tables_still t cs heights are s r h k table next.hull next.shapes_are next.hulls_are table_past done low all) table_past

    pub sets_past : (done : List ℕ) → AllByRecursion (λ u. level u ≤ level table) done → AllByRecursion (HasSets t cs s h old.sets.items) done
        → AllByRecursion (HasSets t cs r k new.sets.items) (done ++ table ∷ [])
    sets_past done low all = all_push (HasSets t cs r k new.sets.items) done table (sets_still done low all)
        (subst (λ (l : List ℕ). AllByRecursion (IfSetAt t cs r k new.sets.items) l) (sym none) tt)
