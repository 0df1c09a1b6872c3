-- Where no table reaches itself, either no constructor has a fault or one is the first.
use Rattle.std.proofs.Common.{◌≡◌, ℕ, ◌<◌, ◌⊎◌, inl, inr, length, List, [], ◌∷◌, ◌++◌, map, set, Option, Some, None, refl, sym, ap, ◌∙◌, subst, append_assoc, arith}
use Rattle.std.proofs.lemmas.List.{append-nil, length-map, length-set}
use Rattle.std.specs.List.{AllByRecursion, Any}
use Rattle.sl_ast.specs.Trees.{Constructor}
use Rattle.sl_ast.specs.Unfolding.{Placed}
use Rattle.sl_base_surely.specs.Surely.{Surely}
use Rattle.sl_base_surely.proofs.SurelyLemmas.{surely, surely_map, surely_then}
use Rattle.sl_spec_constructors.specs.Listed.{AreListed}
use Rattle.sl_cube.specs.declared.Cube.{Cube}
use Rattle.sl_base_graphs.specs.Heights.{AreHeights}
use Rattle.sl_base_graphs.proofs.SomeHeights.{some_heights}
use Rattle.sl_base_graphs.specs.Orders.{NoneReaches}
use Rattle.sl_shape_patterns.specs.Hulls.{IsHullOrNone}
use Rattle.sl_shape_patterns.proofs.SomeHull.{some_hull}
use Rattle.sl_shape.specs.PatternShapes.{Shapes}
use Rattle.sl_shape.specs.Readings.{HasFirstFault, IsShaped}
use Rattle.sl_shape.specs.Tables.{CtorHolds, CtorTells, IsTable, constructors_of, ctor_shape, order_by, table_graph}
use Rattle.sl_shape.specs.declared.faults.Fault.{Fault}
use Rattle.sl_shape.proofs.CarryLemmas.{all_right}
use Rattle.sl_shape.proofs.FirstLemmas.{IsFirstTold}
use Rattle.sl_shape.proofs.PutLemmas.{tables_put}
use Rattle.sl_shape.proofs.SomeFault.{some_ctor_tells}
use Rattle.sl_shape.proofs.StandLemmas.{before_low, order_below}
use Rattle.sl_shape_tokens.specs.Shapes.{Shape, of_nothing, of_table}
use Rattle.sl_spec.specs.declared.tables.Tables.{Tables}

-- ---- the constructors of a table

module _ (t : Tables) (cs : List (Placed Constructor)) (s : Shapes) (h : List (Option Cube)) where
  abbrev AreSound : List ℕ → Type 0
  AreSound is = AllByRecursion (λ i. CtorTells t cs s h i None) is

  abbrev HasFirst : List ℕ → Type 0
  HasFirst is = (i : ℕ) × (f : Fault) × IsFirstTold (CtorTells t cs s h) is i f

  abbrev IsJudged : List ℕ → Type 0
  IsJudged is = AreSound is ⊎ HasFirst is

  behind_sound : (i : ℕ) (is : List ℕ) → CtorTells t cs s h i None → IsJudged is → IsJudged (i ∷ is)
  behind_sound i is sound (inl all) = inl (sound, all)
  behind_sound i is sound (inr first) = inr (
    first.0,
    first.1,
    record {
      earlier = i ∷ first.2.earlier;
      later = first.2.later;
      are = ap (λ (l : List ℕ). i ∷ l) first.2.are;
      sound = (sound, first.2.sound);
      tells = first.2.tells;
    },
  )

  judge : (i : ℕ) (is : List ℕ) (a : Option Fault) → CtorTells t cs s h i a → Surely (IsJudged is) → Surely (IsJudged (i ∷ is))
  judge i is None sound rest = surely_map {B = IsJudged (i ∷ is)} (λ judged. behind_sound i is sound judged) rest
  judge i is (Some f) tells rest = surely (inr (i, f, record { earlier = []; later = is; are = refl; sound = tt; tells = tells }))

  judged : (is : List ℕ) → Surely (IsJudged is)
  judged [] = surely (inl tt)
  judged (i ∷ is) = surely_then {B = IsJudged (i ∷ is)} (some_ctor_tells t s h cs i) (λ a. judge i is a.0 a.1 (judged is))

-- ---- table by table

module _ (t : Tables) (cs : List (Placed Constructor)) (listed : AreListed t cs) (heights : List ℕ) (are : AreHeights (table_graph t cs) heights) where
  abbrev order : List ℕ
  order = order_by t heights

  -- These tables have their shapes and hulls, and there is room for all.
  record AreSoFar (done : List ℕ) : Type 0 where
    shapes : Shapes
    hulls : List (Option Cube)
    shapes_long : length shapes ≡ length t.tables
    hulls_long : length hulls ≡ length t.tables
    tables : AllByRecursion (IsTable t cs shapes hulls) done

  abbrev pub IsDecided : Type 0
  IsDecided = IsShaped t cs ⊎ HasFirstFault t cs

  next : (done : List ℕ) (table : ℕ) (rest : List ℕ) → order ≡ done ++ table ∷ rest → (so : AreSoFar done)
      → AreSound t cs so.shapes so.hulls (constructors_of t table)
      → (hull : Option Cube) → IsHullOrNone (λ x. Any (λ i. CtorHolds t cs so.shapes so.hulls i x) (constructors_of t table)) hull
      → AreSoFar (done ++ table ∷ [])
  next done table rest is so sound hull is_hull =
      let shape : Shape = of_table (map (ctor_shape t cs so.shapes) (constructors_of t table)) in
      let below : table < length t.tables = (all_right (λ u. u < length t.tables) done (table ∷ rest)
      (subst (λ (l : List ℕ). AllByRecursion (λ u. u < length t.tables) l) is (order_below t cs listed heights))).0 in
      let in_shapes : table < length so.shapes = (let long = so.shapes_long in omega (arith, below, long)) in
      let in_hulls : table < length so.hulls = (let long = so.hulls_long in omega (arith, below, long)) in
      record {
        shapes = set so.shapes table shape;
        hulls = set so.hulls table hull;
        shapes_long = length-set so.shapes table shape ∙ so.shapes_long;
        hulls_long = length-set so.hulls table hull ∙ so.hulls_long;
        tables = tables_put t cs heights are so.shapes (set so.shapes table shape) so.hulls (set so.hulls table hull) table hull refl refl
            is_hull sound in_shapes in_hulls done (before_low t cs listed heights done table rest is) so.tables;
      }

  faulty : (done : List ℕ) (table : ℕ) (rest : List ℕ) → order ≡ done ++ table ∷ rest → (so : AreSoFar done)
      → HasFirst t cs so.shapes so.hulls (constructors_of t table) → HasFirstFault t cs
  faulty done table rest is so first = (
    first.0,
    first.1,
    record {
      heights = heights;
      are_heights = are;
      first = record {
        before = done;
        table = table;
        after = rest;
        order_is = is;
        shapes = so.shapes;
        hulls = so.hulls;
        tables = so.tables;
        earlier = first.2.earlier;
        later = first.2.later;
        numbers_are = first.2.are;
        sound = first.2.sound;
        tells = first.2.tells;
      };
    },
  )

  all_done : (done : List ℕ) → order ≡ done ++ [] → AreSoFar done → IsShaped t cs
  all_done done is so = record {
    shapes = so.shapes;
    hulls = so.hulls;
    read = record {
      heights = heights;
      are_heights = are;
      tables = subst (λ (l : List ℕ). AllByRecursion (IsTable t cs so.shapes so.hulls) l) (sym (is ∙ append-nil done)) so.tables;
    };
  }

  decide : (rest done : List ℕ) → order ≡ done ++ rest → AreSoFar done → Surely IsDecided
  decide [] done is so = surely (inl (all_done done is so))
  decide (table ∷ rest) done is so = surely_then {B = IsDecided} (judged t cs so.shapes so.hulls (constructors_of t table)) (λ found. elim found [
    | inr first ↦ surely (inr (faulty done table rest is so first))
    | inl sound ↦ surely_then {B = IsDecided} (some_hull (λ x. Any (λ i. CtorHolds t cs so.shapes so.hulls i x) (constructors_of t table))) (λ hull.
        decide rest (done ++ table ∷ []) (is ∙ sym (append_assoc done (table ∷ []) rest)) (next done table rest is so sound hull.0 hull.1))
  ])

  nothing_yet : AreSoFar []
  nothing_yet = record {
    shapes = map (λ b. of_nothing) t.tables;
    hulls = map (λ b. None) t.tables;
    shapes_long = length-map t.tables (λ b. of_nothing);
    hulls_long = length-map t.tables (λ b. None);
    tables = tt;
  }

  decided : Surely IsDecided
  decided = decide order [] refl nothing_yet

pub some_reading : (t : Tables) (cs : List (Placed Constructor)) → AreListed t cs → NoneReaches (table_graph t cs) → Surely (IsShaped t cs ⊎ HasFirstFault t cs)
some_reading t cs listed none = let heights = some_heights (table_graph t cs) none in decided t cs listed heights.0 heights.1
