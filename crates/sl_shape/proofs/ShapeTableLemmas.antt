-- The shape, the hull and the sets of a table, from those of its constructors.
use Rattle.std.proofs.Common.{◌≡◌, ℕ, ◌≤◌, zero, suc, inl, inr, length, arith, List, [], ◌∷◌, map, set, Option, Some, None, refl, sym, ap, ◌∙◌, subst}
use Rattle.std.proofs.lemmas.Bool.{cases_lt}
use Rattle.std.proofs.lemmas.List.{length-map}
use Rattle.std.specs.List.{AllByRecursion, Any}
use Rattle.std.specs.Prelude.{option_map, slice_get}
use Rattle.sl_ast.specs.Trees.{Constructor}
use Rattle.sl_ast.specs.Unfolding.{Placed}
use Rattle.sl_cube.specs.Points.{InRange}
use Rattle.sl_cube.specs.declared.Cube.{Cube}
use Rattle.sl_cube.specs.declared.Point.{Point}
use Rattle.sl_shape_patterns.specs.Hulls.{IsHullOrNone, TableHas}
use Rattle.sl_shape_patterns.proofs.HullLemmas.{found_same}
use Rattle.sl_cube_sets.specs.Sets.{HasAt}
use Rattle.sl_cube_sets.specs.Unions.{has_set}
use Rattle.sl_cube_sets.specs.declared.CubeSet.{CubeSet}
use Rattle.sl_shape.specs.Adding.{AreAdded, IsFirstIn}
use Rattle.sl_shape.specs.Below.{AreSized, Shows}
use Rattle.sl_shape.specs.HeadsMade.{AreSameBut}
use Rattle.sl_shape.specs.Next.{IsFirstOf, IsNext, IsRight, shapes_known}
use Rattle.sl_shape.specs.PatternShapes.{Shapes}
use Rattle.sl_shape.specs.Tables.{CtorHolds, CtorTells, IfHolds, IfSetAt, IsError, IsSetAt, constructors_of, ctor_shape, numbers}
use Rattle.sl_shape.specs.declared.below.Below.{Below}
use Rattle.sl_shape.specs.declared.below.TokenLists.{TokenLists}
use Rattle.sl_shape.specs.declared.errors.ShapeError.{ShapeError}
use Rattle.sl_shape.specs.declared.shaping.Known.{Known}
use Rattle.sl_shape.proofs.AddLoopLemmas.{error_map}
use Rattle.sl_shape.proofs.BelowLemmas.{all_seen}
use Rattle.sl_shape.proofs.CarryLemmas.{any_each}
use Rattle.sl_shape.proofs.PutLemmas.{hull_other, shape_other}
use Rattle.sl_shape_tokens.proofs.ListLemmas.{keeps_more}
use Rattle.sl_shape_tokens.specs.Lists.{IsThere, Keeps, seen}
use Rattle.sl_shape_tokens.specs.Shapes.{of_table}
use Rattle.sl_shape_tokens.specs.declared.shapes.Shape as code
use Rattle.sl_spec.specs.declared.tables.Tables.{Tables}

map_set : {A B : Type 0} (f : A → B) (xs : List A) (i : ℕ) (x : A) → map f (set xs i x) ≡ set (map f xs) i (f x)
map_set f [] i x = refl
map_set f (y ∷ xs) zero x = refl
map_set f (y ∷ xs) (suc i) x = ap (λ l. f y ∷ l) (map_set f xs i x)

pub all_set : {A : Type 0} (P : A → Type 0) (xs : List A) (i : ℕ) (x : A) → AllByRecursion P xs → P x → AllByRecursion P (set xs i x)
all_set P [] i x all p = tt
all_set P (y ∷ xs) zero x all p = (p, all.1)
all_set P (y ∷ xs) (suc i) x all p = (all.0, all_set P xs i x all.1 p)

get_past : {A : Type 0} (xs : List A) (i : ℕ) → length xs ≤ i → slice_get xs i ≡ None
get_past [] i e = refl
get_past (x ∷ xs) zero e = absurd (omega arith)
get_past (x ∷ xs) (suc i) e = get_past xs i (omega arith)

some_none : {A : Type 0} {B : Type 0} (o : Option A) (x : A) → o ≡ Some x → o ≡ None → B
some_none None x e f = absurd cc
some_none (Some y) x e f = absurd cc

-- ---- what the sets have

module _ (t : Tables) (cs : List (Placed Constructor)) (shapes : Shapes) (hulls : List (Option Cube)) (sets : List CubeSet) (counted : length sets ≡ length cs) where
  past_holds : (i : ℕ) → length cs ≤ i → (x : Point) → CtorHolds t cs shapes hulls i x → ⊥
  past_holds i past x h = subst (λ o. IfHolds t cs shapes hulls o x) (ap (option_map (λ c. c.1.pattern)) (get_past cs i past)) h

  has_one : (i : ℕ) → IfSetAt t cs shapes hulls sets i → (x : Point) → InRange x
      → (HasAt has_set sets x i → CtorHolds t cs shapes hulls i x) × (CtorHolds t cs shapes hulls i x → HasAt has_set sets x i)
  has_one i f x range = elim (cases_lt i (length cs)) [
    | inl below ↦ let s = f below in (
      λ w. (s.union x range).0 (subst (λ (c : CubeSet). has_set c x) (same w.0 s.set (sym w.1 ∙ s.set_is)) w.2),
      λ h. (s.set, s.set_is, (s.union x range).1 h),
    )
    | inr past ↦ (
      λ w. some_none (slice_get sets i) w.0 w.1 (get_past sets i (omega (arith, past, counted))),
      λ h. absurd (past_holds i past x h),
    )
  ]
    where
      same : (c d : CubeSet) → Some c ≡ Some d → c ≡ d
      same c d e = ap (λ (o : Option CubeSet). elim o [ Some y ↦ y | None ↦ c ]) e

  has_each : (x : Point) → InRange x → (is : List ℕ) → AllByRecursion (IfSetAt t cs shapes hulls sets) is
      → AllByRecursion (λ i. HasAt has_set sets x i → CtorHolds t cs shapes hulls i x) is × AllByRecursion (λ i. CtorHolds t cs shapes hulls i x → HasAt has_set sets x i) is
  has_each x range [] all = (tt, tt)
  has_each x range (i ∷ is) all =
      let here = has_one i all.0 x range in
      let rest = has_each x range is all.1 in
      ((here.0, rest.0), (here.1, rest.1))

  pub hull_found : (is : List ℕ) → AllByRecursion (IfSetAt t cs shapes hulls sets) is → (found : Option Cube) → IsHullOrNone (TableHas sets is) found
      → IsHullOrNone (λ x. Any (λ i. CtorHolds t cs shapes hulls i x) is) found
  hull_found is all found h = found_same (TableHas sets is) (λ x. Any (λ i. CtorHolds t cs shapes hulls i x) is) found
      (λ x range w. any_each (λ i. HasAt has_set sets x i) (λ i. CtorHolds t cs shapes hulls i x) is (has_each x range is all).0 w)
      (λ x range w. any_each (λ i. CtorHolds t cs shapes hulls i x) (λ i. HasAt has_set sets x i) is (has_each x range is all).1 w) h

-- ---- the table

module _ (b : Below) (cs : List (Placed Constructor)) (old : Known) (count : ℕ) (shapes_are : b.shapes.now ≡ old.shapes.items) (hulls_are : b.hulls.now ≡ old.hulls.items)
    (right : IsRight b.tables.now count old) where
  pub sized_below : AreSized b old.lists
  sized_below = record { sizes = right.sizes; old = right.old; knows = right.knows; keeps = right.keeps }

  pub shown_below : Shows b old.lists (shapes_known old)
  shown_below = record {
    there = subst (λ (l : List code.Shape). AllByRecursion (IsThere old.lists.all) l) (sym shapes_are) right.there;
    are = ap (map (seen old.lists.all)) shapes_are;
  }

  module _ (table : ℕ) (is : List ℕ) (is_are : is ≡ constructors_of b.tables.now table) where
    pub error_below : (e : ShapeError) → IsError (IsFirstIn b cs (shapes_known old) is) e → IsError (IsFirstOf b.tables.now cs old table) e
    error_below e h = error_map (IsFirstIn b cs (shapes_known old) is) (IsFirstOf b.tables.now cs old table) (λ i f first. record {
      earlier = first.earlier;
      later = first.later;
      numbers_are = sym is_are ∙ first.numbers_are;
      sound = subst (λ (h : List (Option Cube)). AllByRecursion (λ i. CtorTells b.tables.now cs (shapes_known old) h i None) first.earlier) hulls_are first.sound;
      tells = subst (λ (h : List (Option Cube)). CtorTells b.tables.now cs (shapes_known old) h i (Some f)) hulls_are first.tells;
    }) e h

    pub next_goes : (new : Known) (lists : TokenLists) (found : List code.Shape) (shape : code.Shape) (hull : Option Cube)
        → AreAdded b cs (shapes_known old) old.lists lists old.sets.items new.sets.items is found → length new.sets.items ≡ length cs
        → Keeps lists.all new.lists.all → seen new.lists.all shape ≡ of_table (map (seen lists.all) found)
        → new.shapes.items ≡ set old.shapes.items table shape → new.hulls.items ≡ set old.hulls.items table hull
        → IsHullOrNone (TableHas new.sets.items is) hull → IsNext b.tables.now cs old new table
    next_goes new lists found shape hull added counted keeps seen_is shapes_put hulls_put is_hull =
        let t = b.tables.now in
        let s = shapes_known old in
        let have : AllByRecursion (IfSetAt t cs s old.hulls.items new.sets.items) is = subst (λ (h : List (Option Cube)). AllByRecursion (IfSetAt t cs s h new.sets.items) is) hulls_are added.have_sets in
        record {
          shapes_are =
              ap (map (seen new.lists.all)) shapes_put ∙ map_set (seen new.lists.all) old.shapes.items table shape
              ∙ (λ k. set (all_seen old.lists.all new.lists.all (keeps_more old.lists.all lists.all new.lists.all added.lists keeps) old.shapes.items right.there k) table
              ((seen_is ∙ ap of_table added.found_are ∙ ap (λ (l : List ℕ). of_table (map (ctor_shape t cs s) l)) is_are) k));
          hull = hull;
          hulls_are = hulls_put;
          is_hull = subst (λ (l : List ℕ). IsHullOrNone (λ x. Any (λ i. CtorHolds t cs s old.hulls.items i x) l) hull) is_are
              (hull_found t cs s old.hulls.items new.sets.items counted is have hull is_hull);
          sound = subst (λ (l : List ℕ). AllByRecursion (λ i. CtorTells t cs s old.hulls.items i None) l) is_are
              (subst (λ (h : List (Option Cube)). AllByRecursion (λ i. CtorTells t cs s h i None) is) hulls_are added.sound);
          have_sets = subst (λ (l : List ℕ). AllByRecursion (IfSetAt t cs s old.hulls.items new.sets.items) l) is_are have;
          keeps = λ i. subst (λ (h : List (Option Cube)). IsSetAt t cs s h old.sets.items i → IsSetAt t cs s h new.sets.items i) hulls_are (added.keeps i);
        }

-- ---- what was made of blocks

-- One table's shape and hull are put.
pub same_but : (b next : Below) (l : TokenLists) (table : ℕ) (shape : code.Shape) (hull : Option Cube) → b.tables.now ≡ next.tables.now
    → AllByRecursion (IsThere l.all) next.shapes.now → next.shapes.now ≡ set b.shapes.now table shape → next.hulls.now ≡ set b.hulls.now table hull → AreSameBut table b next l
same_but b next l table shape hull tables there shapes_put hulls_put =
    let s = map (seen l.all) b.shapes.now in
    let r = map (seen l.all) next.shapes.now in
    let are : r ≡ set s table (seen l.all shape) = ap (map (seen l.all)) shapes_put ∙ map_set (seen l.all) b.shapes.now table shape in
    record {
      tables = tables;
      there = there;
      shapes = shape_other b.tables.now s r b.hulls.now next.hulls.now table (seen l.all shape) hull are hulls_put;
      hulls = hull_other b.tables.now s r b.hulls.now next.hulls.now table (seen l.all shape) hull are hulls_put;
    }

-- ---- no such table

none_length : {A : Type 0} (xs : List A) (i : ℕ) → slice_get xs i ≡ None → length xs ≤ i
none_length [] i e = omega arith
none_length (x ∷ xs) zero e = absurd cc
none_length (x ∷ xs) (suc i) e = let r = none_length xs i e in omega (arith, r)

set_past : {A : Type 0} (xs : List A) (i : ℕ) (x : A) → length xs ≤ i → set xs i x ≡ xs
set_past [] i x e = refl
set_past (y ∷ xs) zero x e = absurd (omega arith)
set_past (y ∷ xs) (suc i) x e = ap (λ l. y ∷ l) (set_past xs i x (omega arith))

pub none_next : (t : Tables) (cs : List (Placed Constructor)) (old : Known) (count table : ℕ) → IsRight t count old → slice_get t.tables table ≡ None → IsNext t cs old old table
none_next t cs old count table right e =
    let none : constructors_of t table ≡ [] = ap numbers e in
    let past = none_length t.tables table e in
    let long = length-map old.shapes.items (seen old.lists.all) in
    record {
      shapes_are = sym (set_past (shapes_known old) table _ (omega (arith, past, long, right.shapes)));
      hull = None;
      hulls_are = sym (set_past old.hulls.items table None (omega (arith, past, right.hulls)));
      is_hull = λ x range w. subst (λ (l : List ℕ). Any (λ i. CtorHolds t cs (shapes_known old) old.hulls.items i x) l → ⊥) (sym none) (λ v. omega (arith, v.2)) w;
      sound = subst (λ (l : List ℕ). AllByRecursion (λ i. CtorTells t cs (shapes_known old) old.hulls.items i None) l) (sym none) tt;
      have_sets = subst (λ (l : List ℕ). AllByRecursion (IfSetAt t cs (shapes_known old) old.hulls.items old.sets.items) l) (sym none) tt;
      keeps = λ i h. h;
    }
