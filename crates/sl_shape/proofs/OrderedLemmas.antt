-- Tables one after another.
use Rattle.std.proofs.Common.{◌≡◌, ℕ, zero, suc, ◌+◌, ◌<◌, ◌≤◌, inl, inr, length, arith, List, [], ◌∷◌, ◌++◌, get_or, take, drop, refl, sym, ap, ◌∙◌, subst}
use Rattle.std.proofs.lemmas.Bool.{cases_lt}
use Rattle.std.proofs.lemmas.List.{drop_more, length-map, take-append-drop, take_all, take_more}
use Rattle.std.specs.List.{AllByRecursion}
use Rattle.sl_ast.specs.Trees.{Constructor}
use Rattle.sl_ast.specs.Unfolding.{Placed}
use Rattle.sl_shape.specs.Next.{IsFirstOf, IsNext, IsRight, shapes_known}
use Rattle.sl_shape.specs.Ordered.{AreKnown, FaultsIn, IsBy, IsOrdered}
use Rattle.sl_shape.specs.Tables.{AreShaped, HasSets, IsError, IsFirstAmong, IsFirstFault, IsTable, appearing}
use Rattle.sl_shape.specs.declared.errors.ShapeError.{ShapeError}
use Rattle.sl_shape.specs.declared.shaping.Known.{Known}
use Rattle.sl_shape.proofs.AddLoopLemmas.{error_map}
use Rattle.sl_shape.proofs.NextLemmas.{next_sets, next_tables, sets_past, tables_past}
use Rattle.sl_shape.proofs.OrderLemmas.{IsSorted, all_before, sorted}
use Rattle.sl_shape_tokens.specs.Lists.{seen}
use Rattle.sl_spec.specs.declared.tables.Tables.{Tables}

pub read_any : (xs : List ℕ) (i d e : ℕ) → i < length xs → get_or xs i d ≡ get_or xs i e
read_any [] i d e below = absurd (omega arith)
read_any (x ∷ xs) zero d e below = refl
read_any (x ∷ xs) (suc i) d e below = read_any xs i d e (omega arith)

module _ (t : Tables) (cs : List (Placed Constructor)) (order : List ℕ) (i table : ℕ) (below : i < length order) (at : table ≡ get_or order i table) where
  parts : order ≡ take i order ++ table ∷ drop (i + 1) order
  parts = sym (take-append-drop i order) ∙ ap (λ (l : List ℕ). take i order ++ l) (drop_more order i table below ∙ ap (λ n. n ∷ drop (i + 1) order) (sym at))

  more : take (i + 1) order ≡ take i order ++ table ∷ []
  more = take_more order i table below ∙ ap (λ n. take i order ++ n ∷ []) (sym at)

  low : (heights : List ℕ) → IsBy t cs order heights → AllByRecursion (λ u. get_or heights u 0 ≤ get_or heights table 0) (take i order)
  low heights by = all_before (λ v. get_or heights v 0) (take i order) table (drop (i + 1) order)
      (subst (λ (l : List ℕ). IsSorted (λ v. get_or heights v 0) l) (sym by.order_is ∙ parts) (sorted (λ v. get_or heights v 0) (appearing t)))

  module _ (old : Known) (known : AreKnown t cs order old (take i order)) where
    pub known_more : (new : Known) (count : ℕ) → IsRight t count old → IsRight t count new → IsNext t cs old new table → AreKnown t cs order new (take (i + 1) order)
    known_more new count right was next = λ heights by.
        let so = known heights by in
        let l = low heights by in
        let long = length-map old.shapes.items (seen old.lists.all) in
        let wide = length-map new.shapes.items (seen new.lists.all) in
        elim (cases_lt table (length t.tables)) [
          | inl there ↦
              let in_shapes : table < length (shapes_known old) = omega (arith, there, long, right.shapes) in
              let in_hulls : table < length old.hulls.items = omega (arith, there, right.hulls) in (
                subst (λ (l : List ℕ). AllByRecursion (IsTable t cs (shapes_known new) new.hulls.items) l) (sym more)
                    (next_tables t cs heights by.are_heights old new table next in_shapes in_hulls (take i order) l so.0),
                subst (λ (l : List ℕ). AllByRecursion (HasSets t cs (shapes_known new) new.hulls.items new.sets.items) l) (sym more)
                    (next_sets t cs heights by.are_heights old new table next in_shapes in_hulls (take i order) l so.1),
              )
          | inr past ↦ (
            subst (λ (l : List ℕ). AllByRecursion (IsTable t cs (shapes_known new) new.hulls.items) l) (sym more)
                (tables_past t cs heights by.are_heights old new table next past (omega (arith, past, wide, was.shapes)) (omega (arith, past, was.hulls)) (take i order) l so.0),
            subst (λ (l : List ℕ). AllByRecursion (HasSets t cs (shapes_known new) new.hulls.items new.sets.items) l) (sym more)
                (sets_past t cs heights by.are_heights old new table next past (omega (arith, past, wide, was.shapes)) (omega (arith, past, was.hulls)) (take i order) l so.1),
          )
        ]

    pub faults_here : (e : ShapeError) → IsError (IsFirstOf t cs old table) e → FaultsIn t cs order e
    faults_here e h = λ heights by. error_map (IsFirstOf t cs old table) (IsFirstAmong t cs order) (λ j f first. record {
      before = take i order;
      table = table;
      after = drop (i + 1) order;
      order_is = parts;
      shapes = shapes_known old;
      hulls = old.hulls.items;
      tables = (known heights by).0;
      earlier = first.earlier;
      later = first.later;
      numbers_are = first.numbers_are;
      sound = first.sound;
      tells = first.tells;
    }) e h

pub all_known : (t : Tables) (cs : List (Placed Constructor)) (order : List ℕ) (i : ℕ) (known : Known) → length order ≤ i
    → AreKnown t cs order known (take i order) → AreKnown t cs order known order
all_known t cs order i known end h = subst (λ (l : List ℕ). AreKnown t cs order known l) (take_all i order end) h

-- ---- the whole

pub whole : (t : Tables) (cs : List (Placed Constructor)) (order : List ℕ) (known : Known) → AreKnown t cs order known order → IsOrdered t cs order
    → AreShaped t cs known.sets.items known.hulls.items
whole t cs order known are by =
    let so = are by.0 by.1 in
    record {
      heights = by.0;
      are_heights = by.1.are_heights;
      shapes = shapes_known known;
      tables = subst (λ (l : List ℕ). AllByRecursion (IsTable t cs (shapes_known known) known.hulls.items) l) by.1.order_is so.0;
      have_sets = subst (λ (l : List ℕ). AllByRecursion (HasSets t cs (shapes_known known) known.hulls.items known.sets.items) l) by.1.order_is so.1;
    }

pub first_whole : (t : Tables) (cs : List (Placed Constructor)) (order : List ℕ) (e : ShapeError) → FaultsIn t cs order e → IsOrdered t cs order → IsError (IsFirstFault t cs) e
first_whole t cs order e faults by = error_map (IsFirstAmong t cs order) (IsFirstFault t cs) (λ j f first. record {
  heights = by.0;
  are_heights = by.1.are_heights;
  first = subst (λ (l : List ℕ). IsFirstAmong t cs l j f) by.1.order_is first;
}) e (faults by.0 by.1)
