-- The conditions on a value with its places apart are those of the value that is written.
use Rattle.std.proofs.Common.{◌≡◌, ℕ, zero, suc, ◌≤◌, ◌+◌, List, [], ◌∷◌, ◌++◌, length, map, refl, ap, sym, ◌∙◌, subst, arith, append_assoc, append-nil}
use Rattle.sl_ast.specs.Trees.{Constructor, Head, Inside, nothing, constructor_then, block_then, Item, define, attach_list, attach_one, macro, constructor, block}
use Rattle.sl_ast.specs.Validity.{heaviest, deepest, Each, IsInside, IsItem}
use Rattle.sl_store_format.specs.Items.{greatest_line, IsPlace, Inner, constructor_at, block_at, Inners, no_inner, with_inner, size, Placed, item_at, with_at, GoodInners, GoodPlaced}
use Rattle.sl_store_format.specs.Laws.{MayBePacked, ConditionsAreExact}
use Rattle.sl_store_format.specs.Packed.{Written, written_of, Packed, IsPackable, IsPacked, inside_of, inner_places, item_of, item_places, all_places, apart, chain_length, inside_count, item_count, items_count, InsideLeaves, AllItemLeaves}
use Rattle.sl_store_bytes.specs.Numbers.{greatest}
use Rattle.sl_preproc.specs.declared.places.Place.{Place}
use Rattle.sl_store_format.proofs.ValidLaws.{items_valid}

length_append : {A : Type 0} (xs ys : List A) → length (xs ++ ys) ≡ length xs + length ys
length_append [] ys = omega arith
length_append (x ∷ xs) ys = let deep = length_append xs ys in omega arith

each_append : {A : Type 0} (P : A → Type 0) (xs ys : List A) → Each P xs → Each P ys → Each P (xs ++ ys)
each_append P [] ys a b = b
each_append P (x ∷ xs) ys a b = (a.0, each_append P xs ys a.1 b)

each_front : {A : Type 0} (P : A → Type 0) (xs ys : List A) → Each P (xs ++ ys) → Each P xs
each_front P [] ys a = tt
each_front P (x ∷ xs) ys a = (a.0, each_front P xs ys a.1)

each_back : {A : Type 0} (P : A → Type 0) (xs ys : List A) → Each P (xs ++ ys) → Each P ys
each_back P [] ys a = a
each_back P (x ∷ xs) ys a = each_back P xs ys a.1

-- ---- what is written meets the conditions

size_chain : (is : Inners) → chain_length (inside_of is) ≡ size is
size_chain no_inner = refl
size_chain (with_inner (constructor_at p c) is) = ap suc (size_chain is)
size_chain (with_inner (block_at p h js) is) = ap suc (size_chain is)

count_places : (is : Inners) → length (inner_places is) ≡ inside_count (inside_of is)
count_places no_inner = refl
count_places (with_inner (constructor_at p c) is) = ap suc (count_places is)
count_places (with_inner (block_at p h js) is) =
    let a = count_places js in let b = count_places is in let c = length_append (inner_places js) (inner_places is) in omega arith

module _ (files : ℕ) where
  inner_there : (n : ℕ) (is : Inners) → GoodInners files n is → Each (IsPlace files) (inner_places is)
  inner_there n no_inner good = tt
  inner_there n (with_inner (constructor_at p c) is) good = (good.0.0, inner_there n is good.1)
  inner_there zero (with_inner (block_at p h js) is) good = absurd good.0
  inner_there (suc n) (with_inner (block_at p h js) is) good =
      (good.0.0, each_append (IsPlace files) (inner_places js) (inner_places is) (inner_there n js good.0.3) (inner_there (suc n) is good.1))

  inner_leaves : (n : ℕ) (is : Inners) → GoodInners files n is → InsideLeaves (inside_of is)
  inner_leaves n no_inner good = tt
  inner_leaves n (with_inner (constructor_at p c) is) good = (good.0.1.1, inner_leaves n is good.1)
  inner_leaves zero (with_inner (block_at p h js) is) good = absurd good.0
  inner_leaves (suc n) (with_inner (block_at p h js) is) good =
      let same = size_chain js in let many = good.0.2 in (good.0.1.1, omega arith, inner_leaves n js good.0.3, inner_leaves (suc n) is good.1)

  placed_there : (i : Placed) → GoodPlaced files i → Each (IsPlace files) (item_places i)
  placed_there (item_at p i) good = (good.0, tt)
  placed_there (with_at p h is) good = (good.0, inner_there deepest is good.3)

  placed_leaves : (i : Placed) → GoodPlaced files i → AllItemLeaves (item_of i)
  placed_leaves (item_at p (define d)) good = good.2
  placed_leaves (item_at p (attach_list kind names members)) good = good.2
  placed_leaves (item_at p (attach_one kind names member)) good = good.2
  placed_leaves (item_at p (macro m)) good = good.2
  placed_leaves (item_at p (constructor c)) good = good.2
  placed_leaves (item_at p (block h inside)) good = absurd good.2
  placed_leaves (with_at p h is) good = let same = size_chain is in let many = good.2 in (good.1.1, omega arith, inner_leaves deepest is good.3)

  placed_count : (i : Placed) → GoodPlaced files i → length (item_places i) ≡ item_count (item_of i)
  placed_count (item_at p (define d)) good = refl
  placed_count (item_at p (attach_list kind names members)) good = refl
  placed_count (item_at p (attach_one kind names member)) good = refl
  placed_count (item_at p (macro m)) good = refl
  placed_count (item_at p (constructor c)) good = refl
  placed_count (item_at p (block h inside)) good = absurd good.2
  placed_count (with_at p h is) good = ap suc (count_places is)

  all_there : (is : List Placed) → Each (GoodPlaced files) is → Each (IsPlace files) (all_places is)
  all_there [] good = tt
  all_there (i ∷ is) good = each_append (IsPlace files) (item_places i) (all_places is) (placed_there i good.0) (all_there is good.1)

  all_leaves : (is : List Placed) → Each (GoodPlaced files) is → Each AllItemLeaves (map item_of is)
  all_leaves [] good = tt
  all_leaves (i ∷ is) good = (placed_leaves i good.0, all_leaves is good.1)

  all_count : (is : List Placed) → Each (GoodPlaced files) is → length (all_places is) ≡ items_count (map item_of is)
  all_count [] good = refl
  all_count (i ∷ is) good =
      let a = placed_count i good.0 in let b = all_count is good.1 in let c = length_append (item_places i) (all_places is) in omega arith

map_length : {A B : Type 0} (f : A → B) (xs : List A) → length (map f xs) ≡ length xs
map_length f [] = refl
map_length f (x ∷ xs) = ap suc (map_length f xs)

written_meets : (w : Written) → IsPackable w → IsPacked (apart w)
written_meets w good =
    let same = map_length item_of w.items in
    let many = good.many in
    record {
      few = good.few;
      names = good.names;
      many = omega arith;
      no_fault = items_valid (length w.files) w.items good.items;
      leaves = all_leaves (length w.files) w.items good.items;
      as_many = all_count (length w.files) w.items good.items;
      places = all_there (length w.files) w.items good.items;
    }

-- ---- what meets the conditions is written

-- items with the places that come next
pub record Zipped (files n : ℕ) (i : Inside) (ps : List Place) : Type 0 where
  pub inside : Inners
  pub rest : List Place
  pub is : inside_of inside ≡ i
  pub places : ps ≡ inner_places inside ++ rest
  pub good : GoodInners files n inside
  pub others : Each (IsPlace files) rest

pub record Next (files : ℕ) (ps : List Place) : Type 0 where
  pub place : Place
  pub rest : List Place
  pub is : ps ≡ place ∷ rest
  pub there : IsPlace files place
  pub others : Each (IsPlace files) rest

next : (files : ℕ) (ps : List Place) → 1 ≤ length ps → Each (IsPlace files) ps → Next files ps
next files [] some there = absurd (omega arith)
next files (p ∷ ps) some there = record { place = p; rest = ps; is = refl; there = there.0; others = there.1 }

zip : (files n : ℕ) (i : Inside) (ps : List Place) → IsInside heaviest n i → InsideLeaves i → inside_count i ≤ length ps → Each (IsPlace files) ps → Zipped files n i ps
zip files n nothing ps valid leaves long there = record { inside = no_inner; rest = ps; is = refl; places = refl; good = tt; others = there }
zip files n (constructor_then c more) ps valid leaves long there =
    let p = next files ps (omega arith) there in
    let len = ap length p.is in
    let z = zip files n more p.rest valid.1 leaves.1 (omega arith) p.others in
    record {
      inside = with_inner (constructor_at p.place c) z.inside;
      rest = z.rest;
      is = ap (constructor_then c) z.is;
      places = p.is ∙ ap (λ qs. p.place ∷ qs) z.places;
      good = ((p.there, (valid.0, leaves.0)), z.good);
      others = z.others;
    }
zip files zero (block_then h inside more) ps valid leaves long there = absurd valid
zip files (suc n) (block_then h inside more) ps valid leaves long there =
    let p = next files ps (omega arith) there in
    let len = ap length p.is in
    let y = zip files n inside p.rest valid.1 leaves.2 (omega arith) p.others in
    let len1 = ap length y.places ∙ length_append (inner_places y.inside) y.rest in
    let same = count_places y.inside in
    let same1 : inside_count (inside_of y.inside) ≡ inside_count inside = ap inside_count y.is in
    let z = zip files (suc n) more y.rest valid.2 leaves.3 (omega arith) y.others in
    let chain = size_chain y.inside in
    let chain1 : chain_length (inside_of y.inside) ≡ chain_length inside = ap chain_length y.is in
    let many = leaves.1 in
    record {
      inside = with_inner (block_at p.place h y.inside) z.inside;
      rest = z.rest;
      is = ap (λ k. block_then h k (inside_of z.inside)) y.is ∙ ap (block_then h inside) z.is;
      places = p.is ∙ ap (λ qs. p.place ∷ qs) (y.places ∙ ap (λ qs. inner_places y.inside ++ qs) z.places ∙ sym (append_assoc (inner_places y.inside) (inner_places z.inside) z.rest));
      good = ((p.there, (valid.0, leaves.0), omega arith, y.good), z.good);
      others = z.others;
    }

pub record ZippedItem (files : ℕ) (i : Item) (ps : List Place) : Type 0 where
  pub placed : Placed
  pub rest : List Place
  pub is : item_of placed ≡ i
  pub places : ps ≡ item_places placed ++ rest
  pub good : GoodPlaced files placed
  pub others : Each (IsPlace files) rest

module _ (files : ℕ) where
  zip_plain : (i : Item) (ps : List Place) → 1 ≤ length ps → Each (IsPlace files) ps → ((p : Place) → IsPlace files p → GoodPlaced files (item_at p i)) → ZippedItem files i ps
  zip_plain i ps long there good =
      let p = next files ps long there in
      record { placed = item_at p.place i; rest = p.rest; is = refl; places = p.is; good = good p.place p.there; others = p.others }

  zip_item : (i : Item) (ps : List Place) → IsItem heaviest deepest i → AllItemLeaves i → item_count i ≤ length ps → Each (IsPlace files) ps → ZippedItem files i ps
  zip_item (define d) ps valid leaves long there = zip_plain (define d) ps long there (λ p h. (h, valid, leaves))
  zip_item (attach_list kind names members) ps valid leaves long there = zip_plain (attach_list kind names members) ps long there (λ p h. (h, valid, leaves))
  zip_item (attach_one kind names member) ps valid leaves long there = zip_plain (attach_one kind names member) ps long there (λ p h. (h, valid, leaves))
  zip_item (macro m) ps valid leaves long there = zip_plain (macro m) ps long there (λ p h. (h, valid, leaves))
  zip_item (constructor c) ps valid leaves long there = zip_plain (constructor c) ps long there (λ p h. (h, valid, leaves))
  zip_item (block h inside) ps valid leaves long there =
      let p = next files ps (omega arith) there in
      let len = ap length p.is in
      let z = zip files deepest inside p.rest valid.1 leaves.2 (omega arith) p.others in
      let chain = size_chain z.inside in
      let chain1 : chain_length (inside_of z.inside) ≡ chain_length inside = ap chain_length z.is in
      let many = leaves.1 in
      record {
        placed = with_at p.place h z.inside;
        rest = z.rest;
        is = ap (block h) z.is;
        places = p.is ∙ ap (λ qs. p.place ∷ qs) z.places;
        good = (p.there, (valid.0, leaves.0), omega arith, z.good);
        others = z.others;
      }

-- all items with all places
pub record ZippedAll (files : ℕ) (items : List Item) (ps : List Place) : Type 0 where
  pub placed : List Placed
  pub are : map item_of placed ≡ items
  pub places : all_places placed ≡ ps
  pub good : Each (GoodPlaced files) placed

zip_all : (files : ℕ) (is : List Item) (ps : List Place) → Each (IsItem heaviest deepest) is → Each AllItemLeaves is → length ps ≡ items_count is → Each (IsPlace files) ps → ZippedAll files is ps
zip_all files [] [] valid leaves long there = record { placed = []; are = refl; places = refl; good = tt }
zip_all files [] (p ∷ ps) valid leaves long there = absurd (omega arith)
zip_all files (i ∷ is) ps valid leaves long there =
    let z = zip_item files i ps valid.0 leaves.0 (omega arith) there in
    let len = ap length z.places ∙ length_append (item_places z.placed) z.rest in
    let same = placed_count files z.placed z.good in
    let same1 : item_count (item_of z.placed) ≡ item_count i = ap item_count z.is in
    let a = zip_all files is z.rest valid.1 leaves.1 (omega arith) z.others in
    record {
      placed = z.placed ∷ a.placed;
      are = ap (λ j. j ∷ map item_of a.placed) z.is ∙ ap (λ js. i ∷ js) a.are;
      places = ap (λ qs. item_places z.placed ++ qs) a.places ∙ sym z.places;
      good = (z.good, a.good);
    }

abbrev packed_of : List (List ℕ) → List Place → List Item → Packed
packed_of files places items = record { files = files; places = places; items = items }

meets_written : (p : Packed) → IsPacked p → MayBePacked p
meets_written p good =
    let z = zip_all (length p.files) p.items p.places good.no_fault good.leaves good.as_many good.places in
    let same = map_length item_of z.placed in
    let same1 : length (map item_of z.placed) ≡ length p.items = ap length z.are in
    let many = good.many in
    record {
      written = written_of p.files z.placed;
      packable = record { few = good.few; names = good.names; many = omega arith; items = z.good };
      is = ap (λ qs. packed_of p.files qs (map item_of z.placed)) z.places ∙ ap (packed_of p.files p.places) z.are;
    }

pub conditions_exact : ConditionsAreExact
conditions_exact = (meets_written, λ p may. subst IsPacked may.is (written_meets may.written may.packable))
