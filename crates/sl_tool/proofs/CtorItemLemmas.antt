-- The item of each constructor is one of the items of its text.
use Rattle.std.proofs.Common.{◌≡◌, ℕ, suc, zero, ◌+◌, ◌<◌, ◌≤◌, List, [], ◌∷◌, ◌++◌, map, Some, Ok, refl, sym, ap, subst, ◌∙◌, arith}
use Rattle.std.specs.Prelude.{option_map, slice_get}
use Rattle.std.proofs.lemmas.List.{map-append}
use Rattle.std.proofs.lemmas.Option.{same_Some, slice_get-map}
use Rattle.sl_ast.specs.Trees.{Constructor, Head, Inside, nothing, constructor_then, block_then, Item, define, attach_list, attach_one, macro, constructor, block}
use Rattle.sl_ast.specs.Unfolding.{Placed, all_in_block, as_items, constructors_inside, count_inside, unfolded, unfolded_from}
use Rattle.sl_ast.specs.Validity.{Each}
use Rattle.sl_bind.proofs.GrowLemmas.{constructor_added, ctor_of, item_grows}
use Rattle.sl_bind.proofs.WalkLemmas.{taken_adds, whole_text}
use Rattle.sl_bind.specs.Verdict.{taken}
use Rattle.sl_spec.specs.ConstructorItems.{constructors_in}
use Rattle.sl_spec.specs.Tables.{Ctor, Table}
use Rattle.sl_spec.specs.declared.tables.Tables.{Tables}
use Rattle.sl_spec_constructors.specs.Steps.{constructor_step}
use Rattle.sl_store_format.specs.Packed.{inside_count, items_count}

-- ---- tables have the items of their constructors, in order

-- The constructors have the items that the placed ones have.
abbrev HaveItems : List (Placed Constructor) → List Ctor → Type 0
HaveItems cs ctors = map (λ (c : Ctor). c.item) ctors ≡ map (λ (d : Placed Constructor). d.0) cs

one_more : (all : List Table) (t next : Tables) (n : ℕ) (c : Constructor) (cs : List (Placed Constructor)) → constructor_step all t n c ≡ Ok next
    → HaveItems cs t.constructors → HaveItems (cs ++ (n, c) ∷ []) next.constructors
one_more all t next n c cs is same =
    ap (λ (u : Tables). map (λ (x : Ctor). x.item) u.constructors) (sym (constructor_added all t next n c is))
    ∙ map-append (λ (x : Ctor). x.item) t.constructors (ctor_of all t n c ∷ [])
    ∙ ap (λ (l : List ℕ). l ++ n ∷ []) same
    ∙ sym (map-append (λ (d : Placed Constructor). d.0) cs ((n, c) ∷ []))

have_items : (items : List Item) (t : Tables) → taken items ≡ Ok t → HaveItems (constructors_in (unfolded items)) t.constructors
have_items items t is =
    taken_adds items t is (λ cs u. HaveItems cs u.constructors)
    (record {
      plain = λ cs k next item grown same. ap (map (λ (c : Ctor). c.item)) (item_grows k next item grown).constructors ∙ same;
      macros = λ cs u n name same. same;
      constructors = λ done rest n c u next parts stepped same. one_more (whole_text items).tables u next n c (constructors_in done) stepped same;
    }) refl

-- ---- placed constructors are numbered below the count of items

abbrev IsBelow : ℕ → Placed Constructor → Type 0
IsBelow count c = c.0 < count

same_count : (inside : Inside) → inside_count inside ≡ count_inside inside
same_count nothing = refl
same_count (constructor_then c more) = omega (arith, same_count more)
same_count (block_then h inside more) = omega (arith, same_count inside, same_count more)

both_below : (count : ℕ) (xs ys : List (Placed Constructor)) → Each (IsBelow count) xs → Each (IsBelow count) ys → Each (IsBelow count) (xs ++ ys)
both_below count [] ys each others = others
both_below count (x ∷ xs) ys each others = (each.0, both_below count xs ys each.1 others)

block_below : (count : ℕ) (h : Head) (cs : List (Placed Constructor)) → Each (IsBelow count) cs → Each (IsBelow count) (all_in_block h cs)
block_below count h [] each = tt
block_below count h (c ∷ cs) each = (each.0, block_below count h cs each.1)

inside_below : (count n : ℕ) (inside : Inside) → n + count_inside inside ≤ count → Each (IsBelow count) (constructors_inside n inside)
inside_below count n nothing within = tt
inside_below count n (constructor_then c more) within =
    let all : n + (1 + count_inside more) ≤ count = within in
    (omega (arith, all), inside_below count (1 + n) more (omega (arith, all)))
inside_below count n (block_then h inside more) within =
    let all : n + (1 + count_inside inside + count_inside more) ≤ count = within in
    both_below count (all_in_block h (constructors_inside (1 + n) inside)) (constructors_inside (1 + n + count_inside inside) more)
    (block_below count h (constructors_inside (1 + n) inside) (inside_below count (1 + n) inside (omega (arith, all))))
    (inside_below count (1 + n + count_inside inside) more (omega (arith, all)))

-- the constructors of a block, and those of the items after it
items_below : (count : ℕ) (cs : List (Placed Constructor)) (later : List (Placed Item)) → Each (IsBelow count) cs → Each (IsBelow count) (constructors_in later)
    → Each (IsBelow count) (constructors_in (as_items cs ++ later))
unfolding constructors_in
items_below count [] later each others = others
items_below count (c ∷ cs) later each others = (each.0, items_below count cs later each.1 others)

all_below : (count n : ℕ) (items : List Item) → n + items_count items ≤ count → Each (IsBelow count) (constructors_in (unfolded_from n items))
unfolding constructors_in
all_below count n [] within = tt
all_below count n (define d ∷ items) within = let all : n + (1 + items_count items) ≤ count = within in all_below count (1 + n) items (omega (arith, all))
all_below count n (attach_list kind names members ∷ items) within = let all : n + (1 + items_count items) ≤ count = within in all_below count (1 + n) items (omega (arith, all))
all_below count n (attach_one kind names member ∷ items) within = let all : n + (1 + items_count items) ≤ count = within in all_below count (1 + n) items (omega (arith, all))
all_below count n (macro m ∷ items) within = let all : n + (1 + items_count items) ≤ count = within in all_below count (1 + n) items (omega (arith, all))
all_below count n (constructor c ∷ items) within =
    let all : n + (1 + items_count items) ≤ count = within in
    (omega (arith, all), all_below count (1 + n) items (omega (arith, all)))
all_below count n (block h inside ∷ items) within =
    let all : n + (suc (inside_count inside) + items_count items) ≤ count = within in
    items_below count (all_in_block h (constructors_inside (1 + n) inside)) (unfolded_from (1 + n + count_inside inside) items)
    (block_below count h (constructors_inside (1 + n) inside) (inside_below count (1 + n) inside (omega (arith, all, same_count inside))))
    (all_below count (1 + n + count_inside inside) items (omega (arith, all, same_count inside)))

-- ---- so is the item of each constructor

each_at : (count : ℕ) (cs : List (Placed Constructor)) (i n : ℕ) → Each (IsBelow count) cs → slice_get (map (λ (d : Placed Constructor). d.0) cs) i ≡ Some n → n < count
each_at count [] i n each is = absurd (let no : ⊥ = cc in no)
each_at count (c ∷ cs) zero n each is = subst (λ (m : ℕ). m < count) (same_Some c.0 n is) each.0
each_at count (c ∷ cs) (suc i) n each is = each_at count cs i n each.1 is

pub item_within : (items : List Item) (t : Tables) → taken items ≡ Ok t → (number : ℕ) (c : Ctor) → slice_get t.constructors number ≡ Some c → c.item < items_count items
item_within items t is number c there =
    let own : slice_get (map (λ (x : Ctor). x.item) t.constructors) number ≡ Some c.item =
    slice_get-map (λ (x : Ctor). x.item) t.constructors number ∙ ap (option_map (λ (x : Ctor). x.item)) there in
    each_at (items_count items) (constructors_in (unfolded items)) number c.item (all_below (items_count items) 0 items (omega arith))
    (ap (λ (l : List ℕ). slice_get l number) (sym (have_items items t is)) ∙ own)
