-- Steps over the items of a text, block by block.
use Rattle.std.proofs.Common.{◌≡◌, ℕ, ◌+◌, ◌<◌, ◌≤◌, List, [], ◌∷◌, ◌++◌, length, get_or, drop, map, Result, Ok, Err, refl, sym, ap, subst, ◌∙◌, append-nil}
use Rattle.std.proofs.lemmas.List.{drop_more}
use Rattle.std.proofs.Math.ListN.{drop_of_length-le}
use Rattle.sl_ast.specs.Trees.{Constructor, Head, Inside, Item, constructor, block, define, attach_list, attach_one, macro}
use Rattle.sl_ast.specs.Views.{kind_of}
use Rattle.sl_ast.specs.declared.items.ItemKind.{ItemKind}
use Rattle.sl_bind.specs.Verdict.{Broken, at, item_step, placed_step, single_step}
use Rattle.sl_bind.specs.declared.items.Progress.{Progress}
use Rattle.sl_section_rules.specs.WholeText.{Whole}
use Rattle.sl_ast.specs.Unfolding.{Placed, all_in_block, as_items, constructors_inside, count_inside, unfolded_from}
use Rattle.sl_bind.specs.Steps.{FailsAt, GivesAt, GoesOn, constructor_item}
use Rattle.sl_bind.specs.declared.stop.Stop.{Stop}
use Rattle.sl_bind.specs.declared.stop.Stop.TheVariants.{Rule, NoMemory}
use Rattle.sl_spec_rules.specs.Demands.{◌>>=◌, run}
use Rattle.sl_spec_rules.proofs.RunLaws.{run-append}
use Rattle.sl_spec_rules.proofs.Runs.{IsRun, run_fails}
use Rattle.sl_spec.specs.Unfolded.{all_placed, unfolded_one}
use Rattle.sl_spec.specs.ConstructorItems.{constructors_in}
use Rattle.sl_spec.specs.declared.unfolded.Unfolded.{Unfolded}

-- ---- one item

items_of_constructors : (us : List Unfolded) → as_items (all_placed us) ≡ map constructor_item us
items_of_constructors [] = refl
items_of_constructors (u ∷ us) = ap (λ (l : List (Placed Item)). constructor_item u ∷ l) (items_of_constructors us)

constructors_in-items : (cs : List (Placed Constructor)) → constructors_in (as_items cs) ≡ cs
unfolding constructors_in
constructors_in-items [] = refl
constructors_in-items (c ∷ cs) = ap (λ (l : List (Placed Constructor)). c ∷ l) (constructors_in-items cs)

-- the constructors of a constructor
pub of_constructor : (n : ℕ) (c : Constructor) (us : List Unfolded) → all_placed us ≡ constructors_in (unfolded_one n (constructor c))
    → map constructor_item us ≡ unfolded_one n (constructor c)
unfolding constructors_in
of_constructor n c us are = sym (items_of_constructors us) ∙ ap as_items are

-- the constructors of a block
pub of_block : (n : ℕ) (h : Head) (inside : Inside) (us : List Unfolded) → all_placed us ≡ constructors_in (unfolded_one n (block h inside))
    → map constructor_item us ≡ unfolded_one n (block h inside)
of_block n h inside us are =
    let mine = all_in_block h (constructors_inside (1 + n) inside) in
    sym (items_of_constructors us) ∙ ap as_items (are ∙ ap constructors_in (append-nil (as_items mine)) ∙ constructors_in-items mine) ∙ sym (append-nil (as_items mine))

-- one step alone
one_step : {S X E : Type 0} (step : S → X → Result S E) (s : S) (x : X) → run step s (x ∷ []) ≡ step s x
unfolding run
one_step step s x = ends (step s x)
  where
    ends : {S E : Type 0} (r : Result S E) → (r >>= λ t. Ok t) ≡ r
    ends (Ok t) = refl
    ends (Err e) = refl

pub carried : {X Y : Type 0} (view : X → Y) (r : Result X Stop) (there also : Result Y Broken) → there ≡ also → GivesAt view r there → GivesAt view r also
carried {Y = Y} view r there also same gives = subst (λ (x : Result Y Broken). GivesAt view r x) same gives

-- an item that is no constructor and no block
pub single_run : (w : Whole) (k : Progress) (n : ℕ) (kind shape : ItemKind) → kind ≡ shape → unfolded_one n (kind_of shape) ≡ (n, kind_of shape) ∷ []
    → item_step w k (n, kind_of shape) ≡ single_step w k n (kind_of shape)
    → at n (single_step w k n (kind_of kind)) ≡ run (placed_step w) k (unfolded_one n (kind_of kind))
single_run w k n kind shape is one stepped =
    ap (λ (x : ItemKind). at n (single_step w k n (kind_of x))) is ∙ ap (at n) (sym stepped) ∙ sym (one_step (placed_step w) k (n, kind_of shape))
    ∙ ap (run (placed_step w) k) (sym one) ∙ ap (λ (x : ItemKind). run (placed_step w) k (unfolded_one n (kind_of x))) (sym is)

-- each item has a number behind it
goes_on : (n : ℕ) (item : Item) → (next : ℕ) × GoesOn n item next
goes_on n (block h inside) =
    let mine = as_items (all_in_block h (constructors_inside (1 + n) inside)) in
    (1 + n + count_inside inside, λ items. ap (λ (l : List (Placed Item)). l ++ unfolded_from (1 + n + count_inside inside) items) (sym (append-nil mine)))
goes_on n (constructor c) = (1 + n, λ items. refl)
goes_on n (define d) = (1 + n, λ items. refl)
goes_on n (attach_list k ns ms) = (1 + n, λ items. refl)
goes_on n (attach_one k ns m) = (1 + n, λ items. refl)
goes_on n (macro m) = (1 + n, λ items. refl)

-- ---- all items

module _ {S : Type 0} (step : S → Placed Item → Result S Broken) (start : S) (items : List Item) where
  -- what is there behind i items, and the steps over the rest, is what all come to
  abbrev pub AreTaken : S → ℕ → ℕ → Type 0
  AreTaken now number i = run step now (unfolded_from number (drop i items)) ≡ run step start (unfolded_from 0 items)

  begins_with : (number i next : ℕ) (item : Item) (now : S) → i < length items → item ≡ get_or items i item → GoesOn number item next
      → run step now (unfolded_from number (drop i items)) ≡ (run step now (unfolded_one number item) >>= λ t. run step t (unfolded_from next (drop (i + 1) items)))
  begins_with number i next item now below at goes =
      let rest : drop i items ≡ item ∷ drop (i + 1) items = drop_more items i item below ∙ ap (λ (z : Item). z ∷ drop (i + 1) items) (sym at) in
      ap (λ (l : List Item). run step now (unfolded_from number l)) rest
      ∙ ap (run step now) (goes (drop (i + 1) items))
      ∙ run-append step now (unfolded_one number item) (unfolded_from next (drop (i + 1) items))

  pub takes_more : (now new : S) (number next i : ℕ) (item : Item) → i < length items → item ≡ get_or items i item
      → run step now (unfolded_one number item) ≡ Ok new → GoesOn number item next → AreTaken now number i → AreTaken new next (i + 1)
  takes_more now new number next i item below at taken goes so_far =
      sym (begins_with number i next item now below at goes ∙ ap (λ r. r >>= λ t. run step t (unfolded_from next (drop (i + 1) items))) taken) ∙ so_far

  takes_no_more : (now : S) (number i : ℕ) (item : Item) (e : Broken) → i < length items → item ≡ get_or items i item
      → run step now (unfolded_one number item) ≡ Err e → AreTaken now number i → run step start (unfolded_from 0 items) ≡ Err e
  takes_no_more now number i item e below at taken so_far =
      let on = goes_on number item in
      sym so_far ∙ begins_with number i on.0 item now below at on.1 ∙ ap (λ r. r >>= λ t. run step t (unfolded_from on.0 (drop (i + 1) items))) taken

  pub stops : (stop : Stop) (now : S) (number i : ℕ) (item : Item) → i < length items → item ≡ get_or items i item
      → FailsAt stop (run step now (unfolded_one number item)) → AreTaken now number i → FailsAt stop (run step start (unfolded_from 0 items))
  stops NoMemory now number i item below at fails so_far = tt
  stops (Rule rule n) now number i item below at fails so_far = takes_no_more now number i item (rule, n) below at fails so_far

  pub all_taken : (now : S) (number i : ℕ) → length items ≤ i → AreTaken now number i → run step start (unfolded_from 0 items) ≡ Ok now
  unfolding run
  all_taken now number i end so_far = sym so_far ∙ ap (λ (l : List Item). run step now (unfolded_from number l)) (drop_of_length-le items end)

-- ---- a list of steps

module _ {S X : Type 0} (step : S → X → Result S Broken) (start : S) (xs : List X) where
  pub run_stops_at : (stop : Stop) (now : S) (i : ℕ) (x : X) → i < length xs → x ≡ get_or xs i x → FailsAt stop (step now x) → IsRun step start xs now i
      → FailsAt stop (run step start xs)
  run_stops_at NoMemory now i x below at fails so_far = tt
  run_stops_at (Rule rule n) now i x below at fails so_far = run_fails step start xs (rule, n) now i x below at fails so_far
