-- The constructors of blocks, part by part.
use Rattle.std.proofs.Common.{◌≡◌, ℕ, ◌+◌, ◌<◌, ◌≤◌, List, [], ◌∷◌, ◌++◌, Vec, map, length, get_or, drop, refl, sym, ap, subst, ◌∙◌, append_assoc, append-nil, arith, Result, Ok, Err}
use Rattle.std.specs.Prelude.{IfOk}
use Rattle.std.specs.declared.alloc.Global.{Global}
use Rattle.std.proofs.lemmas.List.{drop_more}
use Rattle.std.proofs.Math.ListN.{drop_of_length-le}
use Rattle.sl_ast.specs.Trees.{Constructor, Head, Inside, Item, nothing, block_then, constructor_then, constructor, block}
use Rattle.sl_ast.specs.Unfolding.{Placed, all_in_block, as_items, constructors_inside, count_inside, in_block, unfolded_from}
use Rattle.sl_ast.specs.Views.{chained, constructor_of, head_of, inner_step, inside_of}
use Rattle.sl_ast.specs.declared.constructors.Constructor as own
use Rattle.sl_ast.specs.declared.constructors.Head as head
use Rattle.sl_ast.specs.declared.constructors.Inner as n
use Rattle.sl_ast.specs.declared.constructors.Inner.{Inner}
use Rattle.sl_ast.specs.declared.constructors.Inner.TheFolds.{fold-roll-Inner}
use Rattle.sl_ast.specs.declared.constructors.Inner.TheOpen.{Inner-F}
use Rattle.sl_ast.specs.declared.constructors.Inner.TheVariants.{rolls-Constructor, rolls-With}
use Rattle.sl_spec.specs.Unfolded.{under, unfolded_one}
use Rattle.sl_spec.specs.ConstructorItems.{constructor_at, constructors_in}
use Rattle.sl_spec.specs.Walks.{Adds, AddsItem, all_under, inner_before}

-- ---- what a part of a block is, by its shape

inner_block : (first : ℕ) (h : head.Head) (inside : Vec Inner Global) (rest : Inside) → inner_before (n.With first h inside) rest ≡ block_then (head_of h) (inside_of inside.items) rest
inner_block first h inside rest =
    ap (λ x. inner_before x rest) (sym (rolls-With first h inside)) ∙ ap (λ f. f rest) (fold-roll-Inner (Inside → Inside) inner_step (Inner-F.With first h inside))

-- ---- blocks within blocks

under_one : (heads : List Head) (h : Head) (c : Constructor) → under (heads ++ h ∷ []) c ≡ under heads (in_block h c)
under_one [] h c = refl
under_one (g ∷ heads) h c = ap (in_block g) (under_one heads h c)

all_under_one : (heads : List Head) (h : Head) (cs : List (Placed Constructor)) → all_under (heads ++ h ∷ []) cs ≡ all_under heads (all_in_block h cs)
all_under_one heads h [] = refl
all_under_one heads h (c ∷ cs) =
    ap (λ (d : Constructor). (c.0, d) ∷ all_under (heads ++ h ∷ []) cs) (under_one heads h c.1)
    ∙ ap (λ (ds : List (Placed Constructor)). (c.0, under heads (in_block h c.1)) ∷ ds) (all_under_one heads h cs)

all_under_none : (cs : List (Placed Constructor)) → all_under [] cs ≡ cs
all_under_none [] = refl
all_under_none (c ∷ cs) = ap (λ (ds : List (Placed Constructor)). c ∷ ds) (all_under_none cs)

all_under-append : (heads : List Head) (cs ds : List (Placed Constructor)) → all_under heads (cs ++ ds) ≡ all_under heads cs ++ all_under heads ds
all_under-append heads [] ds = refl
all_under-append heads (c ∷ cs) ds = ap (λ (es : List (Placed Constructor)). (c.0, under heads c.1) ∷ es) (all_under-append heads cs ds)

-- ---- the parts of a block

-- the parts from the i-th on, before what follows
abbrev pub parts_from : List Inner → ℕ → Inside → Inside
parts_from parts i rest = chained (map inner_before (drop i parts)) rest

-- Those of the first i parts were added, whatever follows.
pub record AreWalked (heads : List Head) (first : ℕ) (start : List (Placed Constructor)) (parts : List Inner) (now : List (Placed Constructor)) (next i : ℕ) : Type 0 where
  pub constructors : (rest : Inside) → now ++ all_under heads (constructors_inside next (parts_from parts i rest)) ≡ start ++ all_under heads (constructors_inside first (parts_from parts 0 rest))
  pub numbers : (rest : Inside) → next + count_inside (parts_from parts i rest) ≡ first + count_inside (parts_from parts 0 rest)

module _ (heads : List Head) (first : ℕ) (start : List (Placed Constructor)) (parts : List Inner) where
  pub walk_begins : AreWalked heads first start parts start first 0
  walk_begins = record { constructors = λ rest. refl; numbers = λ rest. refl }

  one_more : (i : ℕ) (x : Inner) (rest : Inside) → i < length parts → x ≡ get_or parts i x → parts_from parts i rest ≡ inner_before x (parts_from parts (i + 1) rest)
  one_more i x rest below at =
      ap (λ (l : List Inner). chained (map inner_before l) rest) (drop_more parts i x below)
      ∙ ap (λ (y : Inner). inner_before y (parts_from parts (i + 1) rest)) (sym at)

  pub walk_goes : (now new : List (Placed Constructor)) (number next i : ℕ) (x : Inner) → i < length parts → x ≡ get_or parts i x
      → Adds heads number (inner_before x) now next new → AreWalked heads first start parts now number i → AreWalked heads first start parts new next (i + 1)
  walk_goes now new number next i x below at adds so_far = record {
    constructors = λ rest. adds.constructors (parts_from parts (i + 1) rest)
        ∙ ap (λ (p : Inside). now ++ all_under heads (constructors_inside number p)) (sym (one_more i x rest below at)) ∙ so_far.constructors rest;
    numbers = λ rest. adds.numbers (parts_from parts (i + 1) rest) ∙ ap (λ (p : Inside). number + count_inside p) (sym (one_more i x rest below at)) ∙ so_far.numbers rest;
  }

  no_more : (i : ℕ) (rest : Inside) → length parts ≤ i → parts_from parts i rest ≡ rest
  no_more i rest end = ap (λ (l : List Inner). chained (map inner_before l) rest) (drop_of_length-le parts end)

  pub walk_ends : (now : List (Placed Constructor)) (next i : ℕ) → length parts ≤ i → AreWalked heads first start parts now next i
      → Adds heads first (parts_from parts 0) start next now
  walk_ends now next i end so_far = record {
    constructors = λ rest. ap (λ (p : Inside). now ++ all_under heads (constructors_inside next p)) (sym (no_more i rest end)) ∙ so_far.constructors rest;
    numbers = λ rest. ap (λ (p : Inside). next + count_inside p) (sym (no_more i rest end)) ∙ so_far.numbers rest;
  }

-- ---- a block

-- the same within these blocks and from this number on, however they are named
pub adds_within : (heads outer : List Head) (k number next : ℕ) (part : Inside → Inside) (old new : List (Placed Constructor)) → outer ≡ heads → k ≡ number
    → Adds outer k part old next new → Adds heads number part old next new
adds_within heads outer k number next part old new same is adds =
    subst (λ (hs : List Head). Adds hs number part old next new) same (subst (λ (n : ℕ). Adds outer n part old next new) is adds)

module _ (heads : List Head) (h : Head) (number next : ℕ) (parts : List Inner) (old new : List (Placed Constructor))
    (walked : Adds (heads ++ h ∷ []) (number + 1) (parts_from parts 0) old next new) where
  pub block_number : next ≡ 1 + number + count_inside (inside_of parts)
  block_number = let e : next + 0 ≡ number + 1 + count_inside (inside_of parts) = walked.numbers nothing in omega arith

  pub block_added : new ≡ old ++ all_under heads (all_in_block h (constructors_inside (1 + number) (inside_of parts)))
  block_added =
      let turn : number + 1 ≡ 1 + number = omega arith in
      sym (append-nil new) ∙ walked.constructors nothing
      ∙ ap (λ (k : ℕ). old ++ all_under (heads ++ h ∷ []) (constructors_inside k (inside_of parts))) turn
      ∙ ap (λ (l : List (Placed Constructor)). old ++ l) (all_under_one heads h (constructors_inside (1 + number) (inside_of parts)))

  pub adds_block : (first : ℕ) (d : head.Head) (inside : Vec Inner Global) → h ≡ head_of d → parts ≡ inside.items
      → Adds heads number (inner_before (n.With first d inside)) old next new
  adds_block first d inside same listed = record {
    constructors = λ rest.
        let shape : inner_before (n.With first d inside) rest ≡ block_then h (inside_of parts) rest =
        inner_block first d inside rest ∙ ap (λ (g : Head). block_then g (inside_of inside.items) rest) (sym same)
        ∙ ap (λ (ps : List Inner). block_then h (inside_of ps) rest) (sym listed) in
        let mine = all_in_block h (constructors_inside (1 + number) (inside_of parts)) in
        let behind = constructors_inside (1 + number + count_inside (inside_of parts)) rest in
        ap (λ (l : List (Placed Constructor)). l ++ all_under heads (constructors_inside next rest)) block_added
        ∙ append_assoc old (all_under heads mine) (all_under heads (constructors_inside next rest))
        ∙ ap (λ (k : ℕ). old ++ (all_under heads mine ++ all_under heads (constructors_inside k rest))) block_number
        ∙ ap (λ (l : List (Placed Constructor)). old ++ l) (sym (all_under-append heads mine behind))
        ∙ ap (λ (p : Inside). old ++ all_under heads (constructors_inside number p)) (sym shape);
    numbers = λ rest.
        let shape : inner_before (n.With first d inside) rest ≡ block_then h (inside_of parts) rest =
        inner_block first d inside rest ∙ ap (λ (g : Head). block_then g (inside_of inside.items) rest) (sym same)
        ∙ ap (λ (ps : List Inner). block_then h (inside_of ps) rest) (sym listed) in
        let count : count_inside (inner_before (n.With first d inside) rest) ≡ 1 + count_inside (inside_of parts) + count_inside rest = ap count_inside shape in
        let e = block_number in
        omega (arith, count);
  }

-- ---- a constructor

inner_own : (first : ℕ) (own : own.Constructor) (rest : Inside) → inner_before (n.Constructor first own) rest ≡ constructor_then (constructor_of own) rest
inner_own first own rest =
    ap (λ x. inner_before x rest) (sym (rolls-Constructor first own)) ∙ ap (λ f. f rest) (fold-roll-Inner (Inside → Inside) inner_step (Inner-F.Constructor first own))

pub adds_constructor : {E : Type 0} (heads : List Head) (number first : ℕ) (own : own.Constructor) (old new : List (Placed Constructor)) (r : Result ℕ E)
    → IfOk r (λ next. new ≡ old ++ (number, under heads (constructor_of own)) ∷ []) → IfOk r (λ next. next ≡ number + 1)
    → IfOk r (λ next. Adds heads number (inner_before (n.Constructor first own)) old next new)
adds_constructor heads number first own old new (Ok next) added is =
    let turn : 1 + number ≡ next = omega (arith, is) in
    record {
      constructors = λ rest.
          ap (λ (l : List (Placed Constructor)). l ++ all_under heads (constructors_inside next rest)) added
          ∙ append_assoc old ((number, under heads (constructor_of own)) ∷ []) (all_under heads (constructors_inside next rest))
          ∙ ap (λ (k : ℕ). old ++ (number, under heads (constructor_of own)) ∷ all_under heads (constructors_inside k rest)) (sym turn)
          ∙ ap (λ (p : Inside). old ++ all_under heads (constructors_inside number p)) (sym (inner_own first own rest));
      numbers = λ rest.
          let count : count_inside (inner_before (n.Constructor first own) rest) ≡ 1 + count_inside rest = ap count_inside (inner_own first own rest) in
          omega (arith, count, is);
    }
adds_constructor heads number first own old new (Err e) added is = tt

-- ---- items

constructors_in-append : (xs ys : List (Placed Item)) → constructors_in (xs ++ ys) ≡ constructors_in xs ++ constructors_in ys
unfolding constructors_in
constructors_in-append [] ys = refl
constructors_in-append (x ∷ xs) ys =
    ap (λ (l : List (Placed Constructor)). constructor_at x.0 x.1 ++ l) (constructors_in-append xs ys)
    ∙ sym (append_assoc (constructor_at x.0 x.1) (constructors_in xs) (constructors_in ys))

constructors_in-items : (cs : List (Placed Constructor)) → constructors_in (as_items cs) ≡ cs
unfolding constructors_in
constructors_in-items [] = refl
constructors_in-items (c ∷ cs) = ap (λ (l : List (Placed Constructor)). c ∷ l) (constructors_in-items cs)

-- an item that is no block
pub adds_single : (number next : ℕ) (item : Item) (old new : List (Placed Constructor)) → next ≡ number + 1
    → ((rest : List Item) → unfolded_from number (item ∷ rest) ≡ (number, item) ∷ unfolded_from (1 + number) rest)
    → new ≡ old ++ constructor_at number item → AddsItem number item old next new
unfolding constructors_in
adds_single number next item old new e shape is =
    let turn : 1 + number ≡ next = omega arith in
    record {
      constructors = is
          ∙ ap (λ (l : List (Placed Constructor)). old ++ l) (sym (append-nil (constructor_at number item)) ∙ sym (ap constructors_in (shape [])));
      rest = λ items. shape items
          ∙ ap (λ (k : ℕ). (number, item) ∷ unfolded_from k items) turn
          ∙ ap (λ (l : List (Placed Item)). l ++ unfolded_from next items) (sym (shape []));
    }

-- an item that is no constructor and no block
pub adds_other : {E : Type 0} (number : ℕ) (item : Item) (all : List (Placed Constructor)) (r : Result ℕ E)
    → ((rest : List Item) → unfolded_from number (item ∷ rest) ≡ (number, item) ∷ unfolded_from (1 + number) rest) → constructor_at number item ≡ []
    → IfOk r (λ next. next ≡ number + 1) → IfOk r (λ next. AddsItem number item all next all)
adds_other number item all (Ok next) shape none is =
    adds_single number next item all all is shape (sym (append-nil all) ∙ ap (λ (l : List (Placed Constructor)). all ++ l) (sym none))
adds_other number item all (Err e) shape none is = tt

pub adds_own : {E : Type 0} (number : ℕ) (c : Constructor) (old new : List (Placed Constructor)) (r : Result ℕ E)
    → IfOk r (λ next. new ≡ old ++ (number, c) ∷ []) → IfOk r (λ next. next ≡ number + 1) → IfOk r (λ next. AddsItem number (constructor c) old next new)
adds_own number c old new (Ok next) added is = adds_single number next (constructor c) old new is (λ rest. refl) added
adds_own number c old new (Err e) added is = tt

pub adds_outer_block : (h : Head) (number next : ℕ) (parts : List Inner) (old new : List (Placed Constructor))
    → Adds (h ∷ []) (number + 1) (parts_from parts 0) old next new → AddsItem number (block h (inside_of parts)) old next new
adds_outer_block h number next parts old new walked =
    let mine = all_in_block h (constructors_inside (1 + number) (inside_of parts)) in
    record {
      constructors = block_added [] h number next parts old new walked
          ∙ ap (λ (l : List (Placed Constructor)). old ++ l)
          (all_under_none mine ∙ sym (constructors_in-items mine) ∙ ap constructors_in (sym (append-nil (as_items mine))));
      rest = λ items.
          ap (λ (k : ℕ). as_items mine ++ unfolded_from k items) (sym (block_number [] h number next parts old new walked))
          ∙ ap (λ (l : List (Placed Item)). l ++ unfolded_from next items) (sym (append-nil (as_items mine)));
    }

-- the constructors of an item and of those behind it
constructors_behind : (number next : ℕ) (item : Item) (rest : List Item) (old new : List (Placed Constructor)) → AddsItem number item old next new
    → new ++ constructors_in (unfolded_from next rest) ≡ old ++ constructors_in (unfolded_from number (item ∷ rest))
constructors_behind number next item rest old new adds =
    let one = unfolded_one number item in
    ap (λ (l : List (Placed Constructor)). l ++ constructors_in (unfolded_from next rest)) adds.constructors
    ∙ append_assoc old (constructors_in one) (constructors_in (unfolded_from next rest))
    ∙ ap (λ (l : List (Placed Constructor)). old ++ l) (sym (constructors_in-append one (unfolded_from next rest)) ∙ ap constructors_in (sym (adds.rest rest)))

-- ---- all items

module _ (items : List Item) where
  -- what is there behind i items, and the constructors of the rest, are all
  abbrev pub AreGathered : List (Placed Constructor) → ℕ → ℕ → Type 0
  AreGathered now next i = now ++ constructors_in (unfolded_from next (drop i items)) ≡ constructors_in (unfolded_from 0 items)

  pub gathers : (now new : List (Placed Constructor)) (number next i : ℕ) (item : Item) → i < length items → item ≡ get_or items i item
      → AddsItem number item now next new → AreGathered now number i → AreGathered new next (i + 1)
  gathers now new number next i item below at adds so_far =
      constructors_behind number next item (drop (i + 1) items) now new adds
      ∙ ap (λ (l : List Item). now ++ constructors_in (unfolded_from number l)) (ap (λ (x : Item). x ∷ drop (i + 1) items) at ∙ sym (drop_more items i item below))
      ∙ so_far

  pub all_gathered : (now : List (Placed Constructor)) (next i : ℕ) → length items ≤ i → AreGathered now next i → now ≡ constructors_in (unfolded_from 0 items)
  unfolding constructors_in
  all_gathered now next i end so_far =
      sym (append-nil now) ∙ ap (λ (l : List Item). now ++ constructors_in (unfolded_from next l)) (sym (drop_of_length-le items end)) ∙ so_far
