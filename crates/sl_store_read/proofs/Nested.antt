-- Items that are read with their places.
use Rattle.std.proofs.Common.{◌≡◌, ◌≢◌, ℕ, zero, suc, ◌≤◌, ◌-◌, List, [], ◌∷◌, ◌++◌, Vec, length, map, Ok, refl, ap, sym, ◌∙◌, append_assoc, append-nil, arith}
use Rattle.std.specs.declared.alloc.Global.{Global}
use Rattle.std.proofs.lemmas.List.{map_push}
use Rattle.sl_ast.specs.Trees.{Constructor, Head, Inside, nothing, constructor_then, block_then, Item, block}
use Rattle.sl_ast.specs.Validity.{deepest}
use Rattle.sl_ast.specs.Views as view
use Rattle.sl_ast.specs.Views.{chained, constructor_of, head_of, inner_step, inner_indexes, inner_indexes_step, item_indexes, joined_lists}
use Rattle.sl_ast.specs.declared.constructors.Constructor as program
use Rattle.sl_ast.specs.declared.constructors.Head as head
use Rattle.sl_ast.specs.declared.constructors.Inner as n
use Rattle.sl_ast.specs.declared.constructors.Inner.TheFolds.{fold-roll-Inner}
use Rattle.sl_ast.specs.declared.constructors.Inner.TheOpen.{Inner-F}
use Rattle.sl_ast.specs.declared.constructors.Inner.TheVariants.{rolls-Constructor, rolls-With}
use Rattle.sl_ast.specs.declared.items.Item as item
use Rattle.sl_store_format.specs.Constructors.{constructor_here, head_here}
use Rattle.sl_store_format.specs.Forms.{item_forms}
use Rattle.sl_store_format.specs.Items.{place_of, Inner, constructor_at, block_at, inners, Placed, item_at, with_at, place_here, inner_fits, block_here, inner_by, nested_here, inner_here, plain_by, placed_by, placed_here, most_items, items_here}
use Rattle.sl_store_format.specs.Packed.{inside_of, inner_places, item_of, item_places, all_places}
use Rattle.sl_store_format.specs.declared.forms.ItemForm.{ItemForm}
use Rattle.sl_store_format.specs.declared.forms.ItemForm.TheVariants as x
use Rattle.sl_store_bytes.specs.Lists.{collected, list_of, listed, same_state, some_more}
use Rattle.sl_store_bytes.specs.Numbers.{greatest, number}
use Rattle.sl_store_bytes.specs.Reader.{Outcome, Reader, ◌>>=◌, pure}
use Rattle.sl_store_bytes.specs.Reads.{Stops}
use Rattle.sl_store_bytes.specs.Tables.{coded, coded_if}
use Rattle.sl_store_bytes.specs.declared.bytes.Stop.{Stop}
use Rattle.sl_preproc.specs.declared.places.Place.{Place}
use Rattle.sl_store_read.specs.Placed.{chain_of, chain_in, places_in, indexes_in, numbered, IsInner, AreInside, IsItem, AreItems}
use Rattle.sl_store_read.specs.declared.items.Placed as program_items
use Rattle.sl_store_read.proofs.Numbers.{block_numbers, joined_push, numbers_join, plain_indexes}
use Rattle.sl_store_format.proofs.Goods.{true_le}
use Rattle.sl_store_phrases.proofs.Forms.{passes}
use Rattle.sl_store_phrases.proofs.Rounds.{stops_along, stops_then, rounds_begin, round_goes, round_stops, rounds_end}

-- ---- what the readers give

-- the reader of what is inside a block that is read so
abbrev pub deeper_of : ℕ → ℕ → Reader Inner
deeper_of files zero = constructor_here >>= (λ c. pure (constructor_at (place_of 0 0) c))
deeper_of files (suc k) = inner_here files k

pub inner_is : (files depth : ℕ) (xs : List ℕ) → inner_here files depth xs ≡ nested_here (deeper_of files depth) files depth xs
unfolding inner_here
inner_is files zero xs = refl
inner_is files (suc k) xs = refl

pub deeper_is : (files depth : ℕ) → 1 ≤ depth → deeper_of files depth ≡ inner_here files (depth - 1)
deeper_is files zero h = absurd (omega arith)
deeper_is files (suc k) h = ap (inner_here files) (omega arith)

-- a block has its place where there may be one more
pub deep_enough : (depth : ℕ) (xs rest : List ℕ) → coded_if (inner_fits depth) item_forms xs ≡ Ok (x.With, rest) → 1 ≤ depth
deep_enough depth xs rest e = true_le 1 depth (passes (inner_fits depth) item_forms x.With xs rest e)

module _ (deeper : Reader Inner) (files depth : ℕ) (xs one : List ℕ) (p : Place) (placed : place_here files xs ≡ Ok (p, one)) where
  pub nested_block : (two three left : List ℕ) (h : Head) (is : List Inner) → coded_if (inner_fits depth) item_forms one ≡ Ok (x.With, two)
      → head_here two ≡ Ok (h, three) → list_of deeper three ≡ Ok (is, left) → nested_here deeper files depth xs ≡ Ok (block_at p h (inners is), left)
  unfolding nested_here block_here
  nested_block two three left h is form head inside = rw (placed, form, head, inside) refl

  by_other : (form : ItemForm) → form ≢ x.With → (two : List ℕ) → inner_by deeper p form two ≡ (constructor_here >>= (λ c. pure (constructor_at p c))) two
  by_other x.With other two = absurd (other refl)
  by_other x.Define other two = refl
  by_other x.AttachList other two = refl
  by_other x.AttachOne other two = refl
  by_other x.Macro other two = refl
  by_other x.Constructor other two = refl

  pub nested_constructor : (two left : List ℕ) (form : ItemForm) (c : Constructor) → coded_if (inner_fits depth) item_forms one ≡ Ok (form, two) → form ≢ x.With
      → constructor_here two ≡ Ok (c, left) → nested_here deeper files depth xs ≡ Ok (constructor_at p c, left)
  unfolding nested_here
  nested_constructor two left form c taken other read = rw (placed, taken, by_other form other two, read) refl

  pub stops_at_form : (e : Stop) → Stops (coded_if (inner_fits depth) item_forms one) e → Stops (nested_here deeper files depth xs) e
  unfolding nested_here
  stops_at_form e h = rw placed (stops_then (coded_if (inner_fits depth) item_forms one) (inner_by deeper p) e h)

  pub stops_at_head : (two : List ℕ) (e : Stop) → coded_if (inner_fits depth) item_forms one ≡ Ok (x.With, two) → Stops (head_here two) e → Stops (nested_here deeper files depth xs) e
  unfolding nested_here block_here
  stops_at_head two e form h = rw (placed, form) (stops_then (head_here two) _ e h)

  pub stops_at_inside : (two three : List ℕ) (h : Head) (e : Stop) → coded_if (inner_fits depth) item_forms one ≡ Ok (x.With, two) → head_here two ≡ Ok (h, three)
      → Stops (list_of deeper three) e → Stops (nested_here deeper files depth xs) e
  unfolding nested_here block_here
  stops_at_inside two three h e form head stop = rw (placed, form, head) (stops_then (list_of deeper three) _ e stop)

  pub stops_at_constructor : (two : List ℕ) (form : ItemForm) (e : Stop) → coded_if (inner_fits depth) item_forms one ≡ Ok (form, two) → form ≢ x.With
      → Stops (constructor_here two) e → Stops (nested_here deeper files depth xs) e
  unfolding nested_here
  stops_at_constructor two form e taken other stop = rw (placed, taken, by_other form other two) (stops_then (constructor_here two) _ e stop)

pub stops_at_place : (deeper : Reader Inner) (files depth : ℕ) (xs : List ℕ) (e : Stop) → Stops (place_here files xs) e → Stops (nested_here deeper files depth xs) e
unfolding nested_here
stops_at_place deeper files depth xs e h = stops_then (place_here files xs) _ e h

-- ---- what was read, as the definitions see it

chain_constructor : (first : ℕ) (c : program.Constructor) (rest : Inside) → chain_of (n.Constructor first c) rest ≡ constructor_then (constructor_of c) rest
chain_constructor first c rest =
    ap (λ x. chain_of x rest) (sym (rolls-Constructor first c)) ∙ ap (λ f. f rest) (fold-roll-Inner (Inside → Inside) inner_step (Inner-F.Constructor first c))

chain_block : (first : ℕ) (h : head.Head) (inside : Vec n.Inner Global) (rest : Inside) → chain_of (n.With first h inside) rest ≡ block_then (head_of h) (view.inside_of inside.items) rest
chain_block first h inside rest =
    ap (λ x. chain_of x rest) (sym (rolls-With first h inside)) ∙ ap (λ f. f rest) (fold-roll-Inner (Inside → Inside) inner_step (Inner-F.With first h inside))

indexes_constructor : (first : ℕ) (c : program.Constructor) → indexes_in (n.Constructor first c) ≡ first ∷ []
indexes_constructor first c = ap indexes_in (sym (rolls-Constructor first c)) ∙ fold-roll-Inner (List ℕ) inner_indexes_step (Inner-F.Constructor first c)

indexes_block : (first : ℕ) (h : head.Head) (inside : Vec n.Inner Global) → indexes_in (n.With first h inside) ≡ first ∷ inner_indexes inside.items
indexes_block first h inside = ap indexes_in (sym (rolls-With first h inside)) ∙ fold-roll-Inner (List ℕ) inner_indexes_step (Inner-F.With first h inside)

pub read_block : (files depth : ℕ) (xs one two three left : List ℕ) (p : Place) (before after : List Place) (first : ℕ) (h : head.Head) (inside : Vec n.Inner Global)
    → place_here files xs ≡ Ok (p, one) → coded_if (inner_fits depth) item_forms one ≡ Ok (x.With, two) → head_here two ≡ Ok (head_of h, three)
    → 1 ≤ depth → AreInside (list_of (inner_here files (depth - 1)) three) (before ++ p ∷ []) inside.items after left → first ≡ length before
    → IsInner (inner_here files depth xs) before (n.With first h inside) after left
read_block files depth xs one two three left p before after first h inside placed form head deep read number = record {
  inner = block_at p (head_of h) (inners read.members);
  reads = inner_is files depth xs ∙ nested_block (deeper_of files depth) files depth xs one p placed two three left (head_of h) read.members form head (ap (λ d. list_of d three) (deeper_is files depth deep) ∙ read.reads);
  is = λ rest. chain_block first h inside rest ∙ ap (λ i. block_then (head_of h) i rest) read.are;
  places = read.places ∙ append_assoc before (p ∷ []) (inner_places (inners read.members));
  numbers = indexes_block first h inside ∙ ap (λ ns. first ∷ ns) read.numbers ∙ block_numbers before p (inner_places (inners read.members)) first number;
}

pub read_constructor : (files depth : ℕ) (xs one two left : List ℕ) (p : Place) (before : List Place) (first : ℕ) (form : ItemForm) (c : program.Constructor)
    → place_here files xs ≡ Ok (p, one) → coded_if (inner_fits depth) item_forms one ≡ Ok (form, two) → form ≢ x.With → constructor_here two ≡ Ok (constructor_of c, left) → first ≡ length before
    → IsInner (inner_here files depth xs) before (n.Constructor first c) (before ++ p ∷ []) left
read_constructor files depth xs one two left p before first form c placed taken other read number = record {
  inner = constructor_at p (constructor_of c);
  reads = inner_is files depth xs ∙ nested_constructor (deeper_of files depth) files depth xs one p placed two left form (constructor_of c) taken other read;
  is = chain_constructor first c;
  places = refl;
  numbers = indexes_constructor first c ∙ ap (λ k. k ∷ []) number;
}

-- ---- in a loop

chained_more : (fs : List (Inside → Inside)) (f : Inside → Inside) (rest : Inside) → chained (fs ++ f ∷ []) rest ≡ chained fs (f rest)
chained_more [] f rest = refl
chained_more (g ∷ fs) f rest = ap g (chained_more fs f rest)

inside_is : (is : List Inner) → chained (map chain_in is) nothing ≡ inside_of (inners is)
inside_is [] = refl
inside_is (constructor_at p c ∷ is) = ap (constructor_then c) (inside_is is)
inside_is (block_at p h js ∷ is) = ap (block_then h (inside_of js)) (inside_is is)

more_places : (is : List Inner) (i : Inner) → inner_places (inners (is ++ i ∷ [])) ≡ inner_places (inners is) ++ places_in i
more_places [] (constructor_at p c) = refl
more_places [] (block_at p h js) = ap (λ ps. p ∷ ps) (append-nil (inner_places js))
more_places (constructor_at p c ∷ is) i = ap (λ ps. p ∷ ps) (more_places is i)
more_places (block_at p h js ∷ is) i =
    ap (λ ps. p ∷ (inner_places js ++ ps)) (more_places is i) ∙ ap (λ ps. p ∷ ps) (sym (append_assoc (inner_places js) (inner_places (inners is)) (places_in i)))

-- so many were read
pub record AreRead (found : List n.Inner) (before after : List Place) (members : List Inner) : Type 0 where
  pub are : (rest : Inside) → chained (map chain_of found) rest ≡ chained (map chain_in members) rest
  pub places : after ≡ before ++ inner_places (inners members)
  pub numbers : joined_lists (map indexes_in found) ≡ numbered before (inner_places (inners members))

pub none_read : (found : List n.Inner) (before : List Place) → found ≡ [] → AreRead found before before []
none_read found before none = record {
  are = λ rest. ap (λ ys. chained (map chain_of ys) rest) none;
  places = sym (append-nil before);
  numbers = ap (λ ys. joined_lists (map indexes_in ys)) none;
}

pub one_read : (found more : List n.Inner) (before after later : List Place) (members : List Inner) (y : n.Inner) (i : Inner) → more ≡ found ++ y ∷ []
    → ((rest : Inside) → chain_of y rest ≡ chain_in i rest) → later ≡ after ++ places_in i → indexes_in y ≡ numbered after (places_in i)
    → AreRead found before after members → AreRead more before later (members ++ i ∷ [])
one_read found more before after later members y i same is added counted so_far = record {
  are = λ rest.
      (ap (λ ys. chained (map chain_of ys) rest) same ∙ ap (λ fs. chained fs rest) (map_push chain_of found y) ∙ chained_more (map chain_of found) (chain_of y) rest
      ∙ so_far.are (chain_of y rest) ∙ ap (chained (map chain_in members)) (is rest)
      ∙ sym (ap (λ fs. chained fs rest) (map_push chain_in members i) ∙ chained_more (map chain_in members) (chain_in i) rest));
  places =
      added ∙ ap (λ ps. ps ++ places_in i) so_far.places ∙ append_assoc before (inner_places (inners members)) (places_in i)
      ∙ ap (λ ps. before ++ ps) (sym (more_places members i));
  numbers =
      ap (λ ys. joined_lists (map indexes_in ys)) same ∙ ap joined_lists (map_push indexes_in found y) ∙ joined_push (map indexes_in found) (indexes_in y)
      ∙ numbers_join before (inner_places (inners members)) (places_in i) after (joined_lists (map indexes_in found)) (indexes_in y) so_far.places so_far.numbers counted
      ∙ ap (numbered before) (sym (more_places members i));
}

pub all_read : (outcome : Outcome (List Inner)) (found : List n.Inner) (before after : List Place) (members : List Inner) (left : List ℕ) → outcome ≡ Ok (members, left)
    → AreRead found before after members → AreInside outcome before found after left
all_read outcome found before after members left reads read = record {
  members = members;
  reads = reads;
  are = read.are nothing ∙ inside_is members;
  places = read.places;
  numbers = read.numbers;
}

-- ---- items

module _ (files : ℕ) (xs one : List ℕ) (p : Place) (placed : place_here files xs ≡ Ok (p, one)) where
  pub item_block : (two three left : List ℕ) (h : Head) (is : List Inner) → coded item_forms one ≡ Ok (x.With, two) → head_here two ≡ Ok (h, three)
      → list_of (inner_here files deepest) three ≡ Ok (is, left) → placed_here files xs ≡ Ok (with_at p h (inners is), left)
  unfolding placed_here block_here
  item_block two three left h is form head inside = rw (placed, form, head, inside) refl

  placed_other : (form : ItemForm) → form ≢ x.With → (two : List ℕ) → placed_by files p form two ≡ (plain_by form >>= (λ i. pure (item_at p i))) two
  placed_other x.With other two = absurd (other refl)
  placed_other x.Define other two = refl
  placed_other x.AttachList other two = refl
  placed_other x.AttachOne other two = refl
  placed_other x.Macro other two = refl
  placed_other x.Constructor other two = refl

  pub item_plain : (two left : List ℕ) (form : ItemForm) (i : Item) → coded item_forms one ≡ Ok (form, two) → form ≢ x.With → plain_by form two ≡ Ok (i, left)
      → placed_here files xs ≡ Ok (item_at p i, left)
  unfolding placed_here
  item_plain two left form i taken other read = rw (placed, taken, placed_other form other two, read) refl

  pub item_stops_at_head : (two : List ℕ) (e : Stop) → coded item_forms one ≡ Ok (x.With, two) → Stops (head_here two) e → Stops (placed_here files xs) e
  unfolding placed_here block_here
  item_stops_at_head two e form h = rw (placed, form) (stops_then (head_here two) _ e h)

  pub item_stops_at_inside : (two three : List ℕ) (h : Head) (e : Stop) → coded item_forms one ≡ Ok (x.With, two) → head_here two ≡ Ok (h, three)
      → Stops (list_of (inner_here files deepest) three) e → Stops (placed_here files xs) e
  unfolding placed_here block_here
  item_stops_at_inside two three h e form head stop = rw (placed, form, head) (stops_then (list_of (inner_here files deepest) three) _ e stop)

  pub item_stops_at_plain : (two : List ℕ) (form : ItemForm) (e : Stop) → coded item_forms one ≡ Ok (form, two) → form ≢ x.With
      → Stops (plain_by form two) e → Stops (placed_here files xs) e
  unfolding placed_here
  item_stops_at_plain two form e taken other stop = rw (placed, taken, placed_other form other two) (stops_then (plain_by form two) _ e stop)

pub item_stops_at_place : (files : ℕ) (xs : List ℕ) (e : Stop) → Stops (place_here files xs) e → Stops (placed_here files xs) e
unfolding placed_here
item_stops_at_place files xs e h = stops_then (place_here files xs) _ e h

pub read_with : (files : ℕ) (xs one two three left : List ℕ) (p : Place) (before after : List Place) (y : item.Item) (h : Head) (inside : List n.Inner)
    → view.item_of y ≡ block h (view.inside_of inside)
    → place_here files xs ≡ Ok (p, one) → coded item_forms one ≡ Ok (x.With, two) → head_here two ≡ Ok (h, three)
    → AreInside (list_of (inner_here files deepest) three) (before ++ p ∷ []) inside after left → item_indexes y ≡ y.first ∷ inner_indexes inside → y.first ≡ length before
    → IsItem (placed_here files xs) before y after left
read_with files xs one two three left p before after y h inside seen placed form head read kept number = record {
  placed = with_at p h (inners read.members);
  reads = item_block files xs one p placed two three left h read.members form head read.reads;
  is = seen ∙ ap (block h) read.are;
  places = read.places ∙ append_assoc before (p ∷ []) (inner_places (inners read.members));
  numbers = kept ∙ ap (λ ns. y.first ∷ ns) read.numbers ∙ block_numbers before p (inner_places (inners read.members)) y.first number;
}

pub read_plain : (files : ℕ) (xs one two left : List ℕ) (p : Place) (before : List Place) (form : ItemForm) (y : item.Item) (i : Item) → view.item_of y ≡ i
    → place_here files xs ≡ Ok (p, one) → coded item_forms one ≡ Ok (form, two) → form ≢ x.With → plain_by form two ≡ Ok (i, left) → y.first ≡ length before
    → IsItem (placed_here files xs) before y (before ++ p ∷ []) left
read_plain files xs one two left p before form y i seen placed taken other read number = record {
  placed = item_at p i;
  reads = item_plain files xs one p placed two left form i taken other read;
  is = seen;
  places = refl;
  numbers = ap (λ ns. y.first ∷ ns) (plain_indexes form two left y.kind i seen other read) ∙ ap (λ k. k ∷ []) number;
}

-- so many items were read
pub record ItemsRead (found : List item.Item) (places : List Place) (placed : List Placed) : Type 0 where
  pub are : map view.item_of found ≡ map item_of placed
  pub are_places : places ≡ all_places placed
  pub numbers : joined_lists (map item_indexes found) ≡ numbered [] places

all_more : (is : List Placed) (i : Placed) → all_places (is ++ i ∷ []) ≡ all_places is ++ item_places i
all_more [] i = append-nil (item_places i)
all_more (j ∷ is) i = ap (λ ps. item_places j ++ ps) (all_more is i) ∙ sym (append_assoc (item_places j) (all_places is) (item_places i))

pub item_read : (found more : List item.Item) (places later : List Place) (placed : List Placed) (y : item.Item) (i : Placed) → more ≡ found ++ y ∷ []
    → view.item_of y ≡ item_of i → later ≡ places ++ item_places i → item_indexes y ≡ numbered places (item_places i) → ItemsRead found places placed
    → ItemsRead more later (placed ++ i ∷ [])
item_read found more places later placed y i same is added counted so_far = record {
  are =
      ap (map view.item_of) same ∙ map_push view.item_of found y ∙ ap (λ zs. zs ++ view.item_of y ∷ []) so_far.are ∙ ap (λ z. map item_of placed ++ z ∷ []) is
      ∙ sym (map_push item_of placed i);
  are_places = added ∙ ap (λ ps. ps ++ item_places i) so_far.are_places ∙ sym (all_more placed i);
  numbers =
      ap (λ ys. joined_lists (map item_indexes ys)) same ∙ ap joined_lists (map_push item_indexes found y) ∙ joined_push (map item_indexes found) (item_indexes y)
      ∙ numbers_join [] places (item_places i) places (joined_lists (map item_indexes found)) (item_indexes y) refl so_far.numbers counted ∙ ap (numbered []) (sym added);
}

-- ---- the loops

-- what was read so far, and what the rest gives, is what the whole gives
pub record InsideReading (files depth : ℕ) (whole : Outcome (List Inner)) (left : ℕ) (found : List n.Inner) (before after : List Place) (xs : List ℕ) : Type 0 where
  pub members : List Inner
  pub reads : whole ≡ collected members (some_more (λ k u. inner_here files depth) same_state left tt xs)
  pub read : AreRead found before after members

pub inside_begins : (files depth : ℕ) (xs rest : List ℕ) (count left : ℕ) (found : List n.Inner) (before : List Place) → left ≡ count → found ≡ [] → number 0 greatest xs ≡ Ok (count, rest)
    → InsideReading files depth (list_of (inner_here files depth) xs) left found before before rest
unfolding list_of
inside_begins files depth xs rest count left found before same none e = record {
  members = [];
  reads =
      rounds_begin (λ k u. inner_here files depth) same_state 0 greatest xs rest count tt e
      ∙ ap (λ k. collected [] (some_more (λ j u. inner_here files depth) same_state k tt rest)) (sym same);
  read = none_read found before none;
}

pub inside_goes : (files depth : ℕ) (whole : Outcome (List Inner)) (left k : ℕ) (found more : List n.Inner) (before after later : List Place) (xs rest : List ℕ) (y : n.Inner)
    → left ≡ suc k → more ≡ found ++ y ∷ [] → InsideReading files depth whole left found before after xs → IsInner (inner_here files depth xs) after y later rest
    → InsideReading files depth whole k more before later rest
inside_goes files depth whole left k found more before after later xs rest y same pushed so_far one = record {
  members = so_far.members ++ one.inner ∷ [];
  reads = so_far.reads ∙ round_goes (λ k u. inner_here files depth) same_state so_far.members left k tt xs rest one.inner same one.reads;
  read = one_read found more before after later so_far.members y one.inner pushed one.is one.places one.numbers so_far.read;
}

pub inside_stops : (files depth : ℕ) (whole : Outcome (List Inner)) (left k : ℕ) (found : List n.Inner) (before after : List Place) (xs : List ℕ) (e : Stop)
    → left ≡ suc k → InsideReading files depth whole left found before after xs → Stops (inner_here files depth xs) e → Stops whole e
inside_stops files depth whole left k found before after xs e same so_far h =
    stops_along whole _ e so_far.reads (round_stops (λ k u. inner_here files depth) same_state so_far.members left k tt xs e same h)

pub inside_ends : (files depth : ℕ) (whole : Outcome (List Inner)) (left : ℕ) (found : List n.Inner) (before after : List Place) (xs : List ℕ)
    → left ≡ 0 → InsideReading files depth whole left found before after xs → AreInside whole before found after xs
inside_ends files depth whole left found before after xs none so_far =
    all_read whole found before after so_far.members xs (so_far.reads ∙ rounds_end (λ k u. inner_here files depth) same_state so_far.members left tt xs none) so_far.read

pub record ItemsReading (files : ℕ) (whole : Outcome (List Placed)) (left : ℕ) (found : List item.Item) (places : List Place) (xs : List ℕ) : Type 0 where
  pub placed : List Placed
  pub reads : whole ≡ collected placed (some_more (λ k u. placed_here files) same_state left tt xs)
  pub read : ItemsRead found places placed

pub items_begin : (files most : ℕ) (xs rest : List ℕ) (count left : ℕ) (found : List item.Item) (places : List Place) → left ≡ count → found ≡ [] → places ≡ []
    → most ≡ most_items files → number 0 most xs ≡ Ok (count, rest) → ItemsReading files (items_here files xs) left found places rest
unfolding items_here
items_begin files most xs rest count left found places so_many none no_place same e = record {
  placed = [];
  reads =
      ap (λ m. listed 0 m (λ k u. placed_here files) same_state tt xs) (sym same) ∙ rounds_begin (λ k u. placed_here files) same_state 0 most xs rest count tt e
      ∙ ap (λ k. collected [] (some_more (λ j u. placed_here files) same_state k tt rest)) (sym so_many);
  read = record {
    are = ap (map view.item_of) none;
    are_places = no_place;
    numbers = ap (λ ys. joined_lists (map item_indexes ys)) none ∙ ap (numbered []) (sym no_place);
  };
}

pub items_stop_at_count : (files most : ℕ) (xs : List ℕ) (e : Stop) → most ≡ most_items files → Stops (number 0 most xs) e → Stops (items_here files xs) e
unfolding items_here
items_stop_at_count files most xs e same h =
    stops_along _ _ e (ap (λ m. listed 0 m (λ k u. placed_here files) same_state tt xs) (sym same)) (stops_then (number 0 most xs) _ e h)

pub items_go : (files : ℕ) (whole : Outcome (List Placed)) (left k : ℕ) (found more : List item.Item) (places later : List Place) (xs rest : List ℕ) (y : item.Item)
    → left ≡ suc k → more ≡ found ++ y ∷ [] → ItemsReading files whole left found places xs → IsItem (placed_here files xs) places y later rest
    → ItemsReading files whole k more later rest
items_go files whole left k found more places later xs rest y same pushed so_far one = record {
  placed = so_far.placed ++ one.placed ∷ [];
  reads = so_far.reads ∙ round_goes (λ k u. placed_here files) same_state so_far.placed left k tt xs rest one.placed same one.reads;
  read = item_read found more places later so_far.placed y one.placed pushed one.is one.places one.numbers so_far.read;
}

pub items_stop : (files : ℕ) (whole : Outcome (List Placed)) (left k : ℕ) (found : List item.Item) (places : List Place) (xs : List ℕ) (e : Stop)
    → left ≡ suc k → ItemsReading files whole left found places xs → Stops (placed_here files xs) e → Stops whole e
items_stop files whole left k found places xs e same so_far h =
    stops_along whole _ e so_far.reads (round_stops (λ k u. placed_here files) same_state so_far.placed left k tt xs e same h)

pub items_end : (files : ℕ) (whole : Outcome (List Placed)) (left : ℕ) (found : program_items.Placed) (xs : List ℕ)
    → left ≡ 0 → ItemsReading files whole left found.items.items found.places.items xs → AreItems whole found xs
items_end files whole left found xs none so_far = record {
  placed = so_far.placed;
  reads = so_far.reads ∙ rounds_end (λ k u. placed_here files) same_state so_far.placed left tt xs none;
  are = so_far.read.are;
  places = so_far.read.are_places;
  numbers = so_far.read.numbers;
}
