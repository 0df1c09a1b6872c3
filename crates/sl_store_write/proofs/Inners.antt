-- What is inside blocks, and items, written in a loop.
use Rattle.std.proofs.Common.{◌≡◌, ℕ, zero, suc, ◌<◌, ◌≤◌, ◌+◌, List, [], ◌∷◌, ◌++◌, Vec, map, length, drop, get_or, refl, ap, sym, ◌∙◌, subst, arith, append_assoc, append-nil}
use Rattle.std.specs.declared.alloc.Global.{Global}
use Rattle.sl_ast.specs.Trees as t
use Rattle.sl_ast.specs.Trees.{Inside, nothing, constructor_then, block_then}
use Rattle.sl_ast.specs.Views.{constructor_of, head_of, inner_step, inside_of, item_of}
use Rattle.sl_ast.specs.declared.constructors.Constructor.{Constructor}
use Rattle.sl_ast.specs.declared.constructors.Head.{Head}
use Rattle.sl_ast.specs.declared.constructors.Inner as n
use Rattle.sl_ast.specs.declared.constructors.Inner.{Inner}
use Rattle.sl_ast.specs.declared.constructors.Inner.TheFolds.{fold-roll-Inner}
use Rattle.sl_ast.specs.declared.constructors.Inner.TheOpen.{Inner-F}
use Rattle.sl_ast.specs.declared.constructors.Inner.TheVariants.{rolls-Constructor, rolls-With}
use Rattle.sl_ast.specs.declared.items.Item.{Item}
use Rattle.sl_store_write.specs.Placing.{first_place, after_inside, placed_inside, inside_bytes, after_item, placed_item, placed_items}
use Rattle.sl_store_write.specs.Steps.{chain_of, PutsPart}
use Rattle.sl_store_format.specs.Constructors.{write_constructor, write_head}
use Rattle.sl_store_format.specs.Items.{size, write_place, write_placed}
use Rattle.sl_store_format.specs.Packed.{chain_length}
use Rattle.sl_store_bytes.specs.Lists.{write_all, write_list}
use Rattle.sl_store_bytes.specs.Numbers.{write_number}
use Rattle.sl_preproc.specs.declared.places.Place.{Place}
use Rattle.sl_store_write.proofs.Puts.{length_of}

-- ---- a part of a block, by its shape

chain_constructor : (first : ℕ) (c : Constructor) (rest : Inside) → chain_of (n.Constructor first c) rest ≡ constructor_then (constructor_of c) rest
chain_constructor first c rest =
    ap (λ x. chain_of x rest) (sym (rolls-Constructor first c)) ∙ ap (λ f. f rest) (fold-roll-Inner (Inside → Inside) inner_step (Inner-F.Constructor first c))

chain_block : (first : ℕ) (h : Head) (inside : Vec Inner Global) (rest : Inside) → chain_of (n.With first h inside) rest ≡ block_then (head_of h) (inside_of inside.items) rest
chain_block first h inside rest =
    ap (λ x. chain_of x rest) (sym (rolls-With first h inside)) ∙ ap (λ f. f rest) (fold-roll-Inner (Inside → Inside) inner_step (Inner-F.With first h inside))

pub puts_constructor : (first : ℕ) (c : Constructor) (old new : List ℕ) (ps qs : List Place) → qs ≡ drop 1 ps
    → new ≡ old ++ (write_place (first_place ps) ++ (4 ∷ write_constructor (constructor_of c)))
    → (rest : Inside) → PutsPart (chain_of (n.Constructor first c)) rest old ps new qs
puts_constructor first c old new ps qs left e rest = record {
  bytes =
      ap (λ i. old ++ inside_bytes i ps) (chain_constructor first c rest)
      ∙ sym (append_assoc old (write_place (first_place ps) ++ (4 ∷ write_constructor (constructor_of c))) (inside_bytes rest (drop 1 ps)))
      ∙ ap (λ b. b ++ inside_bytes rest (drop 1 ps)) (sym e) ∙ ap (λ q. new ++ inside_bytes rest q) (sym left);
  places = ap (λ i. after_inside i ps) (chain_constructor first c rest) ∙ ap (after_inside rest) (sym left);
  one = ap chain_length (chain_constructor first c rest);
}

size_is : (i : Inside) (ps : List Place) → size (placed_inside i ps) ≡ chain_length i
size_is nothing ps = refl
size_is (constructor_then c more) ps = ap suc (size_is more (drop 1 ps))
size_is (block_then h inside more) ps = ap suc (size_is more (after_inside inside (drop 1 ps)))

-- the number of what is inside a block, as it is written
pub size_placed : (i : Inside) (ps : List Place) (n : ℕ) → chain_length i ≡ n → size (placed_inside i ps) ≡ n
size_placed i ps n e = size_is i ps ∙ e

-- ---- what is inside a block, in a loop

-- what was written, and what is left of the block, is what there was to write
pub record AreWritten (start : List ℕ) (ps : List Place) (xs : List Inner) (out : List ℕ) (left : List Place) (i : ℕ) : Type 0 where
  pub bytes : start ++ inside_bytes (inside_of xs) ps ≡ out ++ inside_bytes (inside_of (drop i xs)) left
  pub places : after_inside (inside_of xs) ps ≡ after_inside (inside_of (drop i xs)) left
  pub many : chain_length (inside_of xs) ≡ i + chain_length (inside_of (drop i xs))
  pub low : i ≤ length xs

pub none_written : (start : List ℕ) (ps : List Place) (xs : List Inner) → AreWritten start ps xs start ps 0
none_written start ps xs = record { bytes = refl; places = refl; many = omega arith; low = omega arith }

left_suc : {A : Type 0} (xs : List A) (i : ℕ) (x : A) → i < length xs → x ≡ get_or xs i x → drop i xs ≡ x ∷ drop (suc i) xs
left_suc [] i x h is = absurd (omega arith)
left_suc (y ∷ ys) zero x h is = ap (λ z. z ∷ ys) (sym is)
left_suc (y ∷ ys) (suc i) x h is = left_suc ys i x (omega arith) is

left_at : {A : Type 0} (xs : List A) (i : ℕ) (x : A) → i < length xs → x ≡ get_or xs i x → drop i xs ≡ x ∷ drop (i + 1) xs
left_at xs i x h is = let one : suc i ≡ i + 1 = omega arith in left_suc xs i x h is ∙ ap (λ k. x ∷ drop k xs) one

pub inner_written : (start : List ℕ) (ps : List Place) (xs : List Inner) (out new : List ℕ) (left after : List Place) (i : ℕ) (x : Inner) → i < length xs → x ≡ get_or xs i x
    → AreWritten start ps xs out left i → ((rest : Inside) → PutsPart (chain_of x) rest out left new after) → AreWritten start ps xs new after (i + 1)
inner_written start ps xs out new left after i x h is before puts =
    let rest = inside_of (drop (i + 1) xs) in
    let next : inside_of (drop i xs) ≡ chain_of x rest = ap inside_of (left_at xs i x h is) in
    let put = puts rest in
    let one : chain_length (inside_of (drop i xs)) ≡ suc (chain_length rest) = ap chain_length next ∙ put.one in
    let many = before.many in
    record {
      bytes = before.bytes ∙ ap (λ j. out ++ inside_bytes j left) next ∙ put.bytes;
      places = before.places ∙ ap (λ j. after_inside j left) next ∙ put.places;
      many = omega arith;
      low = omega arith;
    }

none_left : {A : Type 0} (xs : List A) (i : ℕ) → length xs ≤ i → drop i xs ≡ []
none_left [] zero h = refl
none_left [] (suc i) h = refl
none_left (x ∷ xs) zero h = absurd (omega arith)
none_left (x ∷ xs) (suc i) h = none_left xs i (omega arith)

pub all_bytes : (start : List ℕ) (ps : List Place) (xs : List Inner) (out : List ℕ) (left : List Place) (i : ℕ) → length xs ≤ i
    → AreWritten start ps xs out left i → out ≡ start ++ inside_bytes (inside_of xs) ps
all_bytes start ps xs out left i h w = sym (w.bytes ∙ ap (λ ys. out ++ inside_bytes (inside_of ys) left) (none_left xs i h) ∙ append-nil out)

pub all_places : (start : List ℕ) (ps : List Place) (xs : List Inner) (out : List ℕ) (left : List Place) (i : ℕ) → length xs ≤ i
    → AreWritten start ps xs out left i → left ≡ after_inside (inside_of xs) ps
all_places start ps xs out left i h w = sym (w.places ∙ ap (λ ys. after_inside (inside_of ys) left) (none_left xs i h))

pub all_many : (start : List ℕ) (ps : List Place) (xs : List Inner) (out : List ℕ) (left : List Place) (i : ℕ) → length xs ≤ i
    → AreWritten start ps xs out left i → chain_length (inside_of xs) ≡ length xs
all_many start ps xs out left i high w =
    let low = w.low in
    let none : chain_length (inside_of (drop i xs)) ≡ 0 = ap (λ ys. chain_length (inside_of ys)) (none_left xs i high) in
    let many = w.many in omega arith

-- a block, of which the place, the byte, the head and the number were written before what is inside it
pub puts_block : (first : ℕ) (h : Head) (inside : Vec Inner Global) (xs : List Inner) (old mid new : List ℕ) (ps own left : List Place) (i : ℕ) → xs ≡ inside.items → length xs ≤ i
    → mid ≡ old ++ (write_place (first_place ps) ++ (5 ∷ (write_head (head_of h) ++ write_number (length xs))))
    → own ≡ drop 1 ps → AreWritten mid own xs new left i → (rest : Inside) → PutsPart (chain_of (n.With first h inside)) rest old ps new left
puts_block first h inside xs old mid new ps own left i same high begun taken so_far rest =
    let w : AreWritten mid (drop 1 ps) xs new left i = subst (λ q. AreWritten mid q xs new left i) taken so_far in
    let whole = inside_of xs in
    let shape : chain_of (n.With first h inside) rest ≡ block_then (head_of h) whole rest =
    chain_block first h inside rest ∙ ap (λ ys. block_then (head_of h) (inside_of ys) rest) (sym same) in
    let out = all_bytes mid (drop 1 ps) xs new left i high w in
    let after = all_places mid (drop 1 ps) xs new left i high w in
    let many = size_placed whole (drop 1 ps) (length xs) (all_many mid (drop 1 ps) xs new left i high w) in
    let body = inside_bytes whole (drop 1 ps) in
    let front = write_place (first_place ps) in
    let head = write_head (head_of h) in
    let rest_bytes = inside_bytes rest left in
    let written : new ≡ old ++ (front ++ (5 ∷ (head ++ (write_number (length xs) ++ body)))) =
    out ∙ ap (λ m. m ++ body) begun ∙ append_assoc old (front ++ (5 ∷ (head ++ write_number (length xs)))) body
    ∙ ap (λ b. old ++ b) (append_assoc front (5 ∷ (head ++ write_number (length xs))) body) ∙ ap (λ b. old ++ (front ++ (5 ∷ b))) (append_assoc head (write_number (length xs)) body) in
    record {
      bytes =
          ap (λ j. old ++ inside_bytes j ps) shape
          ∙ ap (λ k. old ++ ((front ++ (5 ∷ (head ++ (write_number k ++ body)))) ++ inside_bytes rest (after_inside whole (drop 1 ps)))) many
          ∙ ap (λ q. old ++ ((front ++ (5 ∷ (head ++ (write_number (length xs) ++ body)))) ++ inside_bytes rest q)) (sym after)
          ∙ sym (append_assoc old (front ++ (5 ∷ (head ++ (write_number (length xs) ++ body)))) rest_bytes)
          ∙ ap (λ b. b ++ rest_bytes) (sym written);
      places = ap (λ j. after_inside j ps) shape ∙ ap (after_inside rest) (sym after);
      one = ap chain_length shape;
    }

-- ---- items in a loop

pub length_placed : (is : List t.Item) (ps : List Place) → length (placed_items is ps) ≡ length is
length_placed [] ps = refl
length_placed (i ∷ is) ps = ap suc (length_placed is (after_item i ps))

abbrev items_bytes : List Item → List Place → List ℕ
items_bytes xs ps = write_all write_placed (placed_items (map item_of xs) ps)

pub record ItemsWritten (start : List ℕ) (ps : List Place) (xs : List Item) (out : List ℕ) (left : List Place) (i : ℕ) : Type 0 where
  pub bytes : start ++ items_bytes xs ps ≡ out ++ items_bytes (drop i xs) left

pub no_item : (start : List ℕ) (ps : List Place) (xs : List Item) → ItemsWritten start ps xs start ps 0
no_item start ps xs = record { bytes = refl }

pub item_written : (start : List ℕ) (ps : List Place) (xs : List Item) (out new : List ℕ) (left after : List Place) (i : ℕ) (x : Item) → i < length xs → x ≡ get_or xs i x
    → ItemsWritten start ps xs out left i → new ≡ out ++ write_placed (placed_item (item_of x) left) → after ≡ after_item (item_of x) left → ItemsWritten start ps xs new after (i + 1)
item_written start ps xs out new left after i x h is before e next =
    record {
      bytes =
          before.bytes ∙ ap (λ ys. out ++ items_bytes ys left) (left_at xs i x h is)
          ∙ sym (append_assoc out (write_placed (placed_item (item_of x) left)) (items_bytes (drop (i + 1) xs) (after_item (item_of x) left)))
          ∙ ap (λ b. b ++ items_bytes (drop (i + 1) xs) (after_item (item_of x) left)) (sym e)
          ∙ ap (λ q. new ++ items_bytes (drop (i + 1) xs) q) (sym next);
    }

pub items_written : (old start : List ℕ) (ps : List Place) (xs : List Item) (out : List ℕ) (left : List Place) (i : ℕ) → length xs ≤ i
    → start ≡ old ++ write_number (length xs) → ItemsWritten start ps xs out left i → out ≡ old ++ write_list write_placed (placed_items (map item_of xs) ps)
items_written old start ps xs out left i h begun w =
    sym (w.bytes ∙ ap (λ ys. out ++ items_bytes ys left) (none_left xs i h) ∙ append-nil out)
    ∙ ap (λ s. s ++ items_bytes xs ps) begun ∙ append_assoc old (write_number (length xs)) (items_bytes xs ps)
    ∙ ap (λ k. old ++ (write_number k ++ items_bytes xs ps)) (sym (length_placed (map item_of xs) ps ∙ length_of item_of xs))
