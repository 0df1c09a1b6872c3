-- The indexes of first symbols that items keep.
use Rattle.std.proofs.Common.{◌≡◌, ℕ, ◌+◌, ◌-◌, ◌≤◌, List, [], ◌∷◌, ◌++◌, map, length, Ok, refl, ap, sym, ◌∙◌, append_assoc, append-nil, arith}
use Rattle.sl_ast.specs.Spelling.{spell_item, spell_constructor, spell}
use Rattle.sl_ast.specs.Trees as t
use Rattle.sl_ast.specs.Trees.{Inside, nothing, define, attach_list, attach_one, macro, constructor, block}
use Rattle.sl_ast.specs.Unfolding.{size_of_head, firsts_inside, firsts_from, firsts}
use Rattle.sl_ast.specs.Validity.{heaviest, deepest}
use Rattle.sl_ast.specs.Views.{chained, constructor_of, head_of, inner_indexes, item_of, item_indexes, joined_lists, kind_indexes}
use Rattle.sl_ast.specs.declared.constructors.Constructor.{Constructor}
use Rattle.sl_ast.specs.declared.constructors.Inner as n
use Rattle.sl_ast.specs.declared.items.Item.{Item}
use Rattle.sl_ast.specs.declared.items.ItemKind.{ItemKind}
use Rattle.sl_ast.specs.declared.items.ItemKind.TheVariants as iv
use Rattle.sl_parse_grammar.specs.Items.{constructor_here, head, block_at, item}
use Rattle.sl_parse_grammar.specs.Reader.{Input, left, first}
use Rattle.sl_parse.specs.Blocks.{KeepsPart, KeepsInside, KeepsBlock, KeepsItem, IsFlat, block_of, chain_of, constructor_or_block, inner_places, inside_of_vec}
use Rattle.sl_parse.specs.declared.blocks.Block.{Block}
use Rattle.sl_parse.proofs.Chains.{chained_more, map_more, part_within}
use Rattle.sl_parse.proofs.Folds.{chain_constructor, chain_block, places_constructor, places_block}
use Rattle.sl_parse.proofs.Lengths.{constructor_counts, head_counts, item_counts}
use Rattle.sl_parse.proofs.Spelled.{constructor_spelled, head_spelled, block_spelled, item_spelled}

joined_more : {A : Type 0} (f : A → List ℕ) (xs : List A) (x : A) → joined_lists (map f (xs ++ x ∷ [])) ≡ joined_lists (map f xs) ++ f x
joined_more f [] x = append-nil (f x)
joined_more f (y ∷ ys) x = ap (λ ns. f y ++ ns) (joined_more f ys x) ∙ sym (append_assoc (f y) (joined_lists (map f ys)) (f x))

-- ---- inside a block

pub part_constructor : (total : ℕ) (i j : Input) (c : Constructor) (place : ℕ) → place ≡ total - left i → constructor_here heaviest i ≡ Ok (constructor_of c, j)
    → KeepsPart total i (n.Constructor place c) j
part_constructor total i j c place here e = record {
  kept = λ le more.
      let taken = ap length (constructor_spelled i j (constructor_of c) e) in
      let counts = constructor_counts (constructor_of c) j.rest in
      let behind : total - left i + length (spell_constructor (constructor_of c) []) ≡ total - left j = omega arith in
      ap (λ y. firsts_inside (total - left i) y) (chain_constructor place c more) ∙ ap (λ m. (total - left i) ∷ firsts_inside m more) behind
      ∙ ap (λ m. m ∷ firsts_inside (total - left j) more) (sym here) ∙ ap (λ ns. ns ++ firsts_inside (total - left j) more) (sym (places_constructor place c));
}

pub part_block : (total deep : ℕ) (i j : Input) (b : Block) (place : ℕ) → place ≡ total - left i → block_at heaviest deep i ≡ Ok (block_of b, j) → KeepsBlock total i b
    → KeepsPart total i (n.With place b.head b.inside) j
part_block total deep i j b place here e inner = record {
  kept = λ le more.
      let tree = block (head_of b.head) (inside_of_vec b.inside) in
      let taken = ap length (block_spelled deep i j (block_of b) e) in
      let counts = item_counts tree j.rest in
      let behind : total - left i + length (spell_item tree []) ≡ total - left j = omega arith in
      ap (λ y. firsts_inside (total - left i) y) (chain_block place b.head b.inside more)
      ∙ ap (λ m. (total - left i) ∷ (firsts_inside (total - left i + size_of_head (head_of b.head)) (inside_of_vec b.inside) ++ firsts_inside m more)) behind
      ∙ ap (λ ns. (total - left i) ∷ (ns ++ firsts_inside (total - left j) more)) (inner.kept le)
      ∙ ap (λ m. m ∷ (inner_indexes b.inside.items ++ firsts_inside (total - left j) more)) (sym here)
      ∙ ap (λ ns. ns ++ firsts_inside (total - left j) more) (sym (places_block place b.head b.inside));
}

-- what was read of a block's inside
pub record InsideSoFar (total : ℕ) (start : Input) (found : List n.Inner) (i : Input) : Type 0 where
  pub within : left i ≤ left start
  pub kept : left start ≤ total → (more : Inside) → firsts_inside (total - left start) (chained (map chain_of found) more) ≡ inner_indexes found ++ firsts_inside (total - left i) more

pub inside_none : (total : ℕ) (i : Input) → InsideSoFar total i [] i
inside_none total i = record { within = omega arith; kept = λ le more. refl }

pub inside_more : (total deep : ℕ) (start : Input) (found more : List n.Inner) (i j : Input) (x : n.Inner) → InsideSoFar total start found i → KeepsPart total i x j
    → constructor_or_block (constructor_here heaviest) (block_at heaviest deep) (first i.rest) i ≡ Ok (chain_of x, j) → more ≡ found ++ x ∷ [] → InsideSoFar total start more j
inside_more total deep start found more i j x so_far part e pushed =
    let shorter = part_within deep i (chain_of x) j e in
    let before = so_far.within in
    record {
      within = omega arith;
      kept = λ le rest.
          let at = total - left start in
          let behind = firsts_inside (total - left j) rest in
          ap (λ xs. firsts_inside at (chained (map chain_of xs) rest)) pushed ∙ ap (λ fs. firsts_inside at (chained fs rest)) (map_more found x)
          ∙ ap (λ y. firsts_inside at y) (chained_more (map chain_of found) (chain_of x) rest) ∙ so_far.kept le (chain_of x rest)
          ∙ ap (λ ns. inner_indexes found ++ ns) (part.kept (omega arith) rest) ∙ sym (append_assoc (inner_indexes found) (inner_places x) behind)
          ∙ ap (λ ns. ns ++ behind) (sym (ap (λ xs. inner_indexes xs) pushed ∙ joined_more inner_places found x));
    }

pub inside_all : (total : ℕ) (start i : Input) (found : List n.Inner) → InsideSoFar total start found i → KeepsInside total start found
inside_all total start i found so_far = record { kept = λ le. so_far.kept le nothing ∙ append-nil (inner_indexes found) }

pub block_keeps : (total : ℕ) (i j : Input) (b : Block) → head heaviest i ≡ Ok (head_of b.head, j) → KeepsInside total j b.inside.items → KeepsBlock total i b
block_keeps total i j b e inner = record {
  kept = λ le.
      let taken = ap length (head_spelled i j (head_of b.head) e) in
      let counts = head_counts (head_of b.head) j.rest in
      let behind : total - left i + size_of_head (head_of b.head) ≡ total - left j = omega arith in
      ap (λ m. firsts_inside m (inside_of_vec b.inside)) behind ∙ inner.kept (omega arith);
}

-- ---- items

pub flat_keeps : (total : ℕ) (i : Input) (kind : ItemKind) → IsFlat kind → KeepsItem total i kind
flat_keeps total i (iv.With d inside) flat = absurd flat
flat_keeps total i kind flat = record { kept = λ le. refl }

pub block_item_keeps : (total : ℕ) (i : Input) (b : Block) → KeepsBlock total i b → KeepsItem total i (iv.With b.head b.inside)
block_item_keeps total i b inner = record {
  kept = λ le.
      let at = total - left i in
      ap (λ ns. at ∷ ns) (append-nil (firsts_inside (at + size_of_head (head_of b.head)) (inside_of_vec b.inside)) ∙ inner.kept le);
}

-- an item's own indexes, and those of the rest
apart : (at : ℕ) (x : t.Item) (rest : List t.Item) → firsts_from at (x ∷ rest) ≡ firsts_from at (x ∷ []) ++ firsts_from (at + length (spell_item x [])) rest
apart at (define d) rest = refl
apart at (attach_list kind names members) rest = refl
apart at (attach_one kind names member) rest = refl
apart at (macro d) rest = refl
apart at (constructor c) rest = refl
apart at (block h x) rest =
    let inner = firsts_inside (at + size_of_head h) x in
    ap (λ ns. at ∷ (ns ++ firsts_from (at + length (spell_item (block h x) [])) rest)) (sym (append-nil inner))

firsts_more : (at : ℕ) (xs : List t.Item) (x : t.Item) → firsts_from at (xs ++ x ∷ []) ≡ firsts_from at xs ++ firsts_from (at + length (spell xs)) (x ∷ [])
firsts_more at [] x = let same : at ≡ at + 0 = omega arith in ap (λ m. firsts_from m (x ∷ [])) same
firsts_more at (y ∷ ys) x =
    let after = at + length (spell_item y []) in
    let place : after + length (spell ys) ≡ at + length (spell (y ∷ ys)) = omega (arith, item_counts y (spell ys)) in
    apart at y (ys ++ x ∷ []) ∙ ap (λ ns. firsts_from at (y ∷ []) ++ ns) (firsts_more after ys x)
    ∙ sym (append_assoc (firsts_from at (y ∷ [])) (firsts_from after ys) (firsts_from (after + length (spell ys)) (x ∷ [])))
    ∙ ap (λ ns. ns ++ firsts_from (after + length (spell ys)) (x ∷ [])) (sym (apart at y ys)) ∙ ap (λ m. firsts_from at (y ∷ ys) ++ firsts_from m (x ∷ [])) place

spelled_more : (xs : List t.Item) (x : t.Item) → length (spell (xs ++ x ∷ [])) ≡ length (spell xs) + length (spell_item x [])
spelled_more [] x = omega arith
spelled_more (y ∷ ys) x = omega (arith, item_counts y (spell (ys ++ x ∷ [])), item_counts y (spell ys), spelled_more ys x)

pub map_item_more : (xs : List Item) (x : Item) → map item_of (xs ++ x ∷ []) ≡ map item_of xs ++ item_of x ∷ []
map_item_more [] x = refl
map_item_more (y ∷ ys) x = ap (λ zs. item_of y ∷ zs) (map_item_more ys x)

-- what was read of all items
pub record ItemsSoFar (total : ℕ) (found : List Item) (i : Input) : Type 0 where
  pub kept : joined_lists (map item_indexes found) ≡ firsts (map item_of found)
  pub taken : total ≡ length (spell (map item_of found)) + left i

pub items_none : (total : ℕ) (i : Input) → total ≡ left i → ItemsSoFar total [] i
items_none total i e = record { kept = refl; taken = omega arith }

pub items_more : (total : ℕ) (found more : List Item) (i j : Input) (x : Item) → ItemsSoFar total found i → x.first ≡ total - left i → KeepsItem total i x.kind
    → item heaviest deepest i ≡ Ok (item_of x, j) → more ≡ found ++ x ∷ [] → ItemsSoFar total more j
items_more total found more i j x so_far here inner e pushed =
    let trees = map item_of found in
    let before = so_far.taken in
    let place : total - left i ≡ 0 + length (spell trees) = omega arith in
    let took = ap length (item_spelled i j (item_of x) e) in
    let counts = item_counts (item_of x) j.rest in
    let spelled = ap (λ xs. length (spell (map item_of xs))) pushed ∙ ap (λ xs. length (spell xs)) (map_item_more found x) ∙ spelled_more trees (item_of x) in
    record {
      kept =
          ap (λ xs. joined_lists (map item_indexes xs)) pushed ∙ joined_more item_indexes found x ∙ ap (λ ns. ns ++ item_indexes x) so_far.kept
          ∙ ap (λ m. firsts trees ++ m ∷ kind_indexes x.kind) here ∙ ap (λ ns. firsts trees ++ ns) (sym (inner.kept (omega arith)))
          ∙ ap (λ m. firsts trees ++ firsts_from m (item_of x ∷ [])) place ∙ sym (firsts_more 0 trees (item_of x))
          ∙ sym (ap (λ xs. firsts (map item_of xs)) pushed ∙ ap firsts (map_item_more found x));
      taken = omega arith;
    }
