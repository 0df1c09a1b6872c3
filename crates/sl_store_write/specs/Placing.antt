-- step: items with the places that come next. Where none is left, the first file as a whole stands for it.
use Rattle.std.specs.Prelude.{ℕ, List, [], ◌∷◌, ◌++◌, drop}
use Rattle.sl_ast.specs.Trees.{Head, Inside, nothing, constructor_then, block_then, Item, block}
use Rattle.sl_store_format.specs.Constructors.{write_head}
use Rattle.sl_store_format.specs.Items.{place_of, constructor_at, block_at, Inners, no_inner, with_inner, Placed, item_at, with_at, size, write_inners}
use Rattle.sl_store_bytes.specs.Numbers.{write_number}
use Rattle.sl_preproc.specs.declared.places.Place.{Place}

abbrev pub first_place : List Place → Place
first_place [] = place_of 0 0
first_place (p ∷ ps) = p

-- the places that what is inside a block leaves
abbrev pub after_inside : Inside → List Place → List Place
after_inside nothing ps = ps
after_inside (constructor_then c more) ps = after_inside more (drop 1 ps)
after_inside (block_then h inside more) ps = after_inside more (after_inside inside (drop 1 ps))

abbrev pub placed_inside : Inside → List Place → Inners
placed_inside nothing ps = no_inner
placed_inside (constructor_then c more) ps = with_inner (constructor_at (first_place ps) c) (placed_inside more (drop 1 ps))
placed_inside (block_then h inside more) ps =
    with_inner (block_at (first_place ps) h (placed_inside inside (drop 1 ps))) (placed_inside more (after_inside inside (drop 1 ps)))

abbrev pub inside_bytes : Inside → List Place → List ℕ
inside_bytes inside ps = write_inners (placed_inside inside ps)

-- a block after its place
abbrev pub block_bytes : Head → Inners → List ℕ
block_bytes h is = 5 ∷ (write_head h ++ (write_number (size is) ++ write_inners is))

-- the places that an item leaves
abbrev pub after_item : Item → List Place → List Place
after_item (block h inside) ps = after_inside inside (drop 1 ps)
after_item i ps = drop 1 ps

abbrev pub placed_item : Item → List Place → Placed
placed_item (block h inside) ps = with_at (first_place ps) h (placed_inside inside (drop 1 ps))
placed_item i ps = item_at (first_place ps) i

abbrev pub placed_items : List Item → List Place → List Placed
placed_items [] ps = []
placed_items (i ∷ is) ps = placed_item i ps ∷ placed_items is (after_item i ps)
