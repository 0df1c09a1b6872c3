-- law: constructors without `with` blocks, as the program keeps them.
use Rattle.std.specs.Prelude.{ℕ, List, [], ◌∷◌, map}
use Rattle.sl_ast.specs.Trees.{Constructor, Head, Item}
use Rattle.sl_ast.specs.Unfolding.{Placed, in_block, unfolded_from}
use Rattle.sl_ast.specs.Views.{constructor_of, head_of}
use Rattle.sl_spec.specs.declared.unfolded.Around.{Around}
use Rattle.sl_spec.specs.declared.unfolded.Unfolded.{Unfolded}

-- a constructor in these blocks, the outermost first
abbrev pub under : List Head → Constructor → Constructor
under [] c = c
under (h ∷ hs) c = in_block h (under hs c)

-- the heads of blocks
abbrev pub heads_of : List Around → List Head
heads_of around = map (λ a. head_of a.head.now) around

-- a constructor with the number of its item
abbrev pub placed : Unfolded → Placed Constructor
placed u = (u.number, under (heads_of u.heads.items) (constructor_of u.own.now))

-- the constructors that the program keeps
abbrev pub all_placed : List Unfolded → List (Placed Constructor)
all_placed us = map placed us

-- what an item is without `with` blocks: itself, or the constructors of a block
abbrev pub unfolded_one : ℕ → Item → List (Placed Item)
unfolded_one n item = unfolded_from n (item ∷ [])
