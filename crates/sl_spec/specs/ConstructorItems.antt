-- meaning: the constructors among items.
use Rattle.std.specs.Prelude.{ℕ, List, [], ◌∷◌, ◌++◌}
use Rattle.sl_ast.specs.Trees.{Constructor, Item, constructor}
use Rattle.sl_ast.specs.Unfolding.{Placed}

-- the constructor that an item is
abbrev pub constructor_at : ℕ → Item → List (Placed Constructor)
constructor_at n (constructor c) = (n, c) ∷ []
constructor_at n _ = []

-- the constructors among items
unfoldable pub constructors_in : List (Placed Item) → List (Placed Constructor)
constructors_in [] = []
constructors_in (item ∷ items) = constructor_at item.0 item.1 ++ constructors_in items
