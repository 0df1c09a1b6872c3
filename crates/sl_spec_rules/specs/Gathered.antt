-- meaning: lists one behind the other.
use Rattle.std.specs.Prelude.{List, [], ◌∷◌, ◌++◌}

-- what each member gives, in order
unfoldable pub gathered : {X M : Type 0} → (X → List M) → List X → List M
gathered f [] = []
gathered f (x ∷ xs) = f x ++ gathered f xs
