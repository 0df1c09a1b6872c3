-- meaning: how two lists of tokens lie to one another.
use Rattle.std.specs.Prelude.{ℕ, ◌==◌, List, [], ◌∷◌, if◌then◌else◌}
use Rattle.sl_shape_tokens.specs.declared.shapes.Compared.{Compared}
use Rattle.sl_shape_tokens.specs.declared.shapes.Compared.TheVariants.{Same, FirstShorter, SecondShorter, Apart}

-- whether two lists are the same, one is the beginning of the other, or they differ
abbrev pub compared : List ℕ → List ℕ → Compared
compared [] [] = Same
compared [] (y ∷ ys) = FirstShorter
compared (x ∷ xs) [] = SecondShorter
compared (x ∷ xs) (y ∷ ys) = if x == y then compared xs ys else Apart

-- the longest list with which both begin
abbrev pub common_prefix : List ℕ → List ℕ → List ℕ
common_prefix [] ys = []
common_prefix (x ∷ xs) [] = []
common_prefix (x ∷ xs) (y ∷ ys) = if x == y then x ∷ common_prefix xs ys else []
