-- meaning: lists of names, each of which is its bytes.
use Rattle.std.specs.Prelude.{ℕ, Bool, List, Option}
use Rattle.std.specs.List.{list_any, position}
use Rattle.std.specs.Str.{bytes_eq}

-- the index of the name
abbrev pub index_in : List (List ℕ) → List ℕ → Option ℕ
index_in names name = position (λ n. bytes_eq name n) names

-- whether the name is among the names
abbrev pub is_in : List (List ℕ) → List ℕ → Bool
is_in names name = list_any (λ n. bytes_eq name n) names
