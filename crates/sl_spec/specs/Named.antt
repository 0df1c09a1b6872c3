-- meaning: lists of things that have names.
use Rattle.std.specs.Prelude.{ℕ, Bool, List, Option, find, position}
use Rattle.std.specs.List.{list_any}
use Rattle.std.specs.Str.{bytes_eq}

-- whether a thing has this name, by the function that tells a thing's name
abbrev pub is_named : {X : Type 0} → (X → List ℕ) → List ℕ → X → Bool
is_named name_of name x = bytes_eq name (name_of x)

-- what has this name
abbrev pub named : {X : Type 0} → (X → List ℕ) → List ℕ → List X → Option X
named name_of name xs = find (is_named name_of name) xs

-- whether something has this name
abbrev pub has_name : {X : Type 0} → (X → List ℕ) → List ℕ → List X → Bool
has_name name_of name xs = list_any (is_named name_of name) xs

-- the index of what has this name
abbrev pub index_named : {X : Type 0} → (X → List ℕ) → List ℕ → List X → Option ℕ
index_named name_of name xs = position (is_named name_of name) xs
