-- meaning: lists of names.
use Rattle.std.specs.Prelude.{ℕ, Bool, true, not, ◌&&◌, List, [], ◌∷◌, ◌++◌}
use Rattle.std.specs.List.{list_any}
use Rattle.std.specs.Str.{bytes_eq}

-- a name is its bytes
abbrev pub Name : Type 0
Name = List ℕ

abbrev pub is_among : List Name → Name → Bool
is_among names name = list_any (λ n. bytes_eq name n) names

-- whether each name differs from these and from those before it
abbrev pub differ_behind : List Name → List Name → Bool
differ_behind before [] = true
differ_behind before (name ∷ names) =
    not (is_among before name) && differ_behind (before ++ name ∷ []) names

-- whether no two names are the same
abbrev pub are_distinct : List Name → Bool
are_distinct names = differ_behind [] names
