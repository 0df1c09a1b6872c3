-- law: how far into the bytes the decode of an instruction looks.
use Rattle.std.specs.Prelude.{ℕ, ◌+◌, max, List, [], ◌∷◌}
use Rattle.sl_decode_meaning.specs.Trees.{Node, Trees, none, tree}
use Rattle.sl_decode_meaning.specs.declared.entries.Entry.{Entry}

-- how many of the first bytes a node looks at: 16 from its place on, by which its constructor is
-- chosen, and those of its length, in which the fields of its pattern lie
abbrev pub reach : ℕ → ℕ → ℕ
reach at length = at + max 16 length

-- the greatest number that a node of trees has
abbrev pub farthest : {N : Type 0} → (N → ℕ) → Trees N → ℕ
farthest number none = 0
farthest number (tree n below behind) =
    max (number n) (max (farthest number below) (farthest number behind))

-- how many of the first bytes the decode to these trees looks at
abbrev pub sight : Trees Node → ℕ
sight trees = farthest (λ n. reach n.at n.length) trees

-- the same of nodes in a row
abbrev pub sight_in : List Entry → ℕ
sight_in [] = 0
sight_in (e ∷ es) = max (reach e.at e.length) (sight_in es)
