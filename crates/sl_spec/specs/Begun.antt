-- meaning: the tables that have constructors so far.
use Rattle.std.specs.Prelude.{ℕ, zero, suc, List, [], ◌∷◌, ◌++◌, if◌then◌else◌}
use Rattle.std.specs.Str.{bytes_eq}
use Rattle.sl_spec.specs.Tables.{Name, Table}

-- a table with one more constructor, by its number among all constructors
abbrev pub with_number : Table → ℕ → Table
with_number b n = record { name = b.name; constructors = b.constructors ++ n ∷ [] }

-- the tables with one more constructor in the table of this name, which stands last if it is new
abbrev pub with_constructor : List Table → Name → ℕ → List Table
with_constructor [] name n = record { name = name; constructors = n ∷ [] } ∷ []
with_constructor (b ∷ bs) name n =
    if bytes_eq name b.name then with_number b n ∷ bs else b ∷ with_constructor bs name n

-- the tables with one more constructor in the table at an index
abbrev pub with_number_at : List Table → ℕ → ℕ → List Table
with_number_at [] index n = []
with_number_at (b ∷ bs) zero n = with_number b n ∷ bs
with_number_at (b ∷ bs) (suc index) n = b ∷ with_number_at bs index n
