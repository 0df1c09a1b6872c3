-- meaning: the line that `check` writes.
use Rattle.std.specs.Prelude.{ℕ, List, ◌++◌, codes}
use Rattle.std.specs.Fmt.{decimal}

-- how many tables and constructors a sound specification has
abbrev pub count_line : ℕ → ℕ → List ℕ
count_line tables constructors =
    codes "ok: " ++ (decimal tables
    ++ (codes " tables, " ++ (decimal constructors ++ codes " constructors\n")))
