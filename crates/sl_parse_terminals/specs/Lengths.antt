-- step: rows of one length.
use Rattle.std.specs.Prelude.{ℕ, List, filter, length, ◌==◌}

-- the rows of a table that have `count` bytes, in their order
abbrev pub of_length : {A : Type 0} → ℕ → List (List ℕ × A) → List (List ℕ × A)
of_length count rows = filter (λ row. length row.0 == count) rows
