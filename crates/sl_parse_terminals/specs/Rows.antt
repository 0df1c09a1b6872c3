-- view: tables of marks and words.
use Rattle.std.specs.Prelude.{ℕ, List, map}
use denote.Ref.{Bor}

-- the rows of a table, with their bytes as lists
abbrev pub rows_of : {K : Type 0} → List (Bor (List ℕ) × K) → List (List ℕ × K)
rows_of rows = map (λ row. (row.0.now, row.1)) rows
