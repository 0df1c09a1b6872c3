-- step: rows of numbers and sentences.
use Rattle.std.specs.Prelude.{ℕ, List, map}
use denote.Ref.{Bor}

abbrev pub rows_of : List (ℕ × Bor (List ℕ)) → List (ℕ × List ℕ)
rows_of rows = map (λ row. (row.0, row.1.now)) rows
