-- meaning: the lines of a text.
use Rattle.std.specs.Prelude.{ℕ, ◌==◌, List, [], ◌∷◌, if◌then◌else◌}

-- the byte in front of the first line
abbrev pub on_first_line : ℕ → List (List ℕ) → List (List ℕ)
on_first_line b [] = (b ∷ []) ∷ []
on_first_line b (line ∷ lines) = (b ∷ line) ∷ lines

-- A text's lines, each without its line feed: what follows the last line feed is a line only where it isn't empty.
abbrev pub lines : List ℕ → List (List ℕ)
lines [] = []
lines (b ∷ s) = if b == 10 then [] ∷ lines s else on_first_line b (lines s)
