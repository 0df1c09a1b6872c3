-- law: whatever bytes a text has, what is said of a place in it is whole lines that a terminal shows as they are.
use Rattle.std.specs.Prelude.{◌≡◌, ℕ, ◌==◌, ◌||◌, Bool, true, List, [], ◌∷◌, ◌++◌, nat_lt, not}
use Rattle.std.specs.List.{list_all}
use Rattle.sl_explain_lines.specs.Excerpts.{shown_up_to}
use Rattle.sl_explain_lines.specs.FactLines.{fact_line, spot_lines}

-- no control byte
abbrev pub is_shown : ℕ → Bool
is_shown b = not (nat_lt b 32 || (b == 127))

-- Lines, each without a control byte, and with its end.
pub data AreLines : List ℕ → Type 0 where
  no_line : AreLines []
  line_then : (line rest : List ℕ) → list_all is_shown line ≡ true → AreLines rest → AreLines (line ++ 10 ∷ rest)

-- What is shown of any bytes has no control byte, and with a label it is a line.
abbrev pub WordsAreShown : Type 0
WordsAreShown = (most : ℕ) (bytes : List ℕ) → list_all is_shown (shown_up_to most bytes) ≡ true

-- The lines of any place in any text are lines.
abbrev pub SpotsAreLines : Type 0
SpotsAreLines = (file : List ℕ) (number : ℕ) (text : List ℕ) (byte width : ℕ) → AreLines (spot_lines file number text byte width)
