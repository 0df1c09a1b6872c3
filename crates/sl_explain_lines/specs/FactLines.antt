-- meaning: the lines that say more of a refusal, each with its label.
use Rattle.std.specs.Prelude.{ℕ, ◌+◌, ◌==◌, ◌||◌, List, ◌++◌, codes, length, map, min, nat_lt, if◌then◌else◌}
use Rattle.std.specs.Fmt.{decimal}
use Rattle.sl_explain_lines.specs.Excerpts.{after, before, carets, excerpt, line_of}

-- A line of facts: its label takes eight columns.
abbrev pub fact_line : (label words : List ℕ) → List ℕ
fact_line label words = label ++ (words ++ codes "\n")

-- The name of a file, whose control bytes are `?`.
abbrev pub shown_in_name : ℕ → ℕ
shown_in_name b = if nat_lt b 32 || (b == 127) then 63 else b

-- a line of a file, counted from 1
abbrev pub line_words : (file : List ℕ) → (line : ℕ) → List ℕ
line_words file line = map shown_in_name file ++ (codes ":" ++ decimal line)

-- a column of it, counted from 1
abbrev pub column_words : (file : List ℕ) → (line column : ℕ) → List ℕ
column_words file line column = line_words file line ++ (codes ":" ++ decimal column)

-- Of a token of so many bytes in a line: its place, the line, and carets under the token as far as the line goes. So many bytes
-- of the line stand before the token, and so many from its first byte on.
unfoldable pub spot_in : (file : List ℕ) → (number : ℕ) → (line : List ℕ) → (before after width : ℕ) → List ℕ
spot_in file number line before after width =
    fact_line (codes "  at    ") (column_words file number (before + 1))
    ++ (fact_line (codes "  text  ") (excerpt line before)
    ++ fact_line (codes "        ") (carets (length line) before (min width after)))

-- the same of a token that begins at this byte of a text, whose line is this one of a file
abbrev pub spot_lines : (file : List ℕ) → (number : ℕ) → (text : List ℕ) → (byte width : ℕ) → List ℕ
spot_lines file number text byte width =
    spot_in file number (line_of text byte) (before text byte) (after text byte) width
