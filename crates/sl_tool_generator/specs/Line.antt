-- meaning: the line that `gen` prints.
use Rattle.hex.specs.Hex.{encode_lower}
use Rattle.std.specs.Prelude.{ℕ, List, [], ◌∷◌, ◌++◌, codes}
use Rattle.std.specs.Fmt.{decimal}
use Rattle.sl_tool_generator.specs.declared.line.Figures.{Figures}

-- a number in decimal behind a text
abbrev pub count_text : List ℕ → ℕ → List ℕ
count_text before n = before ++ decimal n

-- a byte in hexadecimal behind a text, two digits
abbrev pub byte_text : List ℕ → ℕ → List ℕ
byte_text before byte = before ++ encode_lower (byte ∷ [])

abbrev pub registers_text : Figures → List ℕ
registers_text f = byte_text (codes "r0=") f.r0 ++ (byte_text (codes " r1=") f.r1
    ++ (byte_text (codes " r2=") f.r2 ++ byte_text (codes " r3=") f.r3))

abbrev pub figures_line : Figures → List ℕ
figures_line f = count_text (codes "gen ") f.instructions
    ++ (count_text (codes ": 64 constructors, ") f.listed
    ++ (count_text (codes " listed, ") f.steps
    ++ (codes " steps, " ++ (registers_text f ++ codes "\n"))))
