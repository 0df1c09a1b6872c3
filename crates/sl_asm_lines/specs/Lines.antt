-- meaning: the lines of a listing, and the text that they make.
use Rattle.std.specs.Prelude.{◌≢◌, ℕ, ◌+◌, ◌<◌, ◌≤◌, List, [], ◌∷◌, ◌++◌, length}
use Rattle.std.specs.List.{All}
use Rattle.sl_asm_encodings.specs.Encodings.{most_encoded}
use Rattle.sl_list_instructions.specs.Lines.{listed_line}

-- what a line tells: the bytes that it shows, and what they are
pub record Line : Type 0 where
  pub bytes : List ℕ
  pub text : List ℕ

-- It shows a byte at least, and no more than an instruction has; its text has no line feed.
pub record IsLine (l : Line) : Type 0 where
  pub some : 1 ≤ length l.bytes
  pub most : length l.bytes ≤ most_encoded
  pub are_bytes : All (λ b. b < 256) l.bytes
  pub one_line : All (λ c. c ≢ 10) l.text

-- the bytes of lines, one after another
abbrev pub bytes_of : List Line → List ℕ
bytes_of [] = []
bytes_of (l ∷ ls) = l.bytes ++ bytes_of ls

-- the text of a line at an address of so many bytes
abbrev pub line_text : ℕ → ℕ → Line → List ℕ
line_text size address l = listed_line size address l.bytes l.text

-- the text of lines from an address on, where the bytes of each one follow those of the one before
abbrev pub text_from : ℕ → ℕ → List Line → List ℕ
text_from size address [] = []
text_from size address (l ∷ ls) = line_text size address l ++ text_from size (address + length l.bytes) ls

-- how many bytes a line shows, and what they are
pub record Shape : Type 0 where
  pub count : ℕ
  pub text : List ℕ

abbrev pub shape_of : Line → Shape
shape_of l = record { count = length l.bytes; text = l.text }
