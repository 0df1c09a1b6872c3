-- meaning: what the text of a listing is read as, line by line.
use Rattle.std.specs.Prelude.{◌≡◌, ◌≢◌, ℕ, ◌+◌, ◌<◌, ◌≤◌, ◌^◌, List, [], ◌∷◌, ◌++◌, length}
use Rattle.std.specs.List.{All}
use Rattle.sl_asm_lines.specs.Lines.{IsLine, Line, bytes_of, line_text, text_from}

module _ (size : ℕ) where
  -- The text begins with these lines, from an address on, which lie in the space of addresses.
  pub record BeginsBy (text : List ℕ) (base : ℕ) (lines : List Line) (rest : List ℕ) : Type 0 where
    pub is : text ≡ text_from size base lines ++ rest
    pub are_lines : All IsLine lines
    pub fits : base + length (bytes_of lines) ≤ 256 ^ size

  -- These are all its lines.
  abbrev pub IsRead : List ℕ → ℕ → List Line → Type 0
  IsRead text base lines = BeginsBy text base lines []

  -- The text begins with a line, which has this address.
  pub record IsFront (text : List ℕ) (address : ℕ) (l : Line) (more : List ℕ) : Type 0 where
    pub is : text ≡ line_text size address l ++ more
    pub is_line : IsLine l
    pub in_space : address < 256 ^ size

  -- It begins with none.
  abbrev pub BeginsWithNone : List ℕ → Type 0
  BeginsWithNone text = (address : ℕ) (l : Line) (more : List ℕ) → IsLine l → text ≢ line_text size address l ++ more

  -- An address comes after lines: it is that after their bytes, or they are none.
  abbrev pub ComesAfter : ℕ → List Line → ℕ → Type 0
  ComesAfter base [] address = Unit {0}
  ComesAfter base (l ∷ ls) address = address ≡ base + length (bytes_of (l ∷ ls))

  -- A line can have the address after lines: it comes after them, and the line's bytes lie in the space.
  pub record CanFollow (base : ℕ) (lines : List Line) (address : ℕ) (l : Line) : Type 0 where
    pub after : ComesAfter base lines address
    pub fits : address + length l.bytes ≤ 256 ^ size

  -- A line, counted from 1, isn't of the form of a listing's lines, and all before it can be read.
  pub record IsBadLine (text : List ℕ) (number : ℕ) : Type 0 where
    pub base : ℕ
    pub lines : List Line
    pub rest : List ℕ
    pub before : BeginsBy text base lines rest
    pub is : number ≡ length lines + 1
    pub there : rest ≢ []
    pub bad : BeginsWithNone rest

  -- A line is of the form, and its address isn't one that can follow those before it.
  pub record IsBadAddress (text : List ℕ) (number : ℕ) : Type 0 where
    pub base : ℕ
    pub lines : List Line
    pub rest : List ℕ
    pub before : BeginsBy text base lines rest
    pub is : number ≡ length lines + 1
    pub address : ℕ
    pub line : Line
    pub more : List ℕ
    pub front : IsFront rest address line more
    pub bad : CanFollow base lines address line → ⊥
