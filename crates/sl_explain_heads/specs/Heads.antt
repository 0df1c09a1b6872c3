-- meaning: how an item is told: a constructor by its table, its display and its pattern, a macro by its name.
use Rattle.std.specs.Prelude.{ℕ, ◌+◌, ◌||◌, List, [], ◌∷◌, ◌++◌, codes, drop, length}
use Rattle.std.specs.Prelude.{Bool, if◌then◌else◌}
use Rattle.std.specs.Str.{bytes_eq}
use Rattle.sl_explain_heads.specs.Words.{blocks_round, joined, text_at}
use Rattle.sl_explain_lines.specs.Excerpts.{shown_up_to}
use Rattle.sl_explain_lines.specs.FactLines.{fact_line}
use Rattle.sl_lex.specs.Reading.{Token}

-- ---- the parts of a constructor and of a block

-- A display ends before the word `is`.
abbrev pub ends_display : List ℕ → Bool
ends_display text = bytes_eq text (codes "is")

-- A pattern ends before actions, a section or a block.
abbrev pub ends_pattern : List ℕ → Bool
ends_pattern text = bytes_eq text (codes "[") || (bytes_eq text (codes "{") || bytes_eq text (codes "unimpl"))

abbrev pub display_part : List Token → List Token
display_part [] = []
display_part (t ∷ ts) = if ends_display t.text then [] else t ∷ display_part ts

abbrev pub pattern_part : List Token → List Token
pattern_part [] = []
pattern_part (t ∷ ts) = if ends_pattern t.text then [] else t ∷ pattern_part ts

-- the table that is named before the colon with which these tokens go on, or no name
abbrev pub table_at : List Token → List ℕ
table_at ts = if bytes_eq (text_at ts 0) (codes ":") then [] else text_at ts 0

-- the tokens behind that colon
abbrev pub behind_colon : List Token → List Token
behind_colon ts = if bytes_eq (text_at ts 0) (codes ":") then drop 1 ts else drop 2 ts

-- the display of the constructor with which these tokens begin
abbrev pub display_at : List Token → List Token
display_at ts = display_part (behind_colon ts)

-- its own pattern
abbrev pub own_pattern_at : List Token → List Token
own_pattern_at ts = pattern_part (drop (length (display_at ts) + 1) (behind_colon ts))

-- the tokens behind the word `with` of the block whose first token has this index
abbrev pub block_at : List Token → ℕ → List Token
block_at ts index = drop 1 (drop index ts)

abbrev pub block_pattern_at : List Token → ℕ → List Token
block_pattern_at ts index = pattern_part (behind_colon (block_at ts index))

-- ---- words

-- a name, or where it is empty another one
abbrev pub name_or : List ℕ → List ℕ → List ℕ
name_or [] other = other
name_or (c ∷ cs) other = c ∷ cs

-- the table of the innermost of these blocks that names one, or the outer one
abbrev pub table_in : List Token → (outer : List ℕ) → (blocks : List ℕ) → List ℕ
table_in ts outer [] = outer
table_in ts outer (block ∷ blocks) = table_in ts (name_or (table_at (block_at ts block)) outer) blocks

-- the table of a constructor: its own, or that of a block round it, or no name
abbrev pub table_of : List Token → (index : ℕ) → List ℕ
table_of ts index = name_or (table_at (drop index ts)) (table_in ts [] (blocks_round ts index))

-- `instruction` goes without a name.
abbrev pub table_words : List ℕ → List ℕ
table_words table =
    if bytes_eq table [] || bytes_eq table (codes "instruction") then codes ":" else shown_up_to 40 table ++ codes ": "

-- a block's pattern and what is inside it, or this alone where the block has none
abbrev pub both : List ℕ → List ℕ → List ℕ
both [] inside = inside
both (c ∷ cs) inside = codes "(" ++ ((c ∷ cs) ++ (codes ") & (" ++ (inside ++ codes ")")))

-- the pattern of a constructor as it is judged, those of the blocks round it before its own
abbrev pub pattern_words : List Token → (blocks : List ℕ) → (index : ℕ) → List ℕ
pattern_words ts [] index = joined (own_pattern_at (drop index ts))
pattern_words ts (block ∷ blocks) index =
    both (joined (block_pattern_at ts block)) (pattern_words ts blocks index)

-- ---- lines

-- what begins with these bytes
pub data Kind : Type 0 where
  constructor : Kind
  macro : Kind
  other : Kind

abbrev pub kind_of : List ℕ → Kind
kind_of text =
    if bytes_eq text (codes "macro") then macro
    else if bytes_eq text (codes "define") || (bytes_eq text (codes "attach")
    || (bytes_eq text (codes "with") || bytes_eq text [])) then other
    else constructor

abbrev pub constructor_words : List Token → (index : ℕ) → List ℕ
constructor_words ts index =
    table_words (table_of ts index) ++ shown_up_to 80 (joined (display_at (drop index ts)))

abbrev pub macro_words : List Token → (index : ℕ) → List ℕ
macro_words ts index = codes "macro " ++ shown_up_to 40 (text_at (drop index ts) 1)

abbrev pub head_by : Kind → List Token → (index : ℕ) → List ℕ
head_by constructor ts index = fact_line (codes "  in    ") (constructor_words ts index)
head_by macro ts index = fact_line (codes "  in    ") (macro_words ts index)
head_by other ts index = []

abbrev pub pattern_by : Kind → List Token → (index : ℕ) → List ℕ
pattern_by constructor ts index =
    fact_line (codes "  is    ") (shown_up_to 90 (pattern_words ts (blocks_round ts index) index))
pattern_by macro ts index = []
pattern_by other ts index = []

-- In which constructor or macro: the item whose first token has this index.
abbrev pub head_line : List Token → (index : ℕ) → List ℕ
head_line ts index = head_by (kind_of (text_at (drop index ts) 0)) ts index

-- with which pattern
abbrev pub pattern_line : List Token → (index : ℕ) → List ℕ
pattern_line ts index = pattern_by (kind_of (text_at (drop index ts) 0)) ts index
