-- meaning: tokens as words, and the modes and blocks in which they stand.
use Rattle.std.specs.Prelude.{ℕ, ◌+◌, ◌-◌, ◌||◌, List, [], ◌∷◌, ◌++◌, codes, length, nat_lt, take}
use Rattle.std.specs.Prelude.{Bool, true, false, Option, Some, None, slice_get, if◌then◌else◌}
use Rattle.std.specs.Str.{bytes_eq}
use Rattle.sl_explain_lines.specs.Excerpts.{shown_up_to}
use Rattle.sl_lex.specs.Modes.{next_mode}
use Rattle.sl_lex.specs.Reading.{Token}
use Rattle.sl_lex.specs.declared.TokKind.{TokKind}
use Rattle.sl_lex.specs.declared.TokKind.TheVariants.{Word, Integer, Text, Mark, Blank, Caret, Char}
use Rattle.sl_lex.specs.declared.mode.Mode.{Mode}
use Rattle.sl_lex.specs.declared.mode.Mode.TheVariants as mode

-- ---- words

-- a token by itself, of at most 40 bytes
abbrev pub token_words : Token → List ℕ
token_words t = shown_up_to 40 t.text

abbrev pub is_blank : TokKind → Bool
is_blank Blank = true
is_blank Word = false
is_blank (Integer value) = false
is_blank Text = false
is_blank Mark = false
is_blank Caret = false
is_blank Char = false

-- one blank where something stands between a token and the one before it
abbrev pub gap : Option Token → Token → List ℕ
gap None t = []
gap (Some last) t = if nat_lt (length last.text) (t.from - last.from) then codes " " else []

-- The tokens as they stand, with one blank wherever something stands between two, and none at the ends.
abbrev pub joined_after : Option Token → List Token → List ℕ
joined_after last [] = []
joined_after last (t ∷ ts) =
    if is_blank t.kind then joined_after last ts else gap last t ++ (t.text ++ joined_after (Some t) ts)

abbrev pub joined : List Token → List ℕ
joined ts = joined_after None ts

-- ---- modes and blocks

-- the mode behind these tokens
abbrev pub mode_after : Mode → List Token → Mode
mode_after m [] = m
mode_after m (t ∷ ts) = mode_after (next_mode m t.text) ts

-- the mode in which the token of this index stands
abbrev pub mode_at : List Token → ℕ → Mode
mode_at ts index = mode_after mode.Top (take index ts)

-- The blocks round what is behind a token between items, where these are round it: `with` opens one, `}` closes the
-- innermost one. A block is told by the index of its first token, the outermost one first.
abbrev pub blocks_by : List ℕ → (index : ℕ) → (text : List ℕ) → List ℕ
blocks_by around index text =
    if bytes_eq text (codes "with") then around ++ (index ∷ [])
    else if bytes_eq text (codes "}") then take (length around - 1) around
    else around

abbrev pub blocks_in : Mode → List ℕ → (index : ℕ) → (text : List ℕ) → List ℕ
blocks_in mode.Top around index text = blocks_by around index text
blocks_in mode.Head around index text = around
blocks_in mode.Plain around index text = around
blocks_in mode.Body around index text = around
blocks_in mode.Display around index text = around
blocks_in mode.Pattern around index text = around

abbrev pub blocks_after : Mode → List ℕ → (index : ℕ) → List Token → List ℕ
blocks_after m around index [] = around
blocks_after m around index (t ∷ ts) = blocks_after (next_mode m t.text) (blocks_in m around index t.text) (index + 1) ts

-- the blocks round the token of this index
abbrev pub blocks_round : List Token → ℕ → List ℕ
blocks_round ts index = blocks_after mode.Top [] 0 (take index ts)

-- the bytes of the token of this index, or of none
abbrev pub bytes_of : Option Token → List ℕ
bytes_of None = []
bytes_of (Some t) = t.text

abbrev pub text_at : List Token → ℕ → List ℕ
text_at ts index = bytes_of (slice_get ts index)

-- the bytes of the token that stands so many before the one of this index
abbrev pub text_before : List Token → (index back : ℕ) → List ℕ
text_before ts index back = if nat_lt index back then [] else text_at ts (index - back)

-- ---- items

-- the last token of an item, or of the head of a block
abbrev pub ends_item : (text : List ℕ) → Bool
ends_item text =
    bytes_eq text (codes ";") || (bytes_eq text (codes "}") || (bytes_eq text (codes "{") || bytes_eq text (codes "unimpl")))

-- an item, a block or the end of one begins at the token of this index, which is in this mode
abbrev pub begins_item : Mode → List Token → (index : ℕ) → Bool
begins_item mode.Top ts index = ends_item (text_before ts index 1)
begins_item mode.Head ts index = false
begins_item mode.Plain ts index = false
begins_item mode.Body ts index = false
begins_item mode.Display ts index = false
begins_item mode.Pattern ts index = false
