-- meaning: the tokens of an item by their indexes, each with the part of the item in which it is.
use Rattle.std.specs.Prelude.{ℕ, ◌+◌, List, [], ◌∷◌, ◌++◌, codes, drop, if◌then◌else◌}
use Rattle.std.specs.Prelude.{Bool, true, false, ◌||◌}
use Rattle.std.specs.Str.{bytes_eq}
use Rattle.sl_explain_heads.specs.Words.{is_blank}
use Rattle.sl_explain_names.specs.declared.places.Form.{Form}
use Rattle.sl_explain_names.specs.declared.places.Form.TheVariants as form
use Rattle.sl_explain_names.specs.declared.places.Part.{Part}
use Rattle.sl_explain_names.specs.declared.places.Part.TheVariants as part
use Rattle.sl_explain_names.specs.declared.places.Place.{Place}
use Rattle.sl_explain_names.specs.TokenKinds.{is_caret}
use Rattle.sl_lex.specs.Reading.{Token}

-- ---- the part of the token after one

-- after the colon of a block its pattern, after that of a constructor its display
abbrev pub after_colon : Form → Part
after_colon form.Root = part.Leading
after_colon form.Table = part.Display
after_colon form.Block = part.Pattern

abbrev pub after_begin : Form → List ℕ → Part
after_begin form text =
    if bytes_eq text (codes ":") then after_colon form
    else if bytes_eq text (codes "macro") then part.Parameters
    else if bytes_eq text (codes "define") || bytes_eq text (codes "attach") then part.Definition
    else part.Begin

-- after the blanks with which a display may begin
abbrev pub after_leading : Token → Part
after_leading t =
    if bytes_eq t.text (codes "is") then part.Pattern
    else if is_blank t.kind then part.Leading
    else if is_caret t.kind then part.Display
    else part.Mnemonic

-- A mnemonic ends before a blank or `^`.
abbrev pub after_mnemonic : Token → Part
after_mnemonic t =
    if bytes_eq t.text (codes "is") then part.Pattern
    else if is_blank t.kind || is_caret t.kind then part.Display
    else part.Mnemonic

-- after the brace behind a pattern the section of a constructor; a block's head ends there
abbrev pub after_brace : Form → Part
after_brace form.Root = part.Section
after_brace form.Table = part.Section
after_brace form.Block = part.Done

abbrev pub after_pattern : Form → List ℕ → Part
after_pattern form text =
    if bytes_eq text (codes "[") then part.Actions
    else if bytes_eq text (codes "{") then after_brace form
    else if bytes_eq text (codes "unimpl") then part.Done
    else part.Pattern

-- after a part that goes on up to a word or a mark, another part
abbrev pub up_to : (last : List ℕ) → (before after : Part) → List ℕ → Part
up_to last before after text = if bytes_eq text last then after else before

abbrev pub next_part : Form → Part → Token → Part
next_part form part.Begin t = after_begin form t.text
next_part form part.Leading t = after_leading t
next_part form part.Mnemonic t = after_mnemonic t
next_part form part.Display t = up_to (codes "is") part.Display part.Pattern t.text
next_part form part.Pattern t = after_pattern form t.text
next_part form part.Actions t = up_to (codes "]") part.Actions part.Pattern t.text
next_part form part.Parameters t = up_to (codes "{") part.Parameters part.Section t.text
next_part form part.Section t = up_to (codes "}") part.Section part.Done t.text
next_part form part.Definition t = up_to (codes ";") part.Definition part.Done t.text
next_part form part.Done t = part.Done

-- ---- the tokens of an item

abbrev pub is_done : Part → Bool
is_done part.Done = true
is_done _ = false

abbrev pub place_at : (index : ℕ) → Part → Place
place_at index part = record { index = index; part = part }

-- the tokens from this index on, the first of which is in this part, up to the item's end
abbrev pub places_from : Form → Part → (index : ℕ) → List Token → List Place
places_from form part index [] = []
places_from form part index (t ∷ ts) =
    if is_done part then [] else place_at index part ∷ places_from form (next_part form part t) (index + 1) ts

-- those of the heads of these blocks, each told by the index of its first token
abbrev pub places_of_blocks : List Token → (blocks : List ℕ) → List Place
places_of_blocks ts [] = []
places_of_blocks ts (block ∷ blocks) =
    places_from form.Block part.Begin block (drop block ts) ++ places_of_blocks ts blocks

-- those of the item whose first token has this index, after those of the blocks round it
abbrev pub places_of : Form → List Token → (blocks : List ℕ) → (index : ℕ) → List Place
places_of form ts blocks index =
    places_of_blocks ts blocks ++ places_from form part.Begin index (drop index ts)
