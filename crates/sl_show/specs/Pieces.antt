-- meaning: how the pieces of a display are shown, by what words stand for (SLEIGH manual, "The
-- Display Section").
use Rattle.std.specs.Prelude.{ℕ, ◌&&◌, Bool, true, false, List, [], ◌∷◌, ◌++◌, codes, if◌then◌else◌}
use Rattle.std.specs.List.{flat_map}
use Rattle.sl_ast.specs.Trees.{Name, Piece, piece_word, piece_text, piece_blank, piece_caret}
use Rattle.sl_ast.specs.Trees.{piece_char}
use Rattle.sl_spec_constructors.specs.Displays.{behind, is_blank, is_literal}
use Rattle.sl_spec_definitions.specs.Words.{unquoted, word_bytes}

-- the pieces up to the first that fails a test
abbrev pub front : (Piece → Bool) → List Piece → List Piece
front test [] = []
front test (p ∷ ps) = if test p then p ∷ front test ps else []

-- a piece that isn't taken for an operand: a quoted text stands without its quotes, blanks are one
-- space, and `^` is nothing
abbrev pub literal_text : Piece → List ℕ
literal_text (piece_word w) = word_bytes w
literal_text (piece_text text) = unquoted text
literal_text (piece_blank text) = codes " "
literal_text (piece_caret text) = []
literal_text (piece_char text) = text

-- a piece of which words stand for something
abbrev pub piece_text_by : (Name → List ℕ) → Piece → List ℕ
piece_text_by words (piece_word w) = words (word_bytes w)
piece_text_by words (piece_text text) = literal_text (piece_text text)
piece_text_by words (piece_blank text) = literal_text (piece_blank text)
piece_text_by words (piece_caret text) = literal_text (piece_caret text)
piece_text_by words (piece_char text) = literal_text (piece_char text)

-- whether a blank before these pieces is shown with them: another one, or the end
abbrev pub ends_blanks : List Piece → Bool
ends_blanks [] = true
ends_blanks (p ∷ ps) = is_blank p

-- whether the first of some pieces is such a blank
abbrev pub is_passed : List Piece → Bool
is_passed [] = false
is_passed (p ∷ ps) = is_blank p && ends_blanks ps

-- pieces one behind the other; of several blanks the last one is shown, and none at the end
abbrev pub pieces_text : (Name → List ℕ) → List Piece → List ℕ
pieces_text words [] = []
pieces_text words (p ∷ ps) = if is_passed (p ∷ ps) then pieces_text words ps
    else piece_text_by words p ++ pieces_text words ps

-- the mnemonic goes up to the first blank or `^`, and its words stand for themselves
abbrev pub with_mnemonic : (Name → List ℕ) → List Piece → List ℕ
with_mnemonic words ps =
    flat_map literal_text (front is_literal ps) ++ pieces_text words (behind is_literal ps)

-- a display, with a mnemonic or without; blanks at its front are dropped
unfoldable pub display_text : Bool → (Name → List ℕ) → List Piece → List ℕ
display_text has_mnemonic words ps = if has_mnemonic then with_mnemonic words (behind is_blank ps)
    else pieces_text words (behind is_blank ps)
