-- meaning: what a display shows (SLEIGH manual, "The Display Section").
use Rattle.std.specs.Prelude.{◌||◌, Bool, true, false, not, List, [], ◌∷◌, if◌then◌else◌}
use Rattle.sl_ast.specs.Trees.{Piece, piece_blank, piece_caret}

abbrev pub is_blank : Piece → Bool
is_blank (piece_blank t) = true
is_blank _ = false

abbrev pub is_caret : Piece → Bool
is_caret (piece_caret t) = true
is_caret _ = false

-- whether a piece goes on a mnemonic
abbrev pub is_literal : Piece → Bool
is_literal p = not (is_blank p || is_caret p)

-- the pieces from the first on that fails a test
abbrev pub behind : (Piece → Bool) → List Piece → List Piece
behind test [] = []
behind test (p ∷ ps) = if test p then behind test ps else p ∷ ps

-- the pieces that are shown behind the mnemonic, which goes up to the first blank or `^`; only
-- constructors of `instruction` have one
abbrev pub shown : Bool → List Piece → List Piece
shown has_mnemonic ps = if has_mnemonic then behind is_literal (behind is_blank ps) else ps
