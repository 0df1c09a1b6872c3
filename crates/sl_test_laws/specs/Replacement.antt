-- law: laws of the replacement of `$(NAME)`.
use Rattle.std.specs.Prelude.{◌≡◌, ℕ, ◌+◌, ◌⊎◌, List, [], ◌∷◌, ◌++◌, Err}
use Rattle.sl_preproc_directives.specs.Definitions.{Values}
use Rattle.sl_preproc_directives.specs.Replacement.{Page, Piece, Byte, Name, all_pieces, put_all, write_text}
use Rattle.sl_preproc_directives.specs.declared.fault.Cause.TheVariants.{ReplaceDepth}

-- the bytes of a piece: `$(` is 36, 40, and `)` is 41
abbrev pub piece_bytes : Piece → List ℕ
piece_bytes (Byte b) = b ∷ []
piece_bytes (Name name) = 36 ∷ 40 ∷ (name ++ 41 ∷ [])

abbrev pub joined : List Piece → List ℕ
joined [] = []
joined (piece ∷ others) = piece_bytes piece ++ joined others

-- The pieces of a text, each with its bytes, are the text.
abbrev pub PiecesAreTheText : Type 0
PiecesAreTheText = (text : List ℕ) → joined (all_pieces text) ≡ text

-- `$(` stands nowhere in it
abbrev pub HasNoName : List ℕ → Type 0
HasNoName text = (before after : List ℕ) → text ≡ before ++ 36 ∷ 40 ∷ after → ⊥

-- A text without `$(` is written as it is, whatever is defined.
abbrev pub TextsWithoutNamesStay : Type 0
TextsWithoutNamesStay = (left : ℕ) (defs : Values) (text : List ℕ) (page : Page)
    → HasNoName text → write_text left defs text page ≡ put_all text page

-- With more levels left a text is replaced by the same, or was refused for want of them.
abbrev pub LevelsOnlyRefuse : Type 0
LevelsOnlyRefuse = (left more : ℕ) (defs : Values) (text : List ℕ) (page : Page)
    → (write_text left defs text page ≡ Err ReplaceDepth)
    ⊎ (write_text (more + left) defs text page ≡ write_text left defs text page)
