-- law: the words, texts and tokens of displays that a file may have are those of the lexer.
use Rattle.std.specs.Prelude.{◌≤◌, List, [], ℕ, length, Some}
use Rattle.sl_lex.specs.Lexemes.{IsLexeme}
use Rattle.sl_lex.specs.declared.TokKind.{TokKind}
use Rattle.sl_lex.specs.declared.TokKind.TheVariants as kind
use Rattle.sl_lex.specs.declared.mode.Mode.{Mode}
use Rattle.sl_lex.specs.declared.mode.Mode.TheVariants as mode
use Rattle.sl_store_bytes.specs.Numbers.{greatest}
use Rattle.sl_store_bytes.specs.Words.{IsWord, IsDottedWord, IsText, IsBlank, IsCaret, IsChar}

-- a lexeme of the kind with nothing after it, whose bytes a file can count
abbrev pub IsAlone : Mode → TokKind → List ℕ → Type 0
IsAlone mode kind w = IsLexeme mode (Some kind) w [] × (length w ≤ greatest)

-- both say the same of all bytes
abbrev pub AreSame : (P Q : List ℕ → Type 0) → Type 0
AreSame P Q = (w : List ℕ) → (P w → Q w) × (Q w → P w)

pub record KindsAreLexemes : Type 0 where
  pub words : AreSame IsWord (IsAlone mode.Top kind.Word)
  pub texts : AreSame IsText (IsAlone mode.Top kind.Text)
  pub display_words : AreSame IsDottedWord (IsAlone mode.Display kind.Word)
  pub display_texts : AreSame IsText (IsAlone mode.Display kind.Text)
  pub blanks : AreSame IsBlank (IsAlone mode.Display kind.Blank)
  pub carets : AreSame IsCaret (IsAlone mode.Display kind.Caret)
  pub chars : AreSame IsChar (IsAlone mode.Display kind.Char)
