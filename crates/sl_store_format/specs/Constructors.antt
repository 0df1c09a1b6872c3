-- meaning: constructors, blocks' heads and macros as bytes, the conditions on their leaves, and their readers.
use Rattle.std.specs.Prelude.{ℕ, List, [], ◌∷◌, ◌++◌, Option}
use Rattle.sl_ast.specs.Symbols.{Word, plain, quoted, word_of}
use Rattle.sl_ast.specs.Trees.{Name, Pattern, Action, Statement, Piece, piece_word, piece_text, piece_blank, piece_caret, piece_char, Section, statements, unimplemented, Constructor, Head, Macro}
use Rattle.sl_ast.specs.Validity.{IfWritten}
use Rattle.sl_store_format.specs.Definitions.{write_word, WordLeaves}
use Rattle.sl_store_format.specs.Forms.{shown_forms}
use Rattle.sl_store_format.specs.Keywords.{word_bytes}
use Rattle.sl_store_format.specs.Actions.{write_action, ActionLeaves, action}
use Rattle.sl_store_format.specs.PatternBytes.{write_pattern, PatternLeaves}
use Rattle.sl_store_format.specs.Patterns.{whole_pattern}
use Rattle.sl_store_format.specs.Statements.{write_statement, StatementLeaves, statement}
use Rattle.sl_store_format.specs.declared.forms.ShownForm.{ShownForm}
use Rattle.sl_store_format.specs.declared.forms.ShownForm.TheVariants as x
use Rattle.sl_store_bytes.specs.Lexemes.{write_bytes}
use Rattle.sl_store_bytes.specs.Lists.{write_list, write_option, write_separated, option, list_of, separated, either, AreEach, AreSeparated}
use Rattle.sl_store_bytes.specs.Reader.{Reader, ◌>>=◌, pure}
use Rattle.sl_store_bytes.specs.Tables.{coded}
use Rattle.sl_store_bytes.specs.Words as lexeme
use Rattle.sl_store_bytes.specs.Words.{name, IsName, IsShownName, IsText, IsBlank, IsCaret, IsChar}

-- ---- displays

abbrev pub write_piece : Piece → List ℕ
write_piece (piece_word w) = 0 ∷ write_word w
write_piece (piece_text t) = 1 ∷ write_bytes t
write_piece (piece_blank t) = 2 ∷ write_bytes t
write_piece (piece_caret t) = 3 ∷ write_bytes t
write_piece (piece_char t) = 4 ∷ write_bytes t

-- a word of a display, which may have three dots, with its own bytes
abbrev pub ShownWordLeaves : Word → Type 0
ShownWordLeaves (plain w) = IsShownName w
ShownWordLeaves (quoted keyword) = Unit {0}

abbrev pub PieceLeaves : Piece → Type 0
PieceLeaves (piece_word w) = ShownWordLeaves w
PieceLeaves (piece_text t) = IsText t
PieceLeaves (piece_blank t) = IsBlank t
PieceLeaves (piece_caret t) = IsCaret t
PieceLeaves (piece_char t) = IsChar t

abbrev pub piece_by : ShownForm → Reader Piece
piece_by x.Word = lexeme.shown_word >>= (λ w. pure (piece_word (word_of w)))
piece_by x.Text = lexeme.text >>= (λ t. pure (piece_text t))
piece_by x.Blank = lexeme.blank >>= (λ t. pure (piece_blank t))
piece_by x.Caret = lexeme.caret >>= (λ t. pure (piece_caret t))
piece_by x.Char = lexeme.char >>= (λ t. pure (piece_char t))

unfoldable pub piece : Reader Piece
piece = coded shown_forms >>= (λ form. piece_by form)

-- ---- constructors

abbrev pub write_section : Section → List ℕ
write_section (statements body) = 0 ∷ write_list write_statement body
write_section unimplemented = 1 ∷ []

abbrev pub SectionLeaves : Section → Type 0
SectionLeaves (statements body) = AreEach StatementLeaves body
SectionLeaves unimplemented = Unit {0}

unfoldable pub section : Reader Section
section = either (list_of statement >>= (λ body. pure (statements body))) (pure unimplemented)

abbrev pub write_actions : Option (List Action) → List ℕ
write_actions = write_option (write_list write_action)

abbrev pub ActionsLeaves : Option (List Action) → Type 0
ActionsLeaves = IfWritten (AreEach ActionLeaves)

abbrev pub actions : Reader (Option (List Action))
actions = option (list_of action)

abbrev pub write_constructor : Constructor → List ℕ
write_constructor c =
    write_option write_bytes c.table ++ (write_list write_piece c.display ++ (write_pattern c.pattern ++ (write_actions c.actions ++ write_section c.section)))

pub record ConstructorLeaves (c : Constructor) : Type 0 where
  pub table : IfWritten IsName c.table
  pub display : AreEach PieceLeaves c.display
  pub pattern : PatternLeaves c.pattern
  pub actions : ActionsLeaves c.actions
  pub section : SectionLeaves c.section

abbrev pub made_of : Option Name → List Piece → Pattern → Option (List Action) → Section → Constructor
made_of table display p acts s = record { table = table; display = display; pattern = p; actions = acts; section = s }

unfoldable pub constructor_here : Reader Constructor
constructor_here =
    option name >>= (λ table. list_of piece >>= (λ display. whole_pattern >>= (λ p. actions >>= (λ acts. section >>= (λ s. pure (made_of table display p acts s))))))

-- ---- heads of blocks

abbrev pub write_head : Head → List ℕ
write_head h = write_option write_bytes h.table ++ (write_option write_pattern h.pattern ++ write_actions h.actions)

pub record HeadLeaves (h : Head) : Type 0 where
  pub table : IfWritten IsName h.table
  pub pattern : IfWritten PatternLeaves h.pattern
  pub actions : ActionsLeaves h.actions

abbrev pub head_of : Option Name → Option Pattern → Option (List Action) → Head
head_of table p acts = record { table = table; pattern = p; actions = acts }

unfoldable pub head_here : Reader Head
head_here = option name >>= (λ table. option whole_pattern >>= (λ p. actions >>= (λ acts. pure (head_of table p acts))))

-- ---- macros

abbrev pub write_macro : Macro → List ℕ
write_macro m = write_bytes m.name ++ (write_separated write_bytes m.parameters ++ write_list write_statement m.body)

pub record MacroLeaves (m : Macro) : Type 0 where
  pub name : IsName m.name
  pub parameters : AreSeparated IsName m.parameters
  pub body : AreEach StatementLeaves m.body

abbrev pub macro_of : Name → List Name → List Statement → Macro
macro_of n ps body = record { name = n; parameters = ps; body = body }

unfoldable pub macro_here : Reader Macro
macro_here = name >>= (λ n. separated name >>= (λ ps. list_of statement >>= (λ body. pure (macro_of n ps body))))
