-- meaning: the reading of a text as pieces, up to its end or its first bad place.
use Rattle.std.specs.Prelude.{◌≡◌, ℕ, ◌+◌, ◌<◌, ◌^◌, List, [], ◌∷◌, ◌++◌, length, Option, Some, None}
use Rattle.sl_lex.specs.Faults.{Fault, IsFault}
use Rattle.sl_lex.specs.Lexemes.{IsLongest}
use Rattle.sl_lex.specs.Modes.{next_mode}
use Rattle.sl_lex.specs.declared.mode.Mode.{Mode}
use Rattle.sl_lex.specs.declared.mode.Mode.TheVariants.{Top}
use Rattle.sl_lex.specs.declared.TokKind.{TokKind}
use Rattle.sl_lex.specs.declared.TokKind.TheVariants.{Word, Integer, Text, Mark, Blank, Caret, Char}

-- A token: its kind, its bytes, and the place in the text where they begin.
pub record Token : Type 0 where
  pub kind : TokKind
  pub text : List ℕ
  pub from : ℕ

-- A piece of a text: a lexeme with its kind, or blanks or a comment, which have none.
pub record Piece : Type 0 where
  pub kind : Option TokKind
  pub text : List ℕ
  pub from : ℕ

-- A piece of this kind before some tokens is a token more, unless it has no kind.
abbrev pub kept : Option TokKind → Piece → List Token → List Token
kept None p ts = ts
kept (Some kind) p ts = record { kind = kind; text = p.text; from = p.from } ∷ ts

-- the tokens among the pieces
abbrev pub tokens_of : List Piece → List Token
tokens_of [] = []
tokens_of (p ∷ ps) = kept p.kind p (tokens_of ps)

-- the mode in which a text goes on after a piece of this kind with these bytes
abbrev pub mode_after : Mode → Option TokKind → List ℕ → Mode
mode_after mode None text = mode
mode_after mode (Some kind) text = next_mode mode text

-- An integer has at most 64 bits.
abbrev pub Fits : Option TokKind → Type 0
Fits (Some (Integer value)) = value < 2 ^ 64
Fits (Some Word) = Unit {0}
Fits (Some Text) = Unit {0}
Fits (Some Mark) = Unit {0}
Fits (Some Blank) = Unit {0}
Fits (Some Caret) = Unit {0}
Fits (Some Char) = Unit {0}
Fits None = Unit {0}

-- The piece stands at the front, which is at this place of the whole text, and the rest follows it.
pub record IsPieceAt (mode : Mode) (from : ℕ) (text : List ℕ) (p : Piece) (rest : List ℕ) : Type 0 where
  pub split : text ≡ p.text ++ rest
  pub longest : IsLongest mode p.kind p.text rest
  pub fits : Fits p.kind
  pub place : p.from ≡ from

-- The text, from this place on and in this mode, is these pieces one behind the other, up to its end, or up to
-- the first bad place.
abbrev pub Reads : Mode → ℕ → List ℕ → List Piece → Option (Fault × ℕ) → Type 0
Reads mode from text [] None = text ≡ []
Reads mode from text [] (Some bad) = (ahead : ℕ) × IsFault mode bad.0 ahead text × (bad.1 ≡ from + ahead)
Reads mode from text (p ∷ ps) end = (rest : List ℕ) × IsPieceAt mode from text p rest × Reads (mode_after mode p.kind p.text) (from + length p.text) rest ps end

-- The whole text reads as these tokens with blanks and comments among them, up to this end.
abbrev pub ReadsTo : List ℕ → List Token → Option (Fault × ℕ) → Type 0
ReadsTo text tokens end = (pieces : List Piece) × Reads Top 0 text pieces end × (tokens_of pieces ≡ tokens)

-- The whole text reads as these tokens, to its end.
abbrev pub ReadsAs : List ℕ → List Token → Type 0
ReadsAs text tokens = ReadsTo text tokens None

-- The text reads as some tokens up to its first bad place, which is this one, and bad for this reason.
abbrev pub HasBadPlace : List ℕ → Fault → ℕ → Type 0
HasBadPlace text fault place = (tokens : List Token) × ReadsTo text tokens (Some (fault, place))
