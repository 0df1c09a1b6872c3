-- Each token of a text has the bytes of its kind.
use Rattle.std.proofs.Common.{◌≡◌, ℕ, ◌+◌, List, [], ◌∷◌, ◌++◌, length, All, Option, None, Some, subst}
use Rattle.std.proofs.lemmas.List.Elements.{All-nil, All-cons, Contains-append_left}
use Rattle.std.specs.Prelude.{Contains}
use Rattle.sl_lex.specs.Faults.{Fault}
use Rattle.sl_lex.specs.Laws.{IsSomeLexeme}
use Rattle.sl_lex.specs.Lexemes.{IsLexeme, IsLongest, IsWord}
use Rattle.sl_lex.specs.Marks.{common_marks, section_marks}
use Rattle.sl_lex.specs.Reading.{Token, Piece, Reads, ReadsTo, Fits, mode_after, kept, tokens_of}
use Rattle.sl_lex.specs.declared.TokKind.{TokKind}
use Rattle.sl_lex.specs.declared.TokKind.TheVariants.{Word, Mark}
use Rattle.sl_lex.specs.declared.mode.Mode.{Mode}
use Rattle.sl_lex.specs.declared.mode.Mode.TheVariants.{Top, Head, Plain, Body, Display, Pattern}

lexemes_kept : (mode : Mode) (kind : Option TokKind) (p : Piece) (rest : List ℕ) (ts : List Token) → IsLongest mode kind p.text rest → Fits kind → All IsSomeLexeme ts
    → All IsSomeLexeme (kept kind p ts)
lexemes_kept mode None p rest ts longest fits more = more
lexemes_kept mode (Some kind) p rest ts longest fits more =
    All-cons IsSomeLexeme (record { kind = kind; text = p.text; from = p.from }) ts (mode, rest, longest, fits) more

lexemes_from : (mode : Mode) (from : ℕ) (text : List ℕ) (ps : List Piece) (end : Option (Fault × ℕ)) → Reads mode from text ps end → All IsSomeLexeme (tokens_of ps)
lexemes_from mode from text [] end reads = All-nil IsSomeLexeme
lexemes_from mode from text (p ∷ ps) end (rest, here, later) =
    lexemes_kept mode p.kind p rest (tokens_of ps) here.longest here.fits (lexemes_from (mode_after mode p.kind p.text) (from + length p.text) rest ps end later)

pub lexemes : (text : List ℕ) (ts : List Token) (end : Option (Fault × ℕ)) → ReadsTo text ts end → All IsSomeLexeme ts
lexemes text ts end (ps, reads, e) = subst (λ (us : List Token). All IsSomeLexeme us) e (lexemes_from Top 0 text ps end reads)

word_of_mode : (mode : Mode) (bytes rest : List ℕ) → IsLexeme mode (Some Word) bytes rest → IsWord bytes
word_of_mode Top bytes rest h = h.0
word_of_mode Head bytes rest h = h.0
word_of_mode Plain bytes rest h = h.0
word_of_mode Body bytes rest h = h.0
word_of_mode Display bytes rest h = h
word_of_mode Pattern bytes rest h = h.0

-- A word has the bytes of a word.
pub word_of : (t : Token) → IsSomeLexeme t → t.kind ≡ Word → IsWord t.text
word_of t (mode, rest, longest, fits) e =
    word_of_mode mode t.text rest (subst (λ (k : TokKind). IsLexeme mode (Some k) t.text rest) e longest.lexeme)

mark_of_mode : (mode : Mode) (bytes rest : List ℕ) → IsLexeme mode (Some Mark) bytes rest → Contains (common_marks ++ section_marks) bytes
mark_of_mode Top bytes rest h = Contains-append_left common_marks section_marks bytes h
mark_of_mode Head bytes rest h = Contains-append_left common_marks section_marks bytes h
mark_of_mode Plain bytes rest h = Contains-append_left common_marks section_marks bytes h
mark_of_mode Body bytes rest h = h
mark_of_mode Display bytes rest h = absurd h
mark_of_mode Pattern bytes rest h = Contains-append_left common_marks section_marks bytes h

-- A mark is one of the marks.
pub mark_of : (t : Token) → IsSomeLexeme t → t.kind ≡ Mark → Contains (common_marks ++ section_marks) t.text
mark_of t (mode, rest, longest, fits) e =
    mark_of_mode mode t.text rest (subst (λ (k : TokKind). IsLexeme mode (Some k) t.text rest) e longest.lexeme)
