-- A text of a file's size has no more tokens than bytes.
use Rattle.std.proofs.Common.{◌≡◌, ℕ, ◌+◌, ◌<◌, ◌≤◌, List, [], ◌∷◌, length, length-append, Option, Some, None, ap, ◌∙◌, arith}
use Rattle.std.specs.Coded.{le_prop}
use Rattle.std.proofs.Math.Logic.{∥∥₁_elim}
use Rattle.std.proofs.lemmas.List.{length-map}
use Rattle.sl_ast.specs.Spelling.{spell}
use Rattle.sl_ast.specs.Symbols.{Sym}
use Rattle.sl_ast.specs.Trees.{Item}
use Rattle.sl_faithful_accepted.specs.Laws.{IsShort}
use Rattle.sl_lex.specs.Faults.{Fault}
use Rattle.sl_lex.specs.Reading.{Piece, Reads, ReadsAs, Token, kept, mode_after, tokens_of}
use Rattle.sl_lex.specs.declared.TokKind.{TokKind}
use Rattle.sl_lex.specs.declared.mode.Mode.{Mode}
use Rattle.sl_lex.specs.declared.mode.Mode.TheVariants.{Top}
use Rattle.sl_lex.proofs.ReadingLemmas.{lexeme_some}
use Rattle.sl_preproc.specs.Expanded.{Text}
use Rattle.sl_preproc.specs.Sound.{IsSound}
use Rattle.sl_parse_terminals.specs.Symbols.{symbol_of, symbols_of}

one_kept : (kind : Option TokKind) (p : Piece) (ts : List Token) → length (kept kind p ts) ≤ 1 + length ts
one_kept None p ts = omega arith
one_kept (Some kind) p ts = omega arith

few_tokens : (mode : Mode) (from : ℕ) (text : List ℕ) (ps : List Piece) (end : Option (Fault × ℕ)) → Reads mode from text ps end → length (tokens_of ps) ≤ length text
few_tokens mode from text [] end reads = omega arith
few_tokens mode from text (p ∷ ps) end (rest, here, later) =
    let lengths : length text ≡ length p.text + length rest = ap length here.split ∙ length-append p.text rest in
    let some : 0 < length p.text = lexeme_some mode p.kind p.text rest here.longest.lexeme in
    let fewer = few_tokens (mode_after mode p.kind p.text) (from + length p.text) rest ps end later in
    omega (arith, lengths, some, fewer, one_kept p.kind p (tokens_of ps))

pub short_by : (text : Text) (tokens : List Token) (items : List Item) → symbols_of tokens ≡ spell items → IsSound text → ReadsAs text.bytes tokens → IsShort items
short_by text tokens items spelled sound (pieces, reads, are) =
    let few = few_tokens Top 0 text.bytes pieces None reads in
    let count : length (tokens_of pieces) ≡ length tokens = ap length are in
    let symbols : length (symbols_of tokens) ≡ length tokens = length-map tokens symbol_of in
    let spelling : length (symbols_of tokens) ≡ length (spell items) = ap (λ (s : List Sym). length s) spelled in
    omega (arith, few, count, symbols, spelling, sound.small)

-- the text and its tokens being known to be so
pub text_is_short : (text : Text) (tokens : List Token) (items : List Item) → symbols_of tokens ≡ spell items → ∥ IsSound text ∥₁ → ∥ ReadsAs text.bytes tokens ∥₁ → IsShort items
text_is_short text tokens items spelled sound reads =
    ∥∥₁_elim sound le_prop (λ (s : IsSound text). ∥∥₁_elim reads le_prop (λ (r : ReadsAs text.bytes tokens). short_by text tokens items spelled s r))
