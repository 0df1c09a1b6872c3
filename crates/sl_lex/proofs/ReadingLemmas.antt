-- How a reading goes on, and how it ends.
use Rattle.std.proofs.Common.{◌≡◌, ℕ, ◌+◌, ◌-◌, ◌<◌, List, [], ◌∷◌, ◌++◌, length, Option, None, Some, arith, refl, subst, sym, ap, append-nil, append_assoc, ◌∙◌, length-append}
use Rattle.std.proofs.lemmas.List.{map-append}
use Rattle.std.specs.Option.{option_map, option_to_list}
use Rattle.sl_lex.specs.Faults.{Fault, IsFault}
use Rattle.sl_lex.specs.Faults.Fault.{NoLexeme, OpenQuote, TooWide}
use Rattle.sl_lex.specs.Found.{Steps, Blames}
use Rattle.sl_lex.specs.Errors.{Tells}
use Rattle.sl_lex.specs.Lexemes.{IsLexeme}
use Rattle.sl_lex.specs.Reading.{Reads, ReadsTo, ReadsAs, Token, Piece, tokens_of, kept, mode_after, HasBadPlace}
use Rattle.sl_lex.specs.Views.{view, views}
use Rattle.sl_lex.specs.declared.LexError.{LexError}
use Rattle.sl_lex.specs.declared.LexError.TheVariants.{BadByte, OpenString, WideInteger, NoMemory}
use Rattle.sl_lex.specs.declared.Tok.{Tok}
use Rattle.sl_lex.specs.declared.TokKind.{TokKind}
use Rattle.sl_lex.specs.declared.lexer.Step.{Step}
use Rattle.sl_lex.specs.declared.mode.Mode.{Mode}
use Rattle.sl_lex.specs.declared.mode.Mode.TheVariants.{Top, Head, Plain, Body, Display, Pattern}
use Rattle.sl_lex.proofs.CodeLemmas.{code_some}
use Rattle.sl_lex.proofs.DisplayLemmas.{display_some}

-- Whatever the rest reads as, from this place on, the whole text reads as the tokens so far and then that.
abbrev pub GoesOn : List ℕ → List Token → Mode → ℕ → List ℕ → Type 0
GoesOn whole so_far mode from text = (pieces : List Piece) (end : Option (Fault × ℕ)) → Reads mode from text pieces end → ReadsTo whole (so_far ++ tokens_of pieces) end

pub goes_on_first : (whole : List ℕ) → GoesOn whole [] Top 0 whole
goes_on_first whole = λ pieces end reads. (pieces, reads, refl)

joined : (kind : Option TokKind) (p : Piece) (ts : List Token) → kept kind p ts ≡ kept kind p [] ++ ts
joined None p ts = refl
joined (Some kind) p ts = refl

tokens_joined : (p : Piece) (ps : List Piece) → tokens_of (p ∷ ps) ≡ tokens_of (p ∷ []) ++ tokens_of ps
tokens_joined p ps = joined p.kind p (tokens_of ps)

-- A piece more.
pub goes_on_next : (whole : List ℕ) (so_far : List Token) (mode : Mode) (from : ℕ) (text : List ℕ) (s : Step) → GoesOn whole so_far mode from text → Steps mode from text s
    → GoesOn whole (so_far ++ option_to_list (option_map view s.token)) s.mode (from + (length text - length s.rest.now)) s.rest.now
goes_on_next whole so_far mode from text s on (p, here, token, leads) = λ pieces end reads.
    let lengths : length text ≡ length p.text + length s.rest.now = ap length here.split ∙ length-append p.text s.rest.now in
    let place : from + length p.text ≡ from + (length text - length s.rest.now) = omega arith in
    let later : Reads (mode_after mode p.kind p.text) (from + length p.text) s.rest.now pieces end =
    subst (λ (m : Mode). Reads m (from + length p.text) s.rest.now pieces end) (sym leads)
    (subst (λ (n : ℕ). Reads s.mode n s.rest.now pieces end) (sym place) reads) in
    let whole_reads = on (p ∷ pieces) end (s.rest.now, here, later) in
    subst (λ (ts : List Token). ReadsTo whole ts end)
    (ap (λ (ts : List Token). so_far ++ ts) (tokens_joined p pieces ∙ ap (λ (ts : List Token). ts ++ tokens_of pieces) token)
    ∙ sym (append_assoc so_far (option_to_list (option_map view s.token)) (tokens_of pieces)))
    whole_reads

pub reads_to_end : (whole : List ℕ) (so_far : List Token) (mode : Mode) (from : ℕ) (text : List ℕ) → GoesOn whole so_far mode from text → length text ≡ 0 → ReadsAs whole so_far
reads_to_end whole so_far mode from [] on e = subst (λ (ts : List Token). ReadsTo whole ts None) (append-nil so_far) (on [] None refl)
reads_to_end whole so_far mode from (b ∷ bs) on e = absurd (omega arith)

bad_place : (whole : List ℕ) (so_far : List Token) (mode : Mode) (from : ℕ) (text : List ℕ) (fault : Fault) (place ahead : ℕ) → GoesOn whole so_far mode from text
    → IsFault mode fault ahead text → place ≡ from + ahead → HasBadPlace whole fault place
bad_place whole so_far mode from text fault place ahead on is e = (so_far ++ [], on [] (Some (fault, place)) (ahead, is, e))

-- What the front of the rest is blamed for, the error tells of the whole text.
pub tells : (whole : List ℕ) (so_far : List Token) (mode : Mode) (from : ℕ) (text : List ℕ) (error : LexError) → GoesOn whole so_far mode from text
    → Blames mode from text error → Tells whole error
tells whole so_far mode from text (BadByte place) on (ahead, is, e) = bad_place whole so_far mode from text NoLexeme place ahead on is e
tells whole so_far mode from text (OpenString place) on (ahead, is, e) = bad_place whole so_far mode from text OpenQuote place ahead on is e
tells whole so_far mode from text (WideInteger place) on (ahead, is, e) = bad_place whole so_far mode from text TooWide place ahead on is e
tells whole so_far mode from text NoMemory on h = absurd h

-- A lexeme has some bytes.
pub lexeme_some : (mode : Mode) (kind : Option TokKind) (bytes rest : List ℕ) → IsLexeme mode kind bytes rest → 0 < length bytes
lexeme_some Top kind bytes rest h = code_some Top kind bytes rest h
lexeme_some Head kind bytes rest h = code_some Head kind bytes rest h
lexeme_some Plain kind bytes rest h = code_some Plain kind bytes rest h
lexeme_some Body kind bytes rest h = code_some Body kind bytes rest h
lexeme_some Display kind bytes rest h = display_some kind bytes h
lexeme_some Pattern kind bytes rest h = code_some Pattern kind bytes rest h

-- A piece leaves less of the text.
pub steps_on : (mode : Mode) (from : ℕ) (text : List ℕ) (s : Step) → Steps mode from text s → length s.rest.now < length text
steps_on mode from text s (p, here, token, leads) =
    omega (arith, ap length here.split, length-append p.text s.rest.now, lexeme_some mode p.kind p.text s.rest.now here.longest.lexeme)

-- The tokens so far, where one was pushed or none was there.
pub kept_more : (old new : List Tok) (token : Option Tok) (tok : Tok) → new ≡ old ++ tok ∷ [] → token ≡ Some tok
    → views new ≡ views old ++ option_to_list (option_map view token)
kept_more old new token tok e is =
    ap views e ∙ map-append view old (tok ∷ []) ∙ ap (λ (o : Option Tok). views old ++ option_to_list (option_map view o)) (sym is)

pub kept_same : (old new : List Tok) (token : Option Tok) → new ≡ old → token ≡ None → views new ≡ views old ++ option_to_list (option_map view token)
kept_same old new token e is =
    ap views e ∙ sym (append-nil (views old)) ∙ ap (λ (o : Option Tok). views old ++ option_to_list (option_map view o)) (sym is)
