-- A text reads in one way alone.
use Rattle.std.proofs.Common.{◌≡◌, ℕ, ◌+◌, ◌<◌, ◌≤◌, ◌^◌, List, [], ◌∷◌, length, Option, None, Some, arith, refl, ap, ap₂, sym, ◌∙◌, subst, length-append}
use Rattle.sl_lex.specs.Errors.{Tells}
use Rattle.sl_lex.specs.Faults.{Fault, IsFault}
use Rattle.sl_lex.specs.Faults.Fault.{NoLexeme, OpenQuote, TooWide}
use Rattle.sl_lex.specs.Reading.{Token, Piece, Reads, ReadsTo, IsPieceAt, mode_after, Fits, tokens_of, ReadsAs, HasBadPlace}
use Rattle.sl_lex.specs.declared.LexError.{LexError}
use Rattle.sl_lex.specs.declared.LexError.TheVariants.{BadByte, OpenString, WideInteger, NoMemory}
use Rattle.sl_lex.specs.declared.mode.Mode.{Mode}
use Rattle.sl_lex.specs.declared.mode.Mode.TheVariants.{Top}
use Rattle.sl_lex.specs.declared.TokKind.{TokKind}
use Rattle.sl_lex.specs.declared.TokKind.TheVariants.{Integer}
use Rattle.sl_lex.proofs.OneFault.{one_fault, bad_some, open_some}
use Rattle.sl_lex.proofs.OneLexeme.{one_longest}
use Rattle.sl_lex.proofs.ReadingLemmas.{lexeme_some}

piece_some : (mode : Mode) (from : ℕ) (text : List ℕ) (p : Piece) (rest : List ℕ) → IsPieceAt mode from text p rest → text ≡ [] → ⊥
piece_some mode from text p rest h e =
    let none : length p.text + length rest ≡ 0 = sym (length-append p.text rest) ∙ ap length (sym h.split ∙ e) in
    let some : 0 < length p.text = lexeme_some mode p.kind p.text rest h.longest.lexeme in omega arith

fault_some : (mode : Mode) (fault : Fault) (ahead : ℕ) (text : List ℕ) → IsFault mode fault ahead text → text ≡ [] → ⊥
fault_some mode NoLexeme ahead text h e = bad_some ahead text h.1 e
fault_some mode OpenQuote ahead text h e = open_some ahead text h.1 e
fault_some mode TooWide ahead text ((value, bytes, rest, split, longest, wide), at) e =
    let none : length bytes + length rest ≡ 0 = sym (length-append bytes rest) ∙ ap length (sym split ∙ e) in
    let some : 0 < length bytes = lexeme_some mode (Some (Integer value)) bytes rest longest.lexeme in omega arith

-- An integer that fits is not too wide.
fits_no_wide : (kind : Option TokKind) (value : ℕ) → kind ≡ Some (Integer value) → Fits kind → 2 ^ 64 ≤ value → ⊥
fits_no_wide kind value e fits wide = let less : value < 2 ^ 64 = subst (λ (k : Option TokKind). Fits k) e fits in omega arith

piece_no_fault : (mode : Mode) (from : ℕ) (text : List ℕ) (p : Piece) (rest : List ℕ) (fault : Fault) (ahead : ℕ) → IsPieceAt mode from text p rest
    → IsFault mode fault ahead text → ⊥
piece_no_fault mode from text p rest NoLexeme ahead h k = k.0 p.kind p.text rest h.split h.longest.lexeme
piece_no_fault mode from text p rest OpenQuote ahead h k = k.0 p.kind p.text rest h.split h.longest.lexeme
piece_no_fault mode from text p rest TooWide ahead h ((value, bytes, after, split, longest, wide), at) =
    fits_no_wide p.kind value (one_longest mode p.kind (Some (Integer value)) p.text rest bytes after (sym h.split ∙ split) h.longest longest).0 h.fits wide

abbrev made : Option TokKind → List ℕ → ℕ → Piece
made kind text from = record { kind = kind; text = text; from = from }

same_piece : (p q : Piece) → p.kind ≡ q.kind → p.text ≡ q.text → p.from ≡ q.from → p ≡ q
same_piece p q e f g = ap₂ (λ k x. made k x p.from) e f ∙ ap (λ n. made q.kind q.text n) g

moved : (m n : Mode) (x y : ℕ) (r s : List ℕ) (ps : List Piece) (end : Option (Fault × ℕ)) → m ≡ n → x ≡ y → r ≡ s → Reads n y s ps end → Reads m x r ps end
moved m n x y r s ps end d e f h =
    subst (λ (k : Mode). Reads k x r ps end) (sym d)
    (subst (λ (k : ℕ). Reads n k r ps end) (sym e) (subst (λ (t : List ℕ). Reads n y t ps end) (sym f) h))

same_end : (a b : Fault × ℕ) → a.0 ≡ b.0 → a.1 ≡ b.1 → Some a ≡ Some b
same_end a b e f = ap₂ (λ (x : Fault) (n : ℕ). Some (x, n)) e f

one_reading_from : (mode : Mode) (from : ℕ) (text : List ℕ) (ps qs : List Piece) (end fin : Option (Fault × ℕ)) → Reads mode from text ps end
    → Reads mode from text qs fin → (ps ≡ qs) × (end ≡ fin)
one_reading_from mode from text [] [] None None h k = (refl, refl)
one_reading_from mode from text [] [] None (Some bad) h (ahead, is, e) = absurd (fault_some mode bad.0 ahead text is h)
one_reading_from mode from text [] [] (Some bad) None (ahead, is, e) k = absurd (fault_some mode bad.0 ahead text is k)
one_reading_from mode from text [] [] (Some bad) (Some worse) (ahead, is, e) (ahead', is', e') =
    let same = one_fault mode bad.0 worse.0 ahead ahead' text is is' in
    (refl, same_end bad worse same.0 (e ∙ ap (λ (n : ℕ). from + n) same.1 ∙ sym e'))
one_reading_from mode from text [] (q ∷ qs) None fin h (rest, here, later) = absurd (piece_some mode from text q rest here h)
one_reading_from mode from text [] (q ∷ qs) (Some bad) fin (ahead, is, e) (rest, here, later) = absurd (piece_no_fault mode from text q rest bad.0 ahead here is)
one_reading_from mode from text (p ∷ ps) [] end None (rest, here, later) k = absurd (piece_some mode from text p rest here k)
one_reading_from mode from text (p ∷ ps) [] end (Some bad) (rest, here, later) (ahead, is, e) = absurd (piece_no_fault mode from text p rest bad.0 ahead here is)
one_reading_from mode from text (p ∷ ps) (q ∷ qs) end fin (rest, here, later) (rest', here', later') =
    let same = one_longest mode p.kind q.kind p.text rest q.text rest' (sym here.split ∙ here'.split) here.longest here'.longest in
    let piece : p ≡ q = same_piece p q same.0 same.1 (here.place ∙ sym here'.place) in
    let more = one_reading_from (mode_after mode p.kind p.text) (from + length p.text) rest ps qs end fin later
    (moved (mode_after mode p.kind p.text) (mode_after mode q.kind q.text) _ _ rest rest' qs fin (ap₂ (mode_after mode) same.0 same.1)
    (ap (λ (t : List ℕ). from + length t) same.1) same.2 later') in
    (ap₂ (λ x xs. x ∷ xs) piece more.0, more.1)

pub one_end : (text : List ℕ) (ts us : List Token) (end fin : Option (Fault × ℕ)) → ReadsTo text ts end → ReadsTo text us fin → (ts ≡ us) × (end ≡ fin)
one_end text ts us end fin (ps, h, e) (qs, k, f) =
    let same = one_reading_from Top 0 text ps qs end fin h k in
    (sym e ∙ ap tokens_of same.0 ∙ f, same.1)

-- The tokens of a text are the only ones that it reads as.
pub one_reading : (text : List ℕ) (ts us : List Token) → ReadsAs text ts → ReadsAs text us → ts ≡ us
one_reading text ts us h k = (one_end text ts us None None h k).0

-- A text that reads to its end has no bad place.
pub reads_well : (text : List ℕ) (ts : List Token) (fault : Fault) (place : ℕ) → ReadsAs text ts → HasBadPlace text fault place → ⊥
reads_well text ts fault place h (us, k) = let clash = (one_end text ts us None (Some (fault, place)) h k).1 in absurd (cc)

-- The first bad place of a text is the only one, and bad for one reason.
pub one_bad_place : (text : List ℕ) (fault other : Fault) (place there : ℕ) → HasBadPlace text fault place → HasBadPlace text other there
    → (fault ≡ other) × (place ≡ there)
one_bad_place text fault other place there (ts, h) (us, k) =
    let same = (one_end text ts us (Some (fault, place)) (Some (other, there)) h k).1 in
    let pair : (fault, place) ≡ (other, there) = cc in
    (ap (λ (x : Fault × ℕ). x.0) pair, ap (λ (x : Fault × ℕ). x.1) pair)

-- Where a text reads to its end, the only error is want of memory.
pub well_read : (text : List ℕ) (ts : List Token) (error : LexError) → ReadsAs text ts → Tells text error → error ≡ NoMemory
well_read text ts (BadByte place) reads bad = absurd (reads_well text ts NoLexeme place reads bad)
well_read text ts (OpenString place) reads bad = absurd (reads_well text ts OpenQuote place reads bad)
well_read text ts (WideInteger place) reads bad = absurd (reads_well text ts TooWide place reads bad)
well_read text ts NoMemory reads bad = refl
