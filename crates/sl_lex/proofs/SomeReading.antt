-- Each text reads to its end or to a bad place.
use Rattle.std.proofs.Common.{◌≡◌, ℕ, zero, suc, ◌+◌, ◌<◌, ◌≤◌, ◌^◌, ◌⊎◌, inl, inr, Bool, true, false, List, [], ◌∷◌, ◌++◌, take, drop, length, Option, None, Some}
use Rattle.std.proofs.Common.{arith, refl, sym, ap, subst, ◌∙◌, append-nil, append_assoc, length-append, nat_eq, codes}
use Rattle.std.specs.Prelude.{nat_lt}
use Rattle.std.specs.List.{starts_with, prefix_len}
use Rattle.std.proofs.lemmas.Bool.Decides.{Decides-eqb, nat_tests}
use Rattle.std.proofs.lemmas.Slice.Eq.{starts_is}
use Rattle.sl_lex.specs.Bytes.{is_quote, is_hash, is_blank, is_digit, is_hex_digit, is_binary_digit, begins_word, is_caret, is_char, is_word_byte, is_comment_byte, is_text_byte, number}
use Rattle.sl_lex.specs.Faults.{Fault, IsFault, is_at_line_end}
use Rattle.sl_lex.specs.Faults.Fault.{NoLexeme, OpenQuote, TooWide}
use Rattle.sl_lex.specs.Found.{Finds, class_of, word_len, IsLongestWord, IsLongestMark, IsLongestSpelled, IsLongestInteger}
use Rattle.sl_lex.specs.Laws.{HasReading, EachTextReads}
use Rattle.sl_lex.specs.Lexemes.{BeginsWith, HasNoLexeme}
use Rattle.sl_lex.specs.Marks.{marks_of}
use Rattle.sl_lex.specs.Reading.{Piece, IsPieceAt, Reads, mode_after, tokens_of}
use Rattle.sl_lex.specs.declared.TokKind.TheVariants.{Word, Integer, Text, Mark, Blank, Caret, Char}
use Rattle.sl_lex.specs.declared.lexemes.Found.{Found}
use Rattle.sl_lex.specs.declared.lexemes.Found.TheVariants.{Gap, Token, TooWide as Wide, Nothing}
use Rattle.sl_lex.specs.declared.mode.Mode.{Mode}
use Rattle.sl_lex.specs.declared.mode.Mode.TheVariants.{Top, Head, Plain, Body, Display, Pattern}
use Rattle.sl_lex.proofs.RunLemmas.{not_false, first_passes}
use Rattle.sl_lex.proofs.SpelledLemmas.{behind_mark, hex_integer, binary_integer, decimal_integer}
use Rattle.sl_lex.proofs.MarkLemmas.{no_marks, one_mark_more}
use Rattle.sl_lex.proofs.WordLemmas.{longest_word}
use Rattle.sl_lex.proofs.CodeLemmas.{blanks_at, comment_at}
use Rattle.sl_lex.proofs.StandLemmas.{integer_at, wide_at, mark_at, word_at_front, nothing_at}
use Rattle.sl_lex.proofs.DisplayLemmas.{blank_token_at, display_word_at, caret_at, char_at, nothing_in_display}
use Rattle.sl_lex.proofs.QuoteLemmas.{text_at, no_text_at}
use Rattle.sl_lex.proofs.FaultLemmas.{blames_first, blames_quote, blames_inside}
use Rattle.sl_lex.proofs.StepLemmas.{piece_here}
use Rattle.sl_lex.proofs.ReadingLemmas.{lexeme_some}

less_by : (m n : ℕ) (less : Bool) → nat_lt m n ≡ less → (m < n) ⊎ (n ≤ m)
less_by m n true h = let lt : m < n = grind (arith, nat_tests) in inl lt
less_by m n false h = let ge : n ≤ m = grind (arith, nat_tests) in inr ge

less_or_not : (m n : ℕ) → (m < n) ⊎ (n ≤ m)
less_or_not m n = less_by m n (nat_lt m n) refl

-- ---- the longest word, mark and integer

longest_mark : (before marks : List (List ℕ)) (text : List ℕ) (n : ℕ) → IsLongestMark before text n → (m : ℕ) × IsLongestMark (before ++ marks) text m
longest_mark before [] text n h = (n, subst (λ (ms : List (List ℕ)). IsLongestMark ms text n) (sym (append-nil before)) h)
longest_mark before (m ∷ ms) text n h =
    let one = longest_mark (before ++ m ∷ []) ms text _ (one_mark_more before m text n (starts_with nat_eq text m) refl h) in
    (one.0, subst (λ (l : List (List ℕ)). IsLongestMark l text one.0) (append_assoc before (m ∷ []) ms) one.1)

mark_by_mode : (mode : Mode) (text : List ℕ) → (m : ℕ) × IsLongestMark (marks_of mode) text m
mark_by_mode mode text = longest_mark [] (marks_of mode) text 0 (no_marks text)

word_by : (b : ℕ) (bs : List ℕ) (begins : Bool) → begins_word b ≡ begins → (n : ℕ) × IsLongestWord (b ∷ bs) n
word_by b bs true h = (word_len (b ∷ bs), longest_word b (word_len (b ∷ bs)) bs h refl)
word_by b bs false h = (
  0,
  record {
    within = omega arith;
    found = λ some. absurd (omega arith);
    longest = λ front rest word dots e. absurd (not_false (begins_word b) (first_passes begins_word b bs front rest e word.0) h);
  },
)

spelled_by : (mark : List ℕ) (test : ℕ → Bool) (text : List ℕ) (starts : Bool) → starts_with nat_eq text mark ≡ starts → (n : ℕ) × IsLongestSpelled mark test text n
spelled_by mark test text true h =
    (prefix_len test (drop (length mark) text), behind_mark mark test text (drop (length mark) text) _ ((starts_is Decides-eqb text mark _ refl).0 h) refl)
spelled_by mark test text false h = (
  0,
  record {
    found = λ some. absurd (omega arith);
    longest = λ digits rest all e.
        absurd (not_false (starts_with nat_eq text mark) ((starts_is Decides-eqb text mark _ refl).1 (digits ++ rest) (e ∙ append_assoc mark digits rest)) h);
  },
)

record SomeInteger (text : List ℕ) : Type 0 where
  base : ℕ
  mark : ℕ
  count : ℕ
  longest : IsLongestInteger text base mark count

integer_by : (text : List ℕ) (hex binary : ℕ) → BeginsWith is_digit text → IsLongestSpelled (codes "0x") is_hex_digit text hex
    → IsLongestSpelled (codes "0b") is_binary_digit text binary → SomeInteger text
integer_by text zero zero begins x b =
    record { base = 10; mark = 0; count = prefix_len is_digit text; longest = decimal_integer text (prefix_len is_digit text) begins refl x b }
integer_by text zero (suc n) begins x b = record { base = 2; mark = 2; count = suc n; longest = binary_integer text (suc n) (omega arith) x b }
integer_by text (suc n) binary begins x b = record { base = 16; mark = 2; count = suc n; longest = hex_integer text (suc n) (omega arith) x }

some_integer : (text : List ℕ) → BeginsWith is_digit text → SomeInteger text
some_integer text begins =
    let x = spelled_by (codes "0x") is_hex_digit text (starts_with nat_eq text (codes "0x")) refl in
    let b = spelled_by (codes "0b") is_binary_digit text (starts_with nat_eq text (codes "0b")) refl in
    integer_by text x.0 b.0 begins x.1 b.1

-- ---- what stands at the front

abbrev SomeFound : Mode → List ℕ → Type 0
SomeFound mode text = (f : Found) × Finds mode text f

integer_found : (mode : Mode) (text : List ℕ) → (mode ≡ Display → ⊥) → BeginsWith is_digit text → SomeFound mode text
integer_found mode text outside begins =
    let i = some_integer text begins in
    let value : ℕ = number i.base (take i.count (drop i.mark text)) in
    elim (less_or_not value (2 ^ 64)) [
      | inl fits ↦ (Token (Integer value) (i.mark + i.count), (integer_at mode text i.base i.mark i.count value outside begins i.longest refl, fits))
      | inr wide ↦ (Wide, wide_at mode text i.base i.mark i.count value outside begins i.longest refl wide)
    ]

quoted_by : (mode : Mode) (text : List ℕ) (closed : Bool) → BeginsWith is_quote text
    → starts_with nat_eq (drop (prefix_len is_text_byte (drop 1 text)) (drop 1 text)) (codes "\"") ≡ closed → SomeFound mode text
quoted_by mode text true begins h =
    let n : ℕ = prefix_len is_text_byte (drop 1 text) in
    (Token Text (n + 2), (text_at mode text (drop 1 text) (drop n (drop 1 text)) n begins refl refl refl h, tt))
quoted_by mode text false begins h =
    let n : ℕ = prefix_len is_text_byte (drop 1 text) in
    (Nothing, no_text_at mode text (drop 1 text) (drop n (drop 1 text)) n begins refl refl refl h)

quoted_found : (mode : Mode) (text : List ℕ) → BeginsWith is_quote text → SomeFound mode text
quoted_found mode text begins = quoted_by mode text _ begins refl

other_by : (mode : Mode) (b : ℕ) (bs : List ℕ) (w m : ℕ) → (mode ≡ Display → ⊥) → class_of b ≡ 0 → IsLongestWord (b ∷ bs) w → IsLongestMark (marks_of mode) (b ∷ bs) m
    → (w < m) ⊎ (m ≤ w) → SomeFound mode (b ∷ bs)
other_by mode b bs w m outside c word mark (inl less) = (Token Mark m, (mark_at mode (b ∷ bs) w m outside (omega arith) c word mark less, tt))
other_by mode b bs zero m outside c word mark (inr more) = (Nothing, nothing_at mode (b ∷ bs) 0 m outside (omega arith) c word mark more (omega arith))
other_by mode b bs (suc w) m outside c word mark (inr more) =
    (Token Word (suc w), (word_at_front mode (b ∷ bs) (suc w) m outside (omega arith) c word mark more (omega arith), tt))

other_found : (mode : Mode) (b : ℕ) (bs : List ℕ) → (mode ≡ Display → ⊥) → class_of b ≡ 0 → SomeFound mode (b ∷ bs)
other_found mode b bs outside c =
    let w = word_by b bs (begins_word b) refl in
    let m = mark_by_mode mode (b ∷ bs) in
    other_by mode b bs w.0 m.0 outside c w.1 m.1 (less_or_not w.0 m.0)

code_by : (mode : Mode) (b : ℕ) (bs : List ℕ) (q h s d : Bool) → (mode ≡ Display → ⊥) → is_quote b ≡ q → is_hash b ≡ h → is_blank b ≡ s → is_digit b ≡ d
    → SomeFound mode (b ∷ bs)
code_by mode b bs true h s d outside e f g i = quoted_found mode (b ∷ bs) e
code_by mode b bs false true s d outside e f g i =
    let n : ℕ = prefix_len is_comment_byte (b ∷ bs) in
    (Gap n, comment_at mode (b ∷ bs) n outside (omega arith) f refl)
code_by mode b bs false false true d outside e f g i =
    let n : ℕ = prefix_len is_blank (b ∷ bs) in
    (Gap n, blanks_at mode (b ∷ bs) n outside (omega arith) g refl)
code_by mode b bs false false false true outside e f g i = integer_found mode (b ∷ bs) outside i
code_by mode b bs false false false false outside e f g i = other_found mode b bs outside (rw (e, f, g, i) refl)

code_found : (mode : Mode) (b : ℕ) (bs : List ℕ) → (mode ≡ Display → ⊥) → SomeFound mode (b ∷ bs)
code_found mode b bs outside = code_by mode b bs (is_quote b) (is_hash b) (is_blank b) (is_digit b) outside refl refl refl refl

display_by : (b : ℕ) (bs : List ℕ) (q s w c h : Bool) → is_quote b ≡ q → is_blank b ≡ s → begins_word b ≡ w → is_caret b ≡ c → is_char b ≡ h
    → SomeFound Display (b ∷ bs)
display_by b bs true s w c h e f g i j = quoted_found Display (b ∷ bs) e
display_by b bs false true w c h e f g i j =
    let n : ℕ = prefix_len is_blank (b ∷ bs) in (Token Blank n, (blank_token_at (b ∷ bs) n (omega arith) f refl, tt))
display_by b bs false false true c h e f g i j =
    let n : ℕ = prefix_len is_word_byte (b ∷ bs) in (Token Word n, (display_word_at (b ∷ bs) n (omega arith) g refl, tt))
display_by b bs false false false true h e f g i j = (Token Caret 1, (caret_at (b ∷ bs) (omega arith) i, tt))
display_by b bs false false false false true e f g i j = (Token Char 1, (char_at (b ∷ bs) (omega arith) j, tt))
display_by b bs false false false false false e f g i j = (Nothing, nothing_in_display (b ∷ bs) (omega arith) e f g i j)

found : (mode : Mode) (b : ℕ) (bs : List ℕ) → SomeFound mode (b ∷ bs)
found Display b bs = display_by b bs (is_quote b) (is_blank b) (begins_word b) (is_caret b) (is_char b) refl refl refl refl refl
found Top b bs = code_found Top b bs (λ e. absurd (cc))
found Head b bs = code_found Head b bs (λ e. absurd (cc))
found Plain b bs = code_found Plain b bs (λ e. absurd (cc))
found Body b bs = code_found Body b bs (λ e. absurd (cc))
found Pattern b bs = code_found Pattern b bs (λ e. absurd (cc))

-- ---- a piece, or a fault

-- a piece at the front, or a bad place
abbrev GoesOrEnds : Mode → ℕ → List ℕ → Type 0
GoesOrEnds mode from text =
    ((p : Piece) × (rest : List ℕ) × IsPieceAt mode from text p rest)
    ⊎ ((bad : Fault × ℕ) × (ahead : ℕ) × IsFault mode bad.0 ahead text × (bad.1 ≡ from + ahead))

open_by : (mode : Mode) (from b : ℕ) (bs : List ℕ) (ends : Bool) → b ≡ 34 → is_at_line_end (drop (prefix_len is_text_byte bs) bs) ≡ ends → HasNoLexeme mode (b ∷ bs)
    → GoesOrEnds mode from (b ∷ bs)
open_by mode from b bs true quote e none =
    let n : ℕ = prefix_len is_text_byte bs in
    let h = blames_quote mode from (b ∷ bs) bs (drop n bs) n (omega arith) quote refl refl refl e none in
    inr ((OpenQuote, from), h.0, h.1, h.2)
open_by mode from b bs false quote e none =
    let n : ℕ = prefix_len is_text_byte bs in
    let h = blames_inside mode from (b ∷ bs) bs (drop n bs) n (omega arith) quote refl refl refl e none in
    inr ((NoLexeme, from + 1 + n), h.0, h.1, h.2)

fault_by : (mode : Mode) (from b : ℕ) (bs : List ℕ) (quote : Bool) → is_quote b ≡ quote → HasNoLexeme mode (b ∷ bs) → GoesOrEnds mode from (b ∷ bs)
fault_by mode from b bs true h none = open_by mode from b bs _ (let e : b ≡ 34 = grind (arith, nat_tests) in e) refl none
fault_by mode from b bs false h none =
    let first = blames_first mode from (b ∷ bs) (omega arith) (λ e. not_false (is_quote b) (let q : is_quote b ≡ true = grind (arith, nat_tests) in q) h) none in
    inr ((NoLexeme, from), first.0, first.1, first.2)

goes_by : (mode : Mode) (from b : ℕ) (bs : List ℕ) (f : Found) → Finds mode (b ∷ bs) f → GoesOrEnds mode from (b ∷ bs)
goes_by mode from b bs (Gap count) h =
    inl (record { kind = None; text = take count (b ∷ bs); from = from }, drop count (b ∷ bs), piece_here mode from None count (b ∷ bs) _ _ h tt refl refl)
goes_by mode from b bs (Token kind count) h =
    inl (record { kind = Some kind; text = take count (b ∷ bs); from = from }, drop count (b ∷ bs), piece_here mode from (Some kind) count (b ∷ bs) _ _ h.0 h.1 refl refl)
goes_by mode from b bs Wide h = inr ((TooWide, from), 0, (h, refl), omega arith)
goes_by mode from b bs Nothing h = fault_by mode from b bs (is_quote b) refl h

-- ---- the whole text

abbrev SomeReading : Mode → ℕ → List ℕ → Type 0
SomeReading mode from text = (pieces : List Piece) × (end : Option (Fault × ℕ)) × Reads mode from text pieces end

reads_on : (n : ℕ) (mode : Mode) (from : ℕ) (text : List ℕ) → length text ≤ n → SomeReading mode from text
reads_on n mode from [] h = ([], None, refl)
reads_on zero mode from (b ∷ bs) h = absurd (omega arith)
reads_on (suc n) mode from (b ∷ bs) h =
    let f = found mode b bs in
    elim (goes_by mode from b bs f.0 f.1) [
      | inl (p, rest, here) ↦
          let some : 0 < length p.text = lexeme_some mode p.kind p.text rest here.longest.lexeme in
          let whole : length (b ∷ bs) ≡ length p.text + length rest = ap length here.split ∙ length-append p.text rest in
          let later = reads_on n (mode_after mode p.kind p.text) (from + length p.text) rest (omega arith) in
          (p ∷ later.0, later.1, (rest, here, later.2))
      | inr (bad, ahead, is, e) ↦ ([], Some bad, (ahead, is, e))
    ]

has_reading : (text : List ℕ) (pieces : List Piece) (end : Option (Fault × ℕ)) → Reads Top 0 text pieces end → HasReading text
has_reading text pieces None h = inl (tokens_of pieces, (pieces, h, refl))
has_reading text pieces (Some (fault, place)) h = inr (fault, place, (tokens_of pieces, (pieces, h, refl)))

pub each_text_reads : EachTextReads
each_text_reads = λ text. let r = reads_on (length text) Top 0 text (omega arith) in has_reading text r.0 r.1 r.2

-- the same, doubly negated
pub some_reading : (text : List ℕ) → (HasReading text → ⊥) → ⊥
some_reading text = λ none. none (each_text_reads text)
