-- Integers, words and marks that stand at the front of a text outside displays, and texts in every mode.
use Rattle.std.proofs.Common.{◌≡◌, ℕ, ◌+◌, ◌<◌, ◌≤◌, ◌^◌, inl, inr, true, List, [], ◌∷◌, take, drop, length, get_or, arith, sym, subst, Some}
use Rattle.std.proofs.lemmas.List.{take-append-drop}
use Rattle.sl_lex.specs.Bytes.{is_digit, number}
use Rattle.sl_lex.specs.Faults.{IsTooWide}
use Rattle.sl_lex.specs.Found.{class_of, StandsAs, IsLongestInteger, IsLongestWord, IsLongestMark}
use Rattle.sl_lex.specs.Lexemes.{BeginsWith, HasNoLexeme}
use Rattle.sl_lex.specs.Marks.{marks_of}
use Rattle.sl_lex.specs.declared.mode.Mode.{Mode}
use Rattle.sl_lex.specs.declared.mode.Mode.TheVariants.{Display}
use Rattle.sl_lex.specs.declared.TokKind.TheVariants.{Word, Integer, Mark}
use Rattle.sl_lex.proofs.CodeLemmas.{to_code, from_code, stands, code_some, only_integer, only_word_or_mark, digit_class}

integer_stands : (mode : Mode) (b : ℕ) (bs : List ℕ) (base mark count : ℕ) → (mode ≡ Display → ⊥) → is_digit b ≡ true → IsLongestInteger (b ∷ bs) base mark count
    → StandsAs mode (Some (Integer (number base (take count (drop mark (b ∷ bs)))))) (mark + count) (b ∷ bs)
integer_stands mode b bs base mark count outside h longest =
    let value : ℕ = number base (take count (drop mark (b ∷ bs))) in
    stands mode (Some (Integer value)) (mark + count) (b ∷ bs) longest.within
    (from_code mode (Some (Integer value)) (take (mark + count) (b ∷ bs)) (drop (mark + count) (b ∷ bs)) outside longest.found)
    (λ other front rest e l.
    let is = only_integer mode other front rest b bs (digit_class b h) e (to_code mode other front rest outside l) in
    longest.longest is.0 front rest is.1 e)

-- The integer that is spelled at the front stands there.
pub integer_at : (mode : Mode) (text : List ℕ) (base mark count value : ℕ) → (mode ≡ Display → ⊥) → BeginsWith is_digit text → IsLongestInteger text base mark count
    → number base (take count (drop mark text)) ≡ value → StandsAs mode (Some (Integer value)) (mark + count) text
integer_at mode [] base mark count value outside h longest e = absurd h
integer_at mode (b ∷ bs) base mark count value outside h longest e =
    subst (λ (n : ℕ). StandsAs mode (Some (Integer n)) (mark + count) (b ∷ bs)) e (integer_stands mode b bs base mark count outside h longest)

pub wide_at : (mode : Mode) (text : List ℕ) (base mark count value : ℕ) → (mode ≡ Display → ⊥) → BeginsWith is_digit text → IsLongestInteger text base mark count
    → number base (take count (drop mark text)) ≡ value → 2 ^ 64 ≤ value → IsTooWide mode text
wide_at mode text base mark count value outside h longest e wide = (
  value,
  take (mark + count) text,
  drop (mark + count) text,
  sym (take-append-drop (mark + count) text),
  (integer_at mode text base mark count value outside h longest e).longest,
  wide,
)

mark_stands : (mode : Mode) (b : ℕ) (bs : List ℕ) (w m : ℕ) → (mode ≡ Display → ⊥) → class_of b ≡ 0 → IsLongestWord (b ∷ bs) w
    → IsLongestMark (marks_of mode) (b ∷ bs) m → w < m → StandsAs mode (Some Mark) m (b ∷ bs)
mark_stands mode b bs w m outside c word mark longer =
    stands mode (Some Mark) m (b ∷ bs) mark.within
    (from_code mode (Some Mark) (take m (b ∷ bs)) (drop m (b ∷ bs)) outside (mark.found (omega arith)))
    (λ other front rest e l. elim (only_word_or_mark mode other front rest b bs c e (to_code mode other front rest outside l)) [
      | inl is ↦ let short : length front ≤ w = word.longest front rest is.0 is.1 e in omega arith
      | inr is ↦ mark.longest front rest is e
    ])

pub mark_at : (mode : Mode) (text : List ℕ) (w m : ℕ) → (mode ≡ Display → ⊥) → 0 < length text → class_of (get_or text 0 0) ≡ 0 → IsLongestWord text w
    → IsLongestMark (marks_of mode) text m → w < m → StandsAs mode (Some Mark) m text
mark_at mode [] w m outside some c word mark longer = absurd (omega arith)
mark_at mode (b ∷ bs) w m outside some c word mark longer = mark_stands mode b bs w m outside c word mark longer

word_stands : (mode : Mode) (b : ℕ) (bs : List ℕ) (w m : ℕ) → (mode ≡ Display → ⊥) → class_of b ≡ 0 → IsLongestWord (b ∷ bs) w
    → IsLongestMark (marks_of mode) (b ∷ bs) m → m ≤ w → 0 < w → StandsAs mode (Some Word) w (b ∷ bs)
word_stands mode b bs w m outside c word mark longer some =
    stands mode (Some Word) w (b ∷ bs) word.within
    (from_code mode (Some Word) (take w (b ∷ bs)) (drop w (b ∷ bs)) outside (word.found some))
    (λ other front rest e l. elim (only_word_or_mark mode other front rest b bs c e (to_code mode other front rest outside l)) [
      | inl is ↦ word.longest front rest is.0 is.1 e
      | inr is ↦ let short : length front ≤ m = mark.longest front rest is e in omega arith
    ])

pub word_at_front : (mode : Mode) (text : List ℕ) (w m : ℕ) → (mode ≡ Display → ⊥) → 0 < length text → class_of (get_or text 0 0) ≡ 0 → IsLongestWord text w
    → IsLongestMark (marks_of mode) text m → m ≤ w → 0 < w → StandsAs mode (Some Word) w text
word_at_front mode [] w m outside some c word mark longer more = absurd (omega arith)
word_at_front mode (b ∷ bs) w m outside some c word mark longer more = word_stands mode b bs w m outside c word mark longer more

nothing_stands : (mode : Mode) (b : ℕ) (bs : List ℕ) (w m : ℕ) → (mode ≡ Display → ⊥) → class_of b ≡ 0 → IsLongestWord (b ∷ bs) w
    → IsLongestMark (marks_of mode) (b ∷ bs) m → w ≡ 0 → m ≡ 0 → HasNoLexeme mode (b ∷ bs)
nothing_stands mode b bs w m outside c word mark none no_mark = λ kind front rest e l.
    let code = to_code mode kind front rest outside l in
    let some : 0 < length front = code_some mode kind front rest code in
    elim (only_word_or_mark mode kind front rest b bs c e code) [
      | inl is ↦ let short : length front ≤ w = word.longest front rest is.0 is.1 e in omega arith
      | inr is ↦ let short : length front ≤ m = mark.longest front rest is e in omega arith
    ]

pub nothing_at : (mode : Mode) (text : List ℕ) (w m : ℕ) → (mode ≡ Display → ⊥) → 0 < length text → class_of (get_or text 0 0) ≡ 0 → IsLongestWord text w
    → IsLongestMark (marks_of mode) text m → m ≤ w → w ≤ 0 → HasNoLexeme mode text
nothing_at mode [] w m outside some c word mark less none = absurd (omega arith)
nothing_at mode (b ∷ bs) w m outside some c word mark less none = nothing_stands mode b bs w m outside c word mark (omega arith) (omega arith)
