-- Which lexeme stands at the front of a text outside displays.
use Rattle.std.proofs.Common.{◌≡◌, ℕ, ◌<◌, ◌≤◌, ◌⊎◌, inl, inr, Bool, true, List, [], ◌∷◌, ◌++◌, take, drop, length, get_or, arith, refl, ap, sym, ◌∙◌, subst, nat_eq, Option, Some, None}
use Rattle.std.specs.Prelude.{Contains}
use Rattle.std.specs.List.{list_all, prefix_len}
use Rattle.std.proofs.lemmas.Bool.Decides.{nat_tests, Decides-eqb}
use Rattle.std.proofs.lemmas.List.{take-append-drop, length-take-le}
use Rattle.sl_lex.specs.Bytes.{is_blank, is_hash, is_quote, is_digit, begins_word, is_comment_byte}
use Rattle.sl_lex.specs.Found.{class_of, StandsAs}
use Rattle.sl_lex.specs.Lexemes.{BeginsWith, IsSpan, IsWord, HasNoDots, IsInteger, IsQuoted, IsComment, IsCodeLexeme, IsLexeme}
use Rattle.sl_lex.specs.Marks.{marks_of}
use Rattle.sl_lex.specs.declared.mode.Mode.{Mode}
use Rattle.sl_lex.specs.declared.mode.Mode.TheVariants.{Top, Head, Plain, Body, Display, Pattern}
use Rattle.sl_lex.specs.declared.TokKind.{TokKind}
use Rattle.sl_lex.specs.declared.TokKind.TheVariants.{Word, Integer, Text, Mark, Blank, Caret, Char}
use Rattle.sl_lex.proofs.MarkLemmas.{all_pass, begins, front_begins}
use Rattle.sl_lex.proofs.RunLemmas.{first_passes, run_at, run_longest, run_begins, run_within, begins_front, begins_some, counts_some}
use Rattle.sl_lex.proofs.SpelledLemmas.{integer_begins}

pub to_code : (mode : Mode) (kind : Option TokKind) (bytes rest : List ℕ) → (mode ≡ Display → ⊥) → IsLexeme mode kind bytes rest → IsCodeLexeme (marks_of mode) kind bytes rest
to_code Top kind bytes rest outside h = h
to_code Head kind bytes rest outside h = h
to_code Plain kind bytes rest outside h = h
to_code Body kind bytes rest outside h = h
to_code Display kind bytes rest outside h = absurd (outside refl)
to_code Pattern kind bytes rest outside h = h

pub from_code : (mode : Mode) (kind : Option TokKind) (bytes rest : List ℕ) → (mode ≡ Display → ⊥) → IsCodeLexeme (marks_of mode) kind bytes rest → IsLexeme mode kind bytes rest
from_code Top kind bytes rest outside h = h
from_code Head kind bytes rest outside h = h
from_code Plain kind bytes rest outside h = h
from_code Body kind bytes rest outside h = h
from_code Display kind bytes rest outside h = absurd (outside refl)
from_code Pattern kind bytes rest outside h = h

-- the class of the bytes that begin lexemes of a kind; no byte's where a kind has no lexemes
abbrev pub kind_class : Option TokKind → ℕ
kind_class (Some Word) = 0
kind_class (Some Mark) = 0
kind_class (Some Text) = 1
kind_class None = 2
kind_class (Some (Integer value)) = 3
kind_class (Some Blank) = 9
kind_class (Some Caret) = 9
kind_class (Some Char) = 9

word_class : (b : ℕ) → begins_word b ≡ true → class_of b ≡ 0
word_class b h = grind (arith, nat_tests)

pub digit_class : (b : ℕ) → is_digit b ≡ true → class_of b ≡ 3
digit_class b h = grind (arith, nat_tests)

quote_class : (b : ℕ) → is_quote b ≡ true → class_of b ≡ 1
quote_class b h = grind (arith, nat_tests)

blank_class : (b : ℕ) → is_blank b ≡ true → class_of b ≡ 2
blank_class b h = grind (arith, nat_tests)

hash_class : (b : ℕ) → is_hash b ≡ true → class_of b ≡ 2
hash_class b h = grind (arith, nat_tests)

blank_no_hash : (b : ℕ) → is_blank b ≡ true → is_hash b ≡ true → ⊥
blank_no_hash b h k = grind (arith, nat_tests)

abbrev begins_mark : List ℕ → Bool
begins_mark = begins (λ b. nat_eq (class_of b) 0)

marks_begin : (mode : Mode) → list_all begins_mark (marks_of mode) ≡ true
marks_begin Top = refl
marks_begin Head = refl
marks_begin Plain = refl
marks_begin Body = refl
marks_begin Display = refl
marks_begin Pattern = refl

pub class_of_kind : (mode : Mode) (kind : Option TokKind) (front rest : List ℕ) (b : ℕ) (bs : List ℕ) → b ∷ bs ≡ front ++ rest
    → IsCodeLexeme (marks_of mode) kind front rest → class_of b ≡ kind_class kind
class_of_kind mode (Some Word) front rest b bs e h = word_class b (first_passes begins_word b bs front rest e h.0.0)
class_of_kind mode (Some Mark) front rest b bs e h =
    (Decides-eqb (class_of b) 0).0 (front_begins (λ c. nat_eq (class_of c) 0) b bs front rest e (all_pass begins_mark (marks_of mode) front (marks_begin mode) h))
class_of_kind mode (Some Text) front rest b bs e (inside, split, all) =
    quote_class b (first_passes is_quote b bs front rest e (subst (λ (t : List ℕ). BeginsWith is_quote t) (sym split) refl))
class_of_kind mode None front rest b bs e (inl run) = blank_class b (first_passes is_blank b bs front rest e (run_begins is_blank front run))
class_of_kind mode None front rest b bs e (inr comment) = hash_class b (first_passes is_hash b bs front rest e comment.0)
class_of_kind mode (Some (Integer value)) front rest b bs e h = digit_class b (first_passes is_digit b bs front rest e (integer_begins value front h))
class_of_kind mode (Some Blank) front rest b bs e h = absurd h
class_of_kind mode (Some Caret) front rest b bs e h = absurd h
class_of_kind mode (Some Char) front rest b bs e h = absurd h

mark_some : (mark : List ℕ) → begins_mark mark ≡ true → 0 < length mark
mark_some [] h = absurd (cc)
mark_some (b ∷ bs) h = omega arith

-- A lexeme has some bytes.
pub code_some : (mode : Mode) (kind : Option TokKind) (bytes rest : List ℕ) → IsCodeLexeme (marks_of mode) kind bytes rest → 0 < length bytes
code_some mode (Some Word) bytes rest h = begins_some begins_word bytes h.0.0
code_some mode (Some Mark) bytes rest h = mark_some bytes (all_pass begins_mark (marks_of mode) bytes (marks_begin mode) h)
code_some mode (Some Text) bytes rest (inside, split, all) = omega (arith, ap length split)
code_some mode None bytes rest (inl run) = run.0
code_some mode None bytes rest (inr comment) = begins_some is_hash bytes comment.0
code_some mode (Some (Integer value)) bytes rest h = begins_some is_digit bytes (integer_begins value bytes h)
code_some mode (Some Blank) bytes rest h = absurd h
code_some mode (Some Caret) bytes rest h = absurd h
code_some mode (Some Char) bytes rest h = absurd h

only_text : (mode : Mode) (kind : Option TokKind) (front rest : List ℕ) (b : ℕ) (bs : List ℕ) → class_of b ≡ 1 → b ∷ bs ≡ front ++ rest
    → IsCodeLexeme (marks_of mode) kind front rest → IsQuoted front
only_text mode (Some Text) front rest b bs c e h = h
only_text mode kind front rest b bs c e h = let wrong : kind_class kind ≡ 1 = sym (class_of_kind mode kind front rest b bs e h) ∙ c in absurd (omega arith)

pub kept_class : (kind : TokKind) → kind_class (Some kind) ≡ 2 → ⊥
kept_class Word h = omega arith
kept_class Mark h = omega arith
kept_class Text h = omega arith
kept_class (Integer value) h = omega arith
kept_class Blank h = omega arith
kept_class Caret h = omega arith
kept_class Char h = omega arith

only_gap : (mode : Mode) (kind : Option TokKind) (front rest : List ℕ) (b : ℕ) (bs : List ℕ) → class_of b ≡ 2 → b ∷ bs ≡ front ++ rest
    → IsCodeLexeme (marks_of mode) kind front rest → IsSpan is_blank front ⊎ IsComment front
only_gap mode None front rest b bs c e h = h
only_gap mode (Some kind) front rest b bs c e h = absurd (kept_class kind (sym (class_of_kind mode (Some kind) front rest b bs e h) ∙ c))

pub only_integer : (mode : Mode) (kind : Option TokKind) (front rest : List ℕ) (b : ℕ) (bs : List ℕ) → class_of b ≡ 3 → b ∷ bs ≡ front ++ rest
    → IsCodeLexeme (marks_of mode) kind front rest → (value : ℕ) × IsInteger value front
only_integer mode (Some (Integer value)) front rest b bs c e h = (value, h)
only_integer mode kind front rest b bs c e h = let wrong : kind_class kind ≡ 3 = sym (class_of_kind mode kind front rest b bs e h) ∙ c in absurd (omega arith)

pub only_word_or_mark : (mode : Mode) (kind : Option TokKind) (front rest : List ℕ) (b : ℕ) (bs : List ℕ) → class_of b ≡ 0 → b ∷ bs ≡ front ++ rest
    → IsCodeLexeme (marks_of mode) kind front rest → (IsWord front × HasNoDots front rest) ⊎ Contains (marks_of mode) front
only_word_or_mark mode (Some Word) front rest b bs c e h = inl h
only_word_or_mark mode (Some Mark) front rest b bs c e h = inr h
only_word_or_mark mode kind front rest b bs c e h = let wrong : kind_class kind ≡ 0 = sym (class_of_kind mode kind front rest b bs e h) ∙ c in absurd (omega arith)

-- What begins with a quote outside displays is a text.
pub code_text : (mode : Mode) (kind : Option TokKind) (front rest : List ℕ) (b : ℕ) (bs : List ℕ) → is_quote b ≡ true → b ∷ bs ≡ front ++ rest
    → IsCodeLexeme (marks_of mode) kind front rest → IsQuoted front
code_text mode kind front rest b bs h e l = only_text mode kind front rest b bs (quote_class b h) e l

-- A lexeme that none at its place is longer than stands there.
pub stands : (mode : Mode) (kind : Option TokKind) (n : ℕ) (text : List ℕ) → n ≤ length text → IsLexeme mode kind (take n text) (drop n text)
    → ((other : Option TokKind) (front rest : List ℕ) → text ≡ front ++ rest → IsLexeme mode other front rest → length front ≤ n) → StandsAs mode kind n text
stands mode kind n text within lexeme longest = record {
  within = within;
  longest = record {
    lexeme = lexeme;
    longest = λ other front rest e l.
        let short : length front ≤ n = longest other front rest (sym (take-append-drop n text) ∙ e) l in
        omega (arith, length-take-le n text within);
  };
}

blanks_stand : (mode : Mode) (b : ℕ) (bs : List ℕ) (n : ℕ) → (mode ≡ Display → ⊥) → is_blank b ≡ true → n ≡ prefix_len is_blank (b ∷ bs)
    → StandsAs mode None n (b ∷ bs)
blanks_stand mode b bs n outside h e =
    let within : n ≤ length (b ∷ bs) = run_within is_blank (b ∷ bs) n e in
    let some : 0 < n = counts_some is_blank b bs n h e in
    stands mode None n (b ∷ bs) within
    (from_code mode None (take n (b ∷ bs)) (drop n (b ∷ bs)) outside (inl (omega (arith, length-take-le n (b ∷ bs) within), (run_at is_blank (b ∷ bs) n e).0)))
    (λ other front rest f l. elim (only_gap mode other front rest b bs (blank_class b h) f (to_code mode other front rest outside l)) [
      | inl run ↦ omega (arith, e, run_longest is_blank (b ∷ bs) front rest f run.1)
      | inr comment ↦ absurd (blank_no_hash b h (first_passes is_hash b bs front rest f comment.0))
    ])

pub blanks_at : (mode : Mode) (text : List ℕ) (n : ℕ) → (mode ≡ Display → ⊥) → 0 < length text → is_blank (get_or text 0 0) ≡ true
    → n ≡ prefix_len is_blank text → StandsAs mode None n text
blanks_at mode [] n outside some h e = absurd (omega arith)
blanks_at mode (b ∷ bs) n outside some h e = blanks_stand mode b bs n outside h e

hash_in_comment : (b : ℕ) → is_hash b ≡ true → is_comment_byte b ≡ true
hash_in_comment b h = grind (arith, nat_tests)

pub hash_code : (b : ℕ) → b ≡ 35 → is_hash b ≡ true
hash_code b h = grind (arith, nat_tests)

comment_stands : (mode : Mode) (b : ℕ) (bs : List ℕ) (n : ℕ) → (mode ≡ Display → ⊥) → is_hash b ≡ true → n ≡ prefix_len is_comment_byte (b ∷ bs)
    → StandsAs mode None n (b ∷ bs)
comment_stands mode b bs n outside h e =
    let within : n ≤ length (b ∷ bs) = run_within is_comment_byte (b ∷ bs) n e in
    let some : 0 < n = counts_some is_comment_byte b bs n (hash_in_comment b h) e in
    stands mode None n (b ∷ bs) within
    (from_code mode None (take n (b ∷ bs)) (drop n (b ∷ bs)) outside (inr (begins_front is_hash b n bs some h, (run_at is_comment_byte (b ∷ bs) n e).0)))
    (λ other front rest f l. elim (only_gap mode other front rest b bs (hash_class b h) f (to_code mode other front rest outside l)) [
      | inl run ↦ absurd (blank_no_hash b (first_passes is_blank b bs front rest f (run_begins is_blank front run)) h)
      | inr comment ↦ omega (arith, e, run_longest is_comment_byte (b ∷ bs) front rest f comment.1)
    ])

pub comment_at : (mode : Mode) (text : List ℕ) (n : ℕ) → (mode ≡ Display → ⊥) → 0 < length text → is_hash (get_or text 0 0) ≡ true
    → n ≡ prefix_len is_comment_byte text → StandsAs mode None n text
comment_at mode [] n outside some h e = absurd (omega arith)
comment_at mode (b ∷ bs) n outside some h e = comment_stands mode b bs n outside h e
