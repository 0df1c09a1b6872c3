-- Which lexeme stands at the front of a text in a display.
use Rattle.std.proofs.Common.{◌≡◌, ℕ, ◌<◌, ◌≤◌, Bool, true, false, List, [], ◌∷◌, ◌++◌, length, get_or, arith, refl, ap, sym, ◌∙◌, subst, Option, Some, None}
use Rattle.std.specs.Prelude.{if◌then◌else◌}
use Rattle.std.specs.List.{prefix_len}
use Rattle.std.proofs.lemmas.Bool.Decides.{nat_tests}
use Rattle.std.proofs.lemmas.List.{length-take-le}
use Rattle.sl_lex.specs.Bytes.{is_blank, is_quote, is_caret, is_char, begins_word, is_word_byte}
use Rattle.sl_lex.specs.Found.{StandsAs}
use Rattle.sl_lex.specs.Lexemes.{BeginsWith, IsSpan, IsOne, IsWord, IsQuoted, IsDisplayLexeme, HasNoLexeme}
use Rattle.sl_lex.specs.declared.mode.Mode.TheVariants.{Display}
use Rattle.sl_lex.specs.declared.TokKind.{TokKind}
use Rattle.sl_lex.specs.declared.TokKind.TheVariants.{Word, Integer, Text, Mark, Blank, Caret, Char}
use Rattle.sl_lex.proofs.CodeLemmas.{stands}
use Rattle.sl_lex.proofs.RunLemmas.{first_passes, run_at, run_longest, run_begins, run_within, begins_front, begins_some, counts_some}

-- the kind of lexeme that a byte begins, as a number
abbrev pub display_class : ℕ → ℕ
display_class b =
    if is_quote b then 1 else if is_blank b then 2 else if begins_word b then 3 else if is_caret b then 4 else if is_char b then 5 else 0

abbrev pub display_kind : Option TokKind → ℕ
display_kind (Some Text) = 1
display_kind (Some Blank) = 2
display_kind (Some Word) = 3
display_kind (Some Caret) = 4
display_kind (Some Char) = 5
display_kind (Some Mark) = 9
display_kind (Some (Integer value)) = 9
display_kind None = 9

quote_is : (b : ℕ) → is_quote b ≡ true → display_class b ≡ 1
quote_is b h = grind (arith, nat_tests)

blank_is : (b : ℕ) → is_blank b ≡ true → display_class b ≡ 2
blank_is b h = grind (arith, nat_tests)

word_is : (b : ℕ) → begins_word b ≡ true → display_class b ≡ 3
word_is b h = grind (arith, nat_tests)

caret_is : (b : ℕ) → is_caret b ≡ true → display_class b ≡ 4
caret_is b h = grind (arith, nat_tests)

char_is : (b : ℕ) → is_char b ≡ true → display_class b ≡ 5
char_is b h = grind (arith, nat_tests)

one_begins : (test : ℕ → Bool) (bytes : List ℕ) → IsOne test bytes → BeginsWith test bytes
one_begins test [] h = absurd h
one_begins test (b ∷ []) h = h
one_begins test (b ∷ c ∷ cs) h = absurd h

one_long : (test : ℕ → Bool) (bytes : List ℕ) → IsOne test bytes → length bytes ≡ 1
one_long test [] h = absurd h
one_long test (b ∷ []) h = refl
one_long test (b ∷ c ∷ cs) h = absurd h

pub display_class_of_kind : (kind : Option TokKind) (front rest : List ℕ) (b : ℕ) (bs : List ℕ) → b ∷ bs ≡ front ++ rest → IsDisplayLexeme kind front
    → display_class b ≡ display_kind kind
display_class_of_kind (Some Text) front rest b bs e (inside, split, all) =
    quote_is b (first_passes is_quote b bs front rest e (subst (λ (t : List ℕ). BeginsWith is_quote t) (sym split) refl))
display_class_of_kind (Some Blank) front rest b bs e h = blank_is b (first_passes is_blank b bs front rest e (run_begins is_blank front h))
display_class_of_kind (Some Word) front rest b bs e h = word_is b (first_passes begins_word b bs front rest e h.0)
display_class_of_kind (Some Caret) front rest b bs e h =
    caret_is b (first_passes is_caret b bs front rest e (subst (λ (t : List ℕ). BeginsWith is_caret t) (sym h) refl))
display_class_of_kind (Some Char) front rest b bs e h = char_is b (first_passes is_char b bs front rest e (one_begins is_char front h))
display_class_of_kind (Some Mark) front rest b bs e h = absurd h
display_class_of_kind (Some (Integer value)) front rest b bs e h = absurd h
display_class_of_kind None front rest b bs e h = absurd h

-- A lexeme has some bytes.
pub display_some : (kind : Option TokKind) (bytes : List ℕ) → IsDisplayLexeme kind bytes → 0 < length bytes
display_some (Some Text) bytes (inside, split, all) = omega (arith, ap length split)
display_some (Some Blank) bytes h = h.0
display_some (Some Word) bytes h = begins_some begins_word bytes h.0
display_some (Some Caret) bytes h = omega (arith, ap length h)
display_some (Some Char) bytes h = begins_some is_char bytes (one_begins is_char bytes h)
display_some (Some Mark) bytes h = absurd h
display_some (Some (Integer value)) bytes h = absurd h
display_some None bytes h = absurd h

-- What begins with a quote in a display is a text.
pub display_text : (kind : Option TokKind) (front rest : List ℕ) (b : ℕ) (bs : List ℕ) → is_quote b ≡ true → b ∷ bs ≡ front ++ rest
    → IsDisplayLexeme kind front → IsQuoted front
display_text (Some Text) front rest b bs c e h = h
display_text kind front rest b bs c e h = let wrong : display_kind kind ≡ 1 = sym (display_class_of_kind kind front rest b bs e h) ∙ quote_is b c in absurd (omega arith)

only_blank : (kind : Option TokKind) (front rest : List ℕ) (b : ℕ) (bs : List ℕ) → is_blank b ≡ true → b ∷ bs ≡ front ++ rest
    → IsDisplayLexeme kind front → IsSpan is_blank front
only_blank (Some Blank) front rest b bs c e h = h
only_blank kind front rest b bs c e h = let wrong : display_kind kind ≡ 2 = sym (display_class_of_kind kind front rest b bs e h) ∙ blank_is b c in absurd (omega arith)

only_word : (kind : Option TokKind) (front rest : List ℕ) (b : ℕ) (bs : List ℕ) → begins_word b ≡ true → b ∷ bs ≡ front ++ rest
    → IsDisplayLexeme kind front → IsWord front
only_word (Some Word) front rest b bs c e h = h
only_word kind front rest b bs c e h = let wrong : display_kind kind ≡ 3 = sym (display_class_of_kind kind front rest b bs e h) ∙ word_is b c in absurd (omega arith)

only_caret : (kind : Option TokKind) (front rest : List ℕ) (b : ℕ) (bs : List ℕ) → is_caret b ≡ true → b ∷ bs ≡ front ++ rest
    → IsDisplayLexeme kind front → length front ≡ 1
only_caret (Some Caret) front rest b bs c e h = ap length h
only_caret kind front rest b bs c e h = let wrong : display_kind kind ≡ 4 = sym (display_class_of_kind kind front rest b bs e h) ∙ caret_is b c in absurd (omega arith)

only_char : (kind : Option TokKind) (front rest : List ℕ) (b : ℕ) (bs : List ℕ) → is_char b ≡ true → b ∷ bs ≡ front ++ rest
    → IsDisplayLexeme kind front → length front ≡ 1
only_char (Some Char) front rest b bs c e h = one_long is_char front h
only_char kind front rest b bs c e h = let wrong : display_kind kind ≡ 5 = sym (display_class_of_kind kind front rest b bs e h) ∙ char_is b c in absurd (omega arith)

pub blank_token_at : (text : List ℕ) (n : ℕ) → 0 < length text → is_blank (get_or text 0 0) ≡ true → n ≡ prefix_len is_blank text
    → StandsAs Display (Some Blank) n text
blank_token_at [] n some h e = absurd (omega arith)
blank_token_at (b ∷ bs) n some h e =
    let within : n ≤ length (b ∷ bs) = run_within is_blank (b ∷ bs) n e in
    let more : 0 < n = counts_some is_blank b bs n h e in
    stands Display (Some Blank) n (b ∷ bs) within (omega (arith, length-take-le n (b ∷ bs) within), (run_at is_blank (b ∷ bs) n e).0)
    (λ other front rest f l. omega (arith, e, run_longest is_blank (b ∷ bs) front rest f (only_blank other front rest b bs h f l).1))

begins_goes_on : (b : ℕ) → begins_word b ≡ true → is_word_byte b ≡ true
begins_goes_on b h = grind (arith, nat_tests)

pub display_word_at : (text : List ℕ) (n : ℕ) → 0 < length text → begins_word (get_or text 0 0) ≡ true → n ≡ prefix_len is_word_byte text
    → StandsAs Display (Some Word) n text
display_word_at [] n some h e = absurd (omega arith)
display_word_at (b ∷ bs) n some h e =
    let within : n ≤ length (b ∷ bs) = run_within is_word_byte (b ∷ bs) n e in
    let more : 0 < n = counts_some is_word_byte b bs n (begins_goes_on b h) e in
    stands Display (Some Word) n (b ∷ bs) within (begins_front begins_word b n bs more h, (run_at is_word_byte (b ∷ bs) n e).0)
    (λ other front rest f l. omega (arith, e, run_longest is_word_byte (b ∷ bs) front rest f (only_word other front rest b bs h f l).1))

caret_code : (b : ℕ) → is_caret b ≡ true → b ≡ 94
caret_code b h = grind (arith, nat_tests)

pub caret_passes : (b : ℕ) → b ≡ 94 → is_caret b ≡ true
caret_passes b h = grind (arith, nat_tests)

pub caret_fails : (b : ℕ) → (b ≡ 94 → ⊥) → is_caret b ≡ false
caret_fails b h = grind (arith, nat_tests)

pub caret_at : (text : List ℕ) → 0 < length text → is_caret (get_or text 0 0) ≡ true → StandsAs Display (Some Caret) 1 text
caret_at [] some h = absurd (omega arith)
caret_at (b ∷ bs) some h =
    stands Display (Some Caret) 1 (b ∷ bs) (omega arith) (ap (λ (x : ℕ). x ∷ []) (caret_code b h))
    (λ other front rest f l. omega (arith, only_caret other front rest b bs h f l))

pub char_at : (text : List ℕ) → 0 < length text → is_char (get_or text 0 0) ≡ true → StandsAs Display (Some Char) 1 text
char_at [] some h = absurd (omega arith)
char_at (b ∷ bs) some h =
    stands Display (Some Char) 1 (b ∷ bs) (omega arith) h
    (λ other front rest f l. omega (arith, only_char other front rest b bs h f l))

none_passes : (q s w c h : Bool) → q ≡ false → s ≡ false → w ≡ false → c ≡ false → h ≡ false
    → ◌≡◌ {A = ℕ} (if q then 1 else if s then 2 else if w then 3 else if c then 4 else if h then 5 else 0) 0
none_passes q s w c h e f g i j = rw (e, f, g, i, j) refl

class_none : (b : ℕ) → is_quote b ≡ false → is_blank b ≡ false → begins_word b ≡ false → is_caret b ≡ false → is_char b ≡ false → display_class b ≡ 0
class_none b q s w c h = none_passes (is_quote b) (is_blank b) (begins_word b) (is_caret b) (is_char b) q s w c h

kind_some : (kind : Option TokKind) → 0 ≡ display_kind kind → ⊥
kind_some (Some Text) h = omega arith
kind_some (Some Blank) h = omega arith
kind_some (Some Word) h = omega arith
kind_some (Some Caret) h = omega arith
kind_some (Some Char) h = omega arith
kind_some (Some Mark) h = omega arith
kind_some (Some (Integer value)) h = omega arith
kind_some None h = omega arith

none_of_kind : (kind : Option TokKind) (front rest : List ℕ) (b : ℕ) (bs : List ℕ) → display_class b ≡ 0 → b ∷ bs ≡ front ++ rest → IsDisplayLexeme kind front → ⊥
none_of_kind kind front rest b bs c e h =
    let wrong : 0 ≡ display_kind kind = sym c ∙ display_class_of_kind kind front rest b bs e h in
    kind_some kind wrong

pub nothing_in_display : (text : List ℕ) → 0 < length text → is_quote (get_or text 0 0) ≡ false → is_blank (get_or text 0 0) ≡ false → begins_word (get_or text 0 0) ≡ false
    → is_caret (get_or text 0 0) ≡ false → is_char (get_or text 0 0) ≡ false → HasNoLexeme Display text
nothing_in_display [] some q s w c h = absurd (omega arith)
nothing_in_display (b ∷ bs) some q s w c h = λ kind front rest e l. none_of_kind kind front rest b bs (class_none b q s w c h) e l
