-- What is shown has no control byte.
use Rattle.std.proofs.Common.{◌≡◌, ℕ, zero, suc, ◌+◌, ◌-◌, ◌<◌, ◌≤◌, ◌^◌, ◌%◌, ◌/◌, Bool, true, false, List, [], ◌∷◌, ◌++◌, length, map, take, drop, max, min, reverse, replicate, refl, sym, ap, subst, ◌∙◌, append-nil, append_assoc, arith}
use Rattle.std.specs.Prelude.{◌==◌, ◌&&◌, codes, if◌then◌else◌, nat_lt}
use Rattle.std.specs.Fmt.{decimal, digit_glyph, digits, digits_onto}
use Rattle.std.specs.List.{list_all, prefix_len}
use Rattle.std.proofs.lemmas.List.Folds.{list_all-append}
use Rattle.sl_explain_lines.specs.Excerpts.{after, before, begins, carets, excerpt, is_in_line, line_of, most as most_of, shown_byte, shown_up_to, under}
use Rattle.sl_explain_lines.specs.FactLines.{column_words, fact_line, line_words, shown_in_name, spot_in, spot_lines}
use Rattle.sl_explain_lines.specs.Laws.{AreLines, SpotsAreLines, WordsAreShown, is_shown}
use Rattle.sl_explain_lines.specs.Laws.AreLines.{line_then, no_line}

abbrev pub AllShown : List ℕ → Type 0
AllShown bytes = list_all is_shown bytes ≡ true

pub all_both : (xs ys : List ℕ) → AllShown xs → AllShown ys → AllShown (xs ++ ys)
all_both xs ys h k = list_all-append is_shown xs ys ∙ ap (λ (b : Bool). b && list_all is_shown ys) h ∙ k

all_map : (f : ℕ → ℕ) → ((b : ℕ) → is_shown (f b) ≡ true) → (bytes : List ℕ) → AllShown (map f bytes)
all_map f h [] = refl
all_map f h (b ∷ bs) = ap (λ (x : Bool). x && list_all is_shown (map f bs)) (h b) ∙ all_map f h bs

all_times : (n b : ℕ) → is_shown b ≡ true → AllShown (replicate n b)
all_times zero b h = refl
all_times (suc n) b h = ap (λ (x : Bool). x && list_all is_shown (replicate n b)) h ∙ all_times n b h

byte_shown : (b : ℕ) → is_shown (shown_byte b) ≡ true
byte_shown b = grind arith

name_shown : (b : ℕ) → is_shown (shown_in_name b) ≡ true
name_shown b = grind arith

digit_shown : (d : ℕ) → d < 16 → is_shown (digit_glyph false d) ≡ true
digit_shown d h = grind (arith, h)

pub all_either : (b : Bool) (xs ys : List ℕ) → AllShown xs → AllShown ys → AllShown (let zs : List ℕ = if b then xs else ys in zs)
all_either true xs ys h k = h
all_either false xs ys h k = k

digits_shown : (base : ℕ) → ((n : ℕ) → n % base < 16) → (rounds n : ℕ) (ds : List ℕ) → AllShown ds
    → AllShown (digits_onto rounds base false n ds)
digits_shown base few zero n ds h = h
digits_shown base few (suc rounds) n ds h =
    let more : List ℕ = digit_glyph false (n % base) ∷ ds in
    let shown : AllShown more = ap (λ (x : Bool). x && list_all is_shown ds) (digit_shown (n % base) (few n)) ∙ h in
    all_either (n / base == 0) more (digits_onto rounds base false (n / base) more) shown
    (digits_shown base few rounds (n / base) more shown)

pub number_shown : (n : ℕ) → AllShown (decimal n)
unfolding digits
number_shown n = digits_shown 10 (λ m. omega arith) 64 n [] refl

pub hex_shown : (n : ℕ) → AllShown (digits 16 false n)
unfolding digits
hex_shown n = digits_shown 16 (λ m. omega arith) 64 n [] refl

-- ---- lines

pub fact_then : (label words rest : List ℕ) → AllShown label → AllShown words → AreLines rest → AreLines (fact_line label words ++ rest)
fact_then label words rest l w r =
    subst AreLines
    (append_assoc label words (10 ∷ rest)
    ∙ sym (append_assoc label (words ++ 10 ∷ []) rest ∙ ap (λ (xs : List ℕ). label ++ xs) (append_assoc words (10 ∷ []) rest)))
    (line_then (label ++ words) rest (all_both label words l w) r)

pub lines_both : (xs ys : List ℕ) → AreLines xs → AreLines ys → AreLines (xs ++ ys)
lines_both _ ys no_line more = more
lines_both _ ys (line_then line rest shown left) more =
    subst AreLines (sym (append_assoc line (10 ∷ rest) ys)) (line_then line (rest ++ ys) shown (lines_both rest ys left more))

pub lines_either : (b : Bool) (xs ys : List ℕ) → AreLines xs → AreLines ys → AreLines (let zs : List ℕ = if b then xs else ys in zs)
lines_either true xs ys h k = h
lines_either false xs ys h k = k

pub last_fact : (label words : List ℕ) → AllShown label → AllShown words → AreLines (fact_line label words)
last_fact label words l w = subst AreLines (append-nil (fact_line label words)) (fact_then label words [] l w no_line)

pub words_shown : WordsAreShown
words_shown = λ most bytes. all_both (map shown_byte (take most bytes)) _ (all_map shown_byte byte_shown (take most bytes)) (all_either (nat_lt most (length bytes)) (codes "..") [] refl refl)

excerpt_shown : (line : List ℕ) (at : ℕ) → AllShown (excerpt line at)
excerpt_shown line at = all_map shown_byte byte_shown (take most_of (drop (begins (length line) at) line))

carets_shown : (bytes at width : ℕ) → AllShown (carets bytes at width)
carets_shown bytes at width =
    all_both (replicate (at - begins bytes at) 32) (under bytes at width) (all_times (at - begins bytes at) 32 refl)
    (all_times (max (min width (most_of - (at - begins bytes at))) 1) 94 refl)

pub line_shown : (file : List ℕ) (line : ℕ) → AllShown (line_words file line)
line_shown file line =
    all_both (map shown_in_name file) (codes ":" ++ decimal line) (all_map shown_in_name name_shown file)
    (all_both (codes ":") (decimal line) refl (number_shown line))

column_shown : (file : List ℕ) (line column : ℕ) → AllShown (column_words file line column)
column_shown file line column =
    all_both (line_words file line) (codes ":" ++ decimal column) (line_shown file line)
    (all_both (codes ":") (decimal column) refl (number_shown column))

abbrev caret_line : List ℕ → (front rest width : ℕ) → List ℕ
caret_line line front rest width = fact_line (codes "        ") (carets (length line) front (min width rest))

abbrev text_lines : List ℕ → (front rest width : ℕ) → List ℕ
text_lines line front rest width = fact_line (codes "  text  ") (excerpt line front) ++ caret_line line front rest width

-- the three lines of a place
spot_is : (file : List ℕ) (number : ℕ) (line : List ℕ) (front rest width : ℕ)
    → AreLines (spot_in file number line front rest width)
unfolding spot_in
spot_is file number line front rest width =
    fact_then (codes "  at    ") (column_words file number (front + 1)) (text_lines line front rest width) refl (column_shown file number (front + 1))
    (fact_then (codes "  text  ") (excerpt line front) (caret_line line front rest width) refl (excerpt_shown line front)
    (last_fact (codes "        ") (carets (length line) front (min width rest)) refl (carets_shown (length line) front (min width rest))))

pub spots : SpotsAreLines
spots = λ file number text byte width. spot_is file number (line_of text byte) (before text byte) (after text byte) width
