-- The terminals of a text are those that its modes give.
use Rattle.std.proofs.Common.{◌≡◌, ℕ, zero, suc, ◌+◌, ◌<◌, ◌≤◌, ◌⊎◌, inl, inr, Bool, true, false, ◌&&◌, ◌==◌, nat_eq, nat_le, List, [], ◌∷◌, ◌++◌, length, length-append, Option, None, Some, refl, ap, sym, ◌∙◌, subst, arith}
use Rattle.std.proofs.lemmas.List.{length-map}
use Rattle.std.specs.List.{list_all}
use Rattle.std.specs.Prelude.{Contains, slice_index_or, codes}
use Rattle.std.specs.Str.{bytes_eq}
use Rattle.std.specs.Cmp.Lexicographic.{same_text}
use Rattle.sl_ast.specs.Spelling.{spell}
use Rattle.sl_ast.specs.Symbols.{Word, plain, quoted, Sym, keyword_of, word_by, word_of}
use Rattle.sl_ast.specs.Trees.{Name, Item}
use Rattle.sl_ast.specs.Validity.{AreItems}
use Rattle.sl_ast.specs.declared.symbols.Keyword.{Keyword}
use Rattle.sl_ast.specs.declared.symbols.Keyword.TheVariants as k
use Rattle.sl_lex.specs.Bytes as b
use Rattle.sl_lex.specs.Lexemes as l
use Rattle.sl_lex.specs.Lexemes.{IsLexeme, IsLongest, IsCodeLexeme}
use Rattle.sl_lex.specs.Marks.{marks_of}
use Rattle.sl_lex.specs.Modes.{led_to, ways_out, next_mode}
use Rattle.sl_lex.specs.Reading.{Token, Piece, Reads, ReadsAs, Fits, mode_after, kept, tokens_of}
use Rattle.sl_lex.specs.declared.TokKind.{TokKind}
use Rattle.sl_lex.specs.declared.TokKind.TheVariants as t
use Rattle.sl_lex.specs.declared.mode.Mode.{Mode}
use Rattle.sl_lex.specs.declared.mode.Mode.TheVariants.{Top, Head, Plain, Body, Display, Pattern}
use Rattle.sl_lex.proofs.ReadingLemmas.{lexeme_some}
use Rattle.sl_parse_terminals.specs.Marks.{mark_of}
use Rattle.sl_parse_terminals.specs.Symbols.{symbol_by, symbol_of, symbols_of}
use Rattle.sl_store_format.specs.Keywords.{keyword_bytes, word_bytes}
use Rattle.sl_store_format.specs.Packed.{AllItemLeaves}
use Rattle.sl_ast.specs.Validity.{Each}
use Rattle.sl_store_bytes.specs.Numbers.{greatest}
use Rattle.sl_store_bytes.specs.Words as w
use Rattle.sl_store_format.proofs.Goods.{and_left, and_right}
use Rattle.sl_store_format.proofs.KeywordLaws.{quoted_of, word_bytes_of}
use Rattle.sl_store.proofs.KindLaws.{kinds_are_lexemes}
use Rattle.sl_store_spelling.specs.Modes.{by_word, by_mark, leads, IsNameIn, IsWordIn, IsGiven, AreGiven, At}
use Rattle.sl_store_spelling.proofs.LeafLaws.{given_items}

-- ---- marks, by the table of each mode

mode_number : Mode → ℕ
mode_number Top = 0
mode_number Head = 1
mode_number Plain = 2
mode_number Body = 3
mode_number Display = 4
mode_number Pattern = 5

same_mode : (m n : Mode) → (mode_number m == mode_number n) ≡ true → m ≡ n
unfolding mode_number
same_mode Top Top e = refl
same_mode Head Head e = refl
same_mode Plain Plain e = refl
same_mode Body Body e = refl
same_mode Display Display e = refl
same_mode Pattern Pattern e = refl
same_mode m n e = absurd (cc)

-- the mark leads where its bytes do
leads_right : Mode → List ℕ → Bool
leads_right mode bytes = mode_number (next_mode mode bytes) == mode_number (by_mark mode (mark_of bytes))

marks_right : (mode : Mode) → list_all (leads_right mode) (marks_of mode) ≡ true
unfolding leads_right mode_number mark_of
marks_right Top = refl
marks_right mode = refl

at_each : (test : List ℕ → Bool) (ms : List (List ℕ)) (i : ℕ) (d : List ℕ) → i < length ms → list_all test ms ≡ true → test (slice_index_or ms i d) ≡ true
at_each test [] i d low all = absurd (omega arith)
at_each test (m ∷ ms) zero d low all = and_left (test m) (list_all test ms) all
at_each test (m ∷ ms) (suc i) d low all = at_each test ms i d (omega arith) (and_right (test m) (list_all test ms) all)

mark_leads : (mode : Mode) (bytes : List ℕ) → Contains (marks_of mode) bytes → next_mode mode bytes ≡ by_mark mode (mark_of bytes)
unfolding leads_right
mark_leads mode bytes (i, low, is) =
    same_mode (next_mode mode bytes) (by_mark mode (mark_of bytes)) (subst (λ (bs : List ℕ). leads_right mode bs ≡ true) is (at_each (leads_right mode) (marks_of mode) i bytes low (marks_right mode)))

-- ---- words

keyword_leads : (mode : Mode) (keyword : Keyword) → next_mode mode (keyword_bytes keyword) ≡ by_word mode (quoted keyword)
keyword_leads Top k.Define = refl
keyword_leads Top keyword = refl
keyword_leads Head k.Define = refl
keyword_leads Head keyword = refl
keyword_leads Plain k.Define = refl
keyword_leads Plain keyword = refl
keyword_leads Body k.Define = refl
keyword_leads Body keyword = refl
keyword_leads Display k.Define = refl
keyword_leads Display keyword = refl
keyword_leads Pattern k.Define = refl
keyword_leads Pattern keyword = refl

-- the bytes are none of those that lead out
abbrev AreUnlike : List ℕ → List (List ℕ × Mode) → Type 0
AreUnlike bytes [] = Unit {0}
AreUnlike bytes (way ∷ ways) = (bytes_eq bytes way.0 ≡ false) × AreUnlike bytes ways

led_nowhere : (ways : List (List ℕ × Mode)) (mode : Mode) (bytes : List ℕ) → AreUnlike bytes ways → led_to ways mode bytes ≡ mode
led_nowhere [] mode bytes unlike = refl
led_nowhere (way ∷ ways) mode bytes unlike = rw unlike.0 (led_nowhere ways mode bytes unlike.1)

-- a name is no keyword
unlike_keyword : (bytes w : List ℕ) (keyword : Keyword) → word_of bytes ≡ plain w → bytes_eq bytes (keyword_bytes keyword) ≡ false
unlike_keyword bytes w keyword e = by (bytes_eq bytes (keyword_bytes keyword)) refl where
  by : (v : Bool) → bytes_eq bytes (keyword_bytes keyword) ≡ v → bytes_eq bytes (keyword_bytes keyword) ≡ false
  by false is = is
  by true is =
      let same : bytes ≡ keyword_bytes keyword = same_text bytes (keyword_bytes keyword) (sym is) in
      let both : plain w ≡ quoted keyword = sym e ∙ ap word_of same ∙ quoted_of keyword in
      absurd (cc)

other_first : (c n : ℕ) → b.begins_word c ≡ true → b.begins_word n ≡ false → nat_eq c n ≡ false
other_first c n on off = by (nat_eq c n) refl where
  by : (v : Bool) → nat_eq c n ≡ v → nat_eq c n ≡ false
  by false is = is
  by true is = let same : c ≡ n = grind arith in let both : true ≡ false = sym on ∙ ap b.begins_word same ∙ off in absurd (cc)

unlike_mark : (bytes : List ℕ) (n : ℕ) → l.IsWord bytes → b.begins_word n ≡ false → bytes_eq bytes (n ∷ []) ≡ false
unlike_mark [] n word off = refl
unlike_mark (c ∷ bytes) n word off = rw (other_first c n word.0 off) refl

name_leads : (mode : Mode) (bytes w : List ℕ) → l.IsWord bytes → word_of bytes ≡ plain w → next_mode mode bytes ≡ mode
name_leads Top bytes w word e =
    led_nowhere (ways_out Top) Top bytes
    (unlike_keyword bytes w k.Define e, (unlike_keyword bytes w k.Attach e, (unlike_keyword bytes w k.Macro e, (unlike_keyword bytes w k.With e, (unlike_mark bytes 58 word refl, tt)))))
name_leads Head bytes w word e = led_nowhere (ways_out Head) Head bytes (unlike_mark bytes 123 word refl, tt)
name_leads Plain bytes w word e = led_nowhere (ways_out Plain) Plain bytes (unlike_mark bytes 59 word refl, tt)
name_leads Body bytes w word e = led_nowhere (ways_out Body) Body bytes (unlike_mark bytes 125 word refl, tt)
name_leads Display bytes w word e = led_nowhere (ways_out Display) Display bytes (unlike_keyword bytes w k.Is e, tt)
name_leads Pattern bytes w word e = led_nowhere (ways_out Pattern) Pattern bytes (unlike_mark bytes 123 word refl, (unlike_keyword bytes w k.Unimpl e, tt))

word_leads : (mode : Mode) (bytes : List ℕ) → l.IsWord bytes → next_mode mode bytes ≡ by_word mode (word_of bytes)
word_leads mode bytes word = by (word_of bytes) refl where
  by : (x : Word) → word_of bytes ≡ x → next_mode mode bytes ≡ by_word mode (word_of bytes)
  by (plain w) is = name_leads mode bytes w word is ∙ ap (by_word mode) (sym is)
  by (quoted keyword) is =
      let same : keyword_bytes keyword ≡ bytes = ap word_bytes (sym is) ∙ word_bytes_of bytes in
      ap (next_mode mode) (sym same) ∙ keyword_leads mode keyword ∙ ap (by_word mode) (sym is)

-- ---- what begins with a digit, a quote or a blank

unlike_low : (c n : ℕ) (bs ns : List ℕ) → c < n → bytes_eq (c ∷ bs) (n ∷ ns) ≡ false
unlike_low c n bs ns low = let off : nat_eq c n ≡ false = grind arith in rw off refl

low_leads : (mode : Mode) (c : ℕ) (bs : List ℕ) → c ≤ 57 → next_mode mode (c ∷ bs) ≡ mode
low_leads Top c bs low =
    led_nowhere (ways_out Top) Top (c ∷ bs)
    (unlike_low c 100 bs _ (omega arith), (unlike_low c 97 bs _ (omega arith), (unlike_low c 109 bs _ (omega arith), (unlike_low c 119 bs _ (omega arith), (unlike_low c 58 bs _ (omega arith), tt)))))
low_leads Head c bs low = led_nowhere (ways_out Head) Head (c ∷ bs) (unlike_low c 123 bs _ (omega arith), tt)
low_leads Plain c bs low = led_nowhere (ways_out Plain) Plain (c ∷ bs) (unlike_low c 59 bs _ (omega arith), tt)
low_leads Body c bs low = led_nowhere (ways_out Body) Body (c ∷ bs) (unlike_low c 125 bs _ (omega arith), tt)
low_leads Display c bs low = led_nowhere (ways_out Display) Display (c ∷ bs) (unlike_low c 105 bs _ (omega arith), tt)
low_leads Pattern c bs low = led_nowhere (ways_out Pattern) Pattern (c ∷ bs) (unlike_low c 123 bs _ (omega arith), (unlike_low c 117 bs _ (omega arith), tt))

digit_low : (c : ℕ) → b.is_digit c ≡ true → c ≤ 57
digit_low c e = let high = and_right (nat_le 48 c) (nat_le c 57) e in grind arith

number_leads : (mode : Mode) (value : ℕ) (bytes : List ℕ) → l.IsInteger value bytes → next_mode mode bytes ≡ mode
number_leads mode value bytes (inl (digits, is, span, value_is)) = by digits is span where
  by : (ds : List ℕ) → bytes ≡ [] ++ ds → l.IsSpan b.is_digit ds → next_mode mode bytes ≡ mode
  by [] same some = absurd (let none = some.0 in omega arith)
  by (c ∷ ds) same some = ap (next_mode mode) same ∙ low_leads mode c ds (digit_low c (and_left (b.is_digit c) (list_all b.is_digit ds) some.1))
number_leads mode value bytes (inr (inl (digits, is, span, value_is))) = ap (next_mode mode) is ∙ low_leads mode 48 (120 ∷ digits) (omega arith)
number_leads mode value bytes (inr (inr (digits, is, span, value_is))) = ap (next_mode mode) is ∙ low_leads mode 48 (98 ∷ digits) (omega arith)

text_leads : (mode : Mode) (bytes : List ℕ) → l.IsQuoted bytes → next_mode mode bytes ≡ mode
text_leads mode bytes (inside, is, all) = ap (next_mode mode) is ∙ low_leads mode 34 (inside ++ 34 ∷ []) (omega arith)

blank_low : (c : ℕ) → b.is_blank c ≡ true → c ≤ 57
blank_low c e = grind arith

blank_leads : (bytes : List ℕ) → l.IsSpan b.is_blank bytes → next_mode Display bytes ≡ Display
blank_leads [] span = absurd (let none = span.0 in omega arith)
blank_leads (c ∷ bytes) span = low_leads Display c bytes (blank_low c (and_left (b.is_blank c) (list_all b.is_blank bytes) span.1))

and_none : (p : Bool) → (p && false) ≡ false
and_none true = refl
and_none false = refl

char_leads : (bytes : List ℕ) → l.IsOne b.is_char bytes → next_mode Display bytes ≡ Display
char_leads [] one = absurd one
char_leads (c ∷ []) one = led_nowhere (ways_out Display) Display (c ∷ []) (and_none (nat_eq c 105), tt)
char_leads (c ∷ d ∷ bytes) one = absurd one

-- ---- a lexeme leads where its terminal does

code_leads : (mode : Mode) (kind : TokKind) (bytes rest : List ℕ) → IsCodeLexeme (marks_of mode) (Some kind) bytes rest → next_mode mode bytes ≡ leads mode (symbol_by kind bytes)
code_leads mode t.Word bytes rest h = word_leads mode bytes h.0
code_leads mode (t.Integer n) bytes rest h = number_leads mode n bytes h
code_leads mode t.Text bytes rest h = text_leads mode bytes h
code_leads mode t.Mark bytes rest h = mark_leads mode bytes h
code_leads mode t.Blank bytes rest h = absurd h
code_leads mode t.Caret bytes rest h = absurd h
code_leads mode t.Char bytes rest h = absurd h

display_leads : (kind : TokKind) (bytes : List ℕ) → l.IsDisplayLexeme (Some kind) bytes → next_mode Display bytes ≡ leads Display (symbol_by kind bytes)
display_leads t.Word bytes h = word_leads Display bytes h
display_leads (t.Integer n) bytes h = absurd h
display_leads t.Text bytes h = text_leads Display bytes h
display_leads t.Mark bytes h = absurd h
display_leads t.Blank bytes h = blank_leads bytes h
display_leads t.Caret bytes h = ap (next_mode Display) h
display_leads t.Char bytes h = char_leads bytes h

token_leads : (mode : Mode) (kind : TokKind) (bytes rest : List ℕ) → IsLexeme mode (Some kind) bytes rest → next_mode mode bytes ≡ leads mode (symbol_by kind bytes)
token_leads Display kind bytes rest h = display_leads kind bytes h
token_leads Top kind bytes rest h = code_leads Top kind bytes rest h
token_leads Head kind bytes rest h = code_leads Head kind bytes rest h
token_leads Plain kind bytes rest h = code_leads Plain kind bytes rest h
token_leads Body kind bytes rest h = code_leads Body kind bytes rest h
token_leads Pattern kind bytes rest h = code_leads Pattern kind bytes rest h

-- ---- a lexeme's terminal is one that its mode gives

-- bytes without three dots have none where nothing follows
no_dots : (bytes rest : List ℕ) → l.begins_with_dots (bytes ++ rest) ≡ false → l.begins_with_dots (bytes ++ []) ≡ false
no_dots [] rest h = refl
no_dots (x ∷ []) rest h = and_none (nat_eq 46 x)
no_dots (x ∷ y ∷ []) rest h = by (nat_eq 46 x) (nat_eq 46 y) where
  by : (p q : Bool) → (p && (q && false)) ≡ false
  by true q = and_none q
  by false q = refl
no_dots (x ∷ y ∷ z ∷ bytes) rest h = h

no_dots_after : (bytes rest : List ℕ) → l.HasNoDots bytes rest → l.HasNoDots bytes []
no_dots_after [] rest h = tt
no_dots_after (c ∷ bytes) rest h = (no_dots (c ∷ bytes) rest h.0, no_dots_after bytes rest h.1)

no_keyword : (bytes w : List ℕ) → word_of bytes ≡ plain w → (w ≡ bytes) × (keyword_of bytes ≡ None)
unfolding word_of
no_keyword bytes w e = by (keyword_of bytes) e where
  by : (o : Option Keyword) → word_by o bytes ≡ plain w → (w ≡ bytes) × (o ≡ None)
  by None is = (cc, refl)
  by (Some keyword) is = absurd (cc)

word_given : (mode : Mode) (bytes : List ℕ) → ((keyword_of bytes ≡ None) → IsNameIn mode bytes) → IsWordIn mode (word_of bytes)
word_given mode bytes named = by (word_of bytes) refl where
  by : (x : Word) → word_of bytes ≡ x → IsWordIn mode x
  by (plain w) is = let both = no_keyword bytes w is in subst (IsNameIn mode) (sym both.0) (named both.1)
  by (quoted keyword) is = tt

code_given : (mode : Mode) (marks : List (List ℕ)) (kind : TokKind) (bytes rest : List ℕ) → ((name : Name) → w.IsName name → IsNameIn mode name) → IsCodeLexeme marks (Some kind) bytes rest
    → Fits (Some kind) → length bytes ≤ greatest → IsGiven mode (symbol_by kind bytes)
code_given mode marks t.Word bytes rest named h fits low =
    word_given mode bytes (λ none. named bytes ((kinds_are_lexemes.words bytes).1 ((h.0, no_dots_after bytes rest h.1), low), none))
code_given mode marks (t.Integer n) bytes rest named h fits low = (let small : n < 18446744073709551616 = fits in omega arith)
code_given mode marks t.Text bytes rest named h fits low = (kinds_are_lexemes.texts bytes).1 (h, low)
code_given mode marks t.Mark bytes rest named h fits low = tt
code_given mode marks t.Blank bytes rest named h fits low = absurd h
code_given mode marks t.Caret bytes rest named h fits low = absurd h
code_given mode marks t.Char bytes rest named h fits low = absurd h

display_given : (kind : TokKind) (bytes : List ℕ) → l.IsDisplayLexeme (Some kind) bytes → length bytes ≤ greatest → IsGiven Display (symbol_by kind bytes)
display_given t.Word bytes h low = word_given Display bytes (λ none. ((kinds_are_lexemes.display_words bytes).1 (h, low), none))
display_given (t.Integer n) bytes h low = absurd h
display_given t.Text bytes h low = (kinds_are_lexemes.display_texts bytes).1 (h, low)
display_given t.Mark bytes h low = absurd h
display_given t.Blank bytes h low = (kinds_are_lexemes.blanks bytes).1 (h, low)
display_given t.Caret bytes h low = (kinds_are_lexemes.carets bytes).1 (h, low)
display_given t.Char bytes h low = (kinds_are_lexemes.chars bytes).1 (h, low)

token_given : (mode : Mode) (kind : TokKind) (bytes rest : List ℕ) → IsLexeme mode (Some kind) bytes rest → Fits (Some kind) → length bytes ≤ greatest → IsGiven mode (symbol_by kind bytes)
token_given Display kind bytes rest h fits low = display_given kind bytes h low
token_given Top kind bytes rest h fits low = code_given Top (marks_of Top) kind bytes rest (λ name is. is) h fits low
token_given Head kind bytes rest h fits low = code_given Head (marks_of Head) kind bytes rest (λ name is. is) h fits low
token_given Plain kind bytes rest h fits low = code_given Plain (marks_of Plain) kind bytes rest (λ name is. is) h fits low
token_given Body kind bytes rest h fits low = code_given Body (marks_of Body) kind bytes rest (λ name is. is) h fits low
token_given Pattern kind bytes rest h fits low = code_given Pattern (marks_of Pattern) kind bytes rest (λ name is. is) h fits low

-- ---- whole texts

kept_given : (mode : Mode) (kind : Option TokKind) (p : Piece) (rest : List ℕ) (ts : List Token) → IsLongest mode kind p.text rest → Fits kind → length p.text ≤ greatest
    → AreGiven (mode_after mode kind p.text) (symbols_of ts) → AreGiven mode (symbols_of (kept kind p ts))
kept_given mode None p rest ts longest fits low more = more
kept_given mode (Some kind) p rest ts longest fits low more = (
  token_given mode kind p.text rest longest.lexeme fits low,
  subst (λ (here : Mode). AreGiven here (symbols_of ts)) (token_leads mode kind p.text rest longest.lexeme) more,
)

one_kept : (kind : Option TokKind) (p : Piece) (ts : List Token) → length (kept kind p ts) ≤ 1 + length ts
one_kept None p ts = omega arith
one_kept (Some kind) p ts = omega arith

-- a text has no more tokens than bytes
few_tokens : (mode : Mode) (from : ℕ) (text : List ℕ) (ps : List Piece) → Reads mode from text ps None → length (tokens_of ps) ≤ length text
few_tokens mode from text [] reads = omega arith
few_tokens mode from text (p ∷ ps) (rest, here, later) =
    let lengths : length text ≡ length p.text + length rest = ap length here.split ∙ length-append p.text rest in
    let some : 0 < length p.text = lexeme_some mode p.kind p.text rest here.longest.lexeme in
    let fewer = few_tokens (mode_after mode p.kind p.text) (from + length p.text) rest ps later in
    omega (arith, lengths, some, fewer, one_kept p.kind p (tokens_of ps))

pieces_given : (mode : Mode) (from : ℕ) (text : List ℕ) (ps : List Piece) → Reads mode from text ps None → length text ≤ greatest → AreGiven mode (symbols_of (tokens_of ps))
pieces_given mode from text [] reads low = tt
pieces_given mode from text (p ∷ ps) (rest, here, later) low =
    let lengths : length text ≡ length p.text + length rest = ap length here.split ∙ length-append p.text rest in
    kept_given mode p.kind p rest (tokens_of ps) here.longest here.fits (omega (arith, lengths))
    (pieces_given (mode_after mode p.kind p.text) (from + length p.text) rest ps later (omega (arith, lengths)))

pub read_items : (text : List ℕ) (tokens : List Token) (items : List Item) → ReadsAs text tokens → length text ≤ greatest → symbols_of tokens ≡ spell items → AreItems items
    → (length items ≤ greatest) × Each AllItemLeaves items
read_items text tokens items (pieces, reads, are) low spelled formed =
    let given = pieces_given Top 0 text pieces reads low in
    let few = few_tokens Top 0 text pieces reads in
    let many : length (symbols_of (tokens_of pieces)) ≡ length (tokens_of pieces) = length-map (tokens_of pieces) symbol_of in
    let at : At Top (symbols_of (tokens_of pieces)) = record { given = given; low = omega (arith, few, many) } in
    given_items items formed (subst (λ (ss : List Sym). At Top ss) (ap symbols_of are ∙ spelled) at)
