-- Each name that a text has is UTF-8.
use Rattle.std.proofs.Common.{◌≡◌, ℕ, ◌^◌, ◌<◌, ◌≤◌, Bool, true, false, ◌||◌, List, [], ◌∷◌, All, Some, Option, None, refl, sym, subst, length, slice_get, arith}
use Rattle.std.specs.List.{list_all}
use Rattle.std.specs.Prelude.{nat_le, ◌==◌}
use Rattle.std.specs.Str.{IsUtf8}
use Rattle.std.proofs.lemmas.Bool.{leb-true}
use Rattle.std.proofs.lemmas.Bool.Decides.{nat_tests}
use Rattle.std.proofs.lemmas.List.Elements.{All-nil, All-cons, All-get_or}
use Rattle.std.proofs.lemmas.Option.{get_or_from_slice_get, slice_get_within}
use Rattle.std.proofs.lemmas.Str.{IsUtf8-from_ascii}
use Rattle.std.proofs.lemmas.Str.Ascii.{IsAscii-from_all}
use Rattle.sl_ast.specs.Spelling.{name, spell}
use Rattle.sl_ast.specs.Symbols.{Sym, keyword_of, plain, word_by, word_of}
use Rattle.sl_ast.specs.Trees.{Item}
use Rattle.sl_ast.specs.declared.symbols.Keyword.{Keyword}
use Rattle.sl_faithful_places.specs.Laws.{IsText, NamesAreTexts}
use Rattle.sl_faithful_accepted.proofs.Flats.{of_map}
use Rattle.sl_lex.specs.Bytes.{begins_word, is_between, is_digit, is_letter, is_word_byte}
use Rattle.sl_lex.specs.Laws.{IsSliceOf, IsSomeLexeme}
use Rattle.sl_lex.specs.Reading.{ReadsAs, Token}
use Rattle.sl_lex.specs.declared.TokKind.{TokKind}
use Rattle.sl_lex.specs.declared.TokKind.TheVariants.{Word, Integer, Text, Mark, Blank, Caret, Char}
use Rattle.sl_lex.proofs.KindLemmas.{lexemes, word_of as word_bytes}
use Rattle.sl_lex.proofs.RunLemmas.{both_true}
use Rattle.sl_lex.proofs.SliceLemmas.{slices}
use Rattle.sl_outside.specs.Folder.{size_limit}
use Rattle.sl_parse_terminals.specs.Symbols.{symbol_by, symbol_of, symbols_of}

-- ---- the bytes of words

one_of : {P : Type 0} (p q : Bool) → (p || q) ≡ true → (p ≡ true → P) → (q ≡ true → P) → P
one_of true q h f g = f refl
one_of false q h f g = g h

between : (low high b : ℕ) → is_between low high b ≡ true → b ≤ high
between low high b h = leb-true b high (both_true (nat_le low b) (nat_le b high) h).1

same : (b c : ℕ) → (b == c) ≡ true → b ≡ c
same b c h = grind (arith, nat_tests)

small : (b : ℕ) → is_word_byte b ≡ true → b < 128
small b h =
    one_of (begins_word b) (is_digit b) h
    (λ begins. one_of (is_letter b) (b == 46) begins
    (λ letter. one_of (is_between 65 90 b || is_between 97 122 b) (b == 95) letter
    (λ case. one_of (is_between 65 90 b) (is_between 97 122 b) case (λ upper. omega (arith, between 65 90 b upper)) (λ lower. omega (arith, between 97 122 b lower)))
    (λ line. omega (arith, same b 95 line)))
    (λ dot. omega (arith, same b 46 dot)))
    (λ digit. omega (arith, between 48 57 b digit))

all_small : (bs : List ℕ) → list_all is_word_byte bs ≡ true → All (λ (b : ℕ). b < 128) bs
all_small [] h = All-nil (λ (b : ℕ). b < 128)
all_small (b ∷ bs) h =
    let both = both_true (is_word_byte b) (list_all is_word_byte bs) h in
    All-cons (λ (b : ℕ). b < 128) b bs (small b both.0) (all_small bs both.1)

is_text : (bs : List ℕ) → list_all is_word_byte bs ≡ true → IsUtf8 bs
is_text bs h = IsUtf8-from_ascii bs (IsAscii-from_all bs (all_small bs h))

-- ---- the tokens that are names

plain_by : (o : Option Keyword) (bytes w : List ℕ) → word_by o bytes ≡ plain w → bytes ≡ w
plain_by None bytes w e = cc
plain_by (Some keyword) bytes w e = absurd (cc)

named_by : (kind : TokKind) (bytes w : List ℕ) → symbol_by kind bytes ≡ name w → (kind ≡ Word) × (bytes ≡ w)
unfolding word_of
named_by Word bytes w e = let is : word_by (keyword_of bytes) bytes ≡ plain w = cc in (refl, plain_by (keyword_of bytes) bytes w is)
named_by (Integer n) bytes w e = absurd (cc)
named_by Text bytes w e = absurd (cc)
named_by Mark bytes w e = absurd (cc)
named_by Blank bytes w e = absurd (cc)
named_by Caret bytes w e = absurd (cc)
named_by Char bytes w e = absurd (cc)

at_place : {X : Type 0} (P : X → Type 0) (xs : List X) (k : ℕ) (x : X) → All P xs → slice_get xs k ≡ Some x → P x
at_place P xs k x each e = subst P (get_or_from_slice_get xs k x x e) (All-get_or P xs k x (slice_get_within xs k x e) each)

module _ (text : List ℕ) (tokens : List Token) (small_text : length text ≤ size_limit) (reads : ReadsAs text tokens) where
  named_at : (k : ℕ) (w : List ℕ) (t : Token) → slice_get tokens k ≡ Some t → symbol_of t ≡ name w → IsText w
  named_at k w t at is =
      let named = named_by t.kind t.text w is in
      let slice : IsSliceOf text t = at_place (IsSliceOf text) tokens k t (slices text tokens None reads).0 at in
      let word = word_bytes t (at_place IsSomeLexeme tokens k t (lexemes text tokens None reads) at) named.0 in
      let short : length t.text < 2 ^ 63 = omega (arith, slice.within, small_text) in
      subst IsText named.1 (is_text t.text word.1, short)

  pub names_are_texts : (items : List Item) → symbols_of tokens ≡ spell items → NamesAreTexts items
  names_are_texts items spelled = λ k w e.
      let at = of_map symbol_of tokens k (name w) (subst (λ (symbols : List Sym). slice_get symbols k ≡ Some (name w)) (sym spelled) e) in
      named_at k w at.0 at.1 at.2
