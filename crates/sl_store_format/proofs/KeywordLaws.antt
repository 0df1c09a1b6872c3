-- Words and their bytes.
use Rattle.std.proofs.Common.{◌≡◌, ℕ, zero, suc, ◌≤◌, ◌&&◌, ◌==◌, nat_le, Bool, true, false, cond, List, [], ◌∷◌, length, Option, None, Some, refl, ap, sym, ◌∙◌, subst, arith}
use Rattle.sl_ast.specs.Symbols.{Word, plain, quoted, same_bytes, find, keywords, keyword_of, word_by, word_of}
use Rattle.sl_ast.specs.Validity as v
use Rattle.sl_ast.specs.declared.symbols.Keyword.{Keyword}
use Rattle.sl_ast.specs.declared.symbols.Keyword.TheVariants as k
use Rattle.sl_store_format.specs.Constructors.{ShownWordLeaves}
use Rattle.sl_store_format.specs.Definitions.{WordLeaves}
use Rattle.sl_store_format.specs.Keywords.{keyword_bytes, word_bytes}
use Rattle.sl_store_bytes.specs.Lexemes.{Follow, Follows, IsRead, put_after}
use Rattle.sl_store_bytes.specs.Lists.{AreGood}
use Rattle.sl_store_bytes.specs.Numbers.{greatest}
use Rattle.sl_store_bytes.specs.Words as w
use Rattle.sl_store_format.proofs.Goods.{and_left, and_right, true_le}

keyword_back : (keyword : Keyword) → keyword_of (keyword_bytes keyword) ≡ Some keyword
unfolding keyword_of
keyword_back k.Define = refl
keyword_back keyword = refl

-- ---- the bytes of a keyword are those that make it one

same_true : (as' bs : List ℕ) → same_bytes as' bs ≡ true → as' ≡ bs
same_true [] [] e = refl
same_true [] (b ∷ bs) e = absurd (cc)
same_true (a ∷ as') [] e = absurd (cc)
same_true (a ∷ as') (b ∷ bs) e =
    let first : a ≡ b = byte_same a b (and_left (a == b) (same_bytes as' bs) e) in
    let others = same_true as' bs (and_right (a == b) (same_bytes as' bs) e) in
    ap (λ c. c ∷ as') first ∙ ap (λ cs. b ∷ cs) others where
      byte_same : (a b : ℕ) → (a == b) ≡ true → a ≡ b
      byte_same a b h = grind arith

rows_are : List (List ℕ × Keyword) → Bool
rows_are [] = true
rows_are (row ∷ rows) = same_bytes (keyword_bytes row.1) row.0 && rows_are rows

found_by : (bytes : List ℕ) (row : List ℕ × Keyword) (others : Option Keyword) (t : Bool) → same_bytes bytes row.0 ≡ t → (keyword : Keyword) → cond t (Some row.1) others ≡ Some keyword
    → same_bytes (keyword_bytes row.1) row.0 ≡ true → (others ≡ Some keyword → keyword_bytes keyword ≡ bytes) → keyword_bytes keyword ≡ bytes
found_by bytes row others true same keyword e right later =
    let it : row.1 ≡ keyword = cc in
    ap keyword_bytes (sym it) ∙ same_true (keyword_bytes row.1) row.0 right ∙ sym (same_true bytes row.0 same)
found_by bytes row others false same keyword e right later = later e

found : (bytes : List ℕ) (rows : List (List ℕ × Keyword)) (keyword : Keyword) → rows_are rows ≡ true → find bytes rows ≡ Some keyword → keyword_bytes keyword ≡ bytes
unfolding rows_are
found bytes [] keyword right e = absurd (cc)
found bytes (row ∷ rows) keyword right e =
    found_by bytes row (find bytes rows) (same_bytes bytes row.0) refl keyword e (and_left (same_bytes (keyword_bytes row.1) row.0) (rows_are rows) right)
    (found bytes rows keyword (and_right (same_bytes (keyword_bytes row.1) row.0) (rows_are rows) right))

bytes_back : (bytes : List ℕ) (keyword : Keyword) → keyword_of bytes ≡ Some keyword → keyword_bytes keyword ≡ bytes
unfolding keyword_of rows_are
bytes_back bytes keyword e = found bytes keywords keyword refl e

word_by_bytes : (bytes : List ℕ) (o : Option Keyword) → keyword_of bytes ≡ o → word_bytes (word_by o bytes) ≡ bytes
word_by_bytes bytes None e = refl
word_by_bytes bytes (Some keyword) e = bytes_back bytes keyword e

pub word_bytes_of : (bytes : List ℕ) → word_bytes (word_of bytes) ≡ bytes
unfolding word_of
word_bytes_of bytes = word_by_bytes bytes (keyword_of bytes) refl

pub plain_of : (bytes : List ℕ) → keyword_of bytes ≡ None → word_of bytes ≡ plain bytes
unfolding word_of
plain_of bytes e = ap (λ o. word_by o bytes) e

pub quoted_of : (keyword : Keyword) → word_of (keyword_bytes keyword) ≡ quoted keyword
unfolding word_of
quoted_of keyword = ap (λ o. word_by o (keyword_bytes keyword)) (keyword_back keyword)

-- ---- the bytes of each keyword are a word

runs : Follow → ℕ → List ℕ → List ℕ → Bool
runs follow zero before [] = true
runs follow zero before (b ∷ bytes) = false
runs follow (suc n) before [] = false
runs follow (suc n) before (b ∷ bytes) = follow n before b && runs follow n (put_after before b) bytes

runs_good : (follow : Follow) (n : ℕ) (before bytes : List ℕ) → runs follow n before bytes ≡ true → AreGood (Follows follow) put_after n before bytes
unfolding runs
runs_good follow zero before [] e = tt
runs_good follow zero before (b ∷ bytes) e = absurd (cc)
runs_good follow (suc n) before [] e = absurd (cc)
runs_good follow (suc n) before (b ∷ bytes) e =
    (and_left (follow n before b) (runs follow n (put_after before b) bytes) e, runs_good follow n (put_after before b) bytes (and_right (follow n before b) (runs follow n (put_after before b) bytes) e))

is_read : (follow : Follow) (bytes : List ℕ) → (nat_le 1 (length bytes) && nat_le (length bytes) 99) ≡ true → runs follow (length bytes) [] bytes ≡ true → IsRead follow 1 greatest bytes
is_read follow bytes long e =
    let low = true_le 1 (length bytes) (and_left (nat_le 1 (length bytes)) (nat_le (length bytes) 99) long) in
    let high = true_le (length bytes) 99 (and_right (nat_le 1 (length bytes)) (nat_le (length bytes) 99) long) in
    record { long = record { low = low; high = omega arith }; good = runs_good follow (length bytes) [] bytes e }

keyword_long : (keyword : Keyword) → (nat_le 1 (length (keyword_bytes keyword)) && nat_le (length (keyword_bytes keyword)) 99) ≡ true
keyword_long k.Define = refl
keyword_long keyword = refl

keyword_runs : (keyword : Keyword) → runs (w.word_follow w.any_word) (length (keyword_bytes keyword)) [] (keyword_bytes keyword) ≡ true
unfolding runs w.whole_follow
keyword_runs k.Define = refl
keyword_runs keyword = refl

keyword_shows : (keyword : Keyword) → runs (w.shown_follow w.any_word) (length (keyword_bytes keyword)) [] (keyword_bytes keyword) ≡ true
unfolding runs w.whole_follow
keyword_shows k.Define = refl
keyword_shows keyword = refl

pub keyword_word : (keyword : Keyword) → w.IsWord (keyword_bytes keyword)
keyword_word keyword = is_read (w.word_follow w.any_word) (keyword_bytes keyword) (keyword_long keyword) (keyword_runs keyword)

pub keyword_dotted : (keyword : Keyword) → w.IsDottedWord (keyword_bytes keyword)
keyword_dotted keyword = is_read (w.shown_follow w.any_word) (keyword_bytes keyword) (keyword_long keyword) (keyword_shows keyword)

-- ---- words of attached lists

member_quoted : (keyword : Keyword) → w.is_member_by (Some keyword) ≡ true → v.IsMemberWord (quoted keyword)
member_quoted k.InstNext2 e = absurd (cc)
member_quoted keyword e = tt

quoted_member : (keyword : Keyword) → v.IsMemberWord (quoted keyword) → w.is_member_by (Some keyword) ≡ true
quoted_member k.InstNext2 good = absurd good
quoted_member keyword good = refl

member_by : (bytes : List ℕ) (o : Option Keyword) → keyword_of bytes ≡ o → w.IsWord bytes → w.is_member_by o ≡ true → v.IsMemberWord (word_by o bytes) × WordLeaves (word_by o bytes)
member_by bytes None e good passes = (tt, (good, e))
member_by bytes (Some keyword) e good passes = (member_quoted keyword passes, tt)

pub member_good : (bytes : List ℕ) → w.IsWord bytes × (w.is_member bytes ≡ true) → v.IsMemberWord (word_of bytes) × WordLeaves (word_of bytes)
unfolding word_of
member_good bytes good = member_by bytes (keyword_of bytes) refl good.0 good.1

pub good_member : (word : Word) → v.IsMemberWord word × WordLeaves word → w.IsWord (word_bytes word) × (w.is_member (word_bytes word) ≡ true)
good_member (plain bytes) good = (good.1.0, ap w.is_member_by good.1.1)
good_member (quoted keyword) good = (keyword_word keyword, ap w.is_member_by (keyword_back keyword) ∙ quoted_member keyword good.0)

-- ---- words of displays

shown_quoted : (keyword : Keyword) → w.is_shown_by (Some keyword) ≡ true → v.IsShownWord (quoted keyword)
shown_quoted k.Is e = absurd (cc)
shown_quoted keyword e = tt

quoted_shown : (keyword : Keyword) → v.IsShownWord (quoted keyword) → w.is_shown_by (Some keyword) ≡ true
quoted_shown k.Is good = absurd good
quoted_shown keyword good = refl

shown_by : (bytes : List ℕ) (o : Option Keyword) → keyword_of bytes ≡ o → w.IsDottedWord bytes → w.is_shown_by o ≡ true → v.IsShownWord (word_by o bytes) × ShownWordLeaves (word_by o bytes)
shown_by bytes None e good passes = (tt, (good, e))
shown_by bytes (Some keyword) e good passes = (shown_quoted keyword passes, tt)

pub shown_good : (bytes : List ℕ) → w.IsDottedWord bytes × (w.is_shown bytes ≡ true) → v.IsShownWord (word_of bytes) × ShownWordLeaves (word_of bytes)
unfolding word_of
shown_good bytes good = shown_by bytes (keyword_of bytes) refl good.0 good.1

pub good_shown : (word : Word) → v.IsShownWord word × ShownWordLeaves word → w.IsDottedWord (word_bytes word) × (w.is_shown (word_bytes word) ≡ true)
good_shown (plain bytes) good = (good.1.0, ap w.is_shown_by good.1.1)
good_shown (quoted keyword) good = (keyword_dotted keyword, ap w.is_shown_by (keyword_back keyword) ∙ quoted_shown keyword good.0)

-- a word is that of its bytes

pub member_same : (word : Word) → WordLeaves word → word_of (word_bytes word) ≡ word
member_same (plain bytes) good = plain_of bytes good.1
member_same (quoted keyword) good = quoted_of keyword

pub shown_same : (word : Word) → ShownWordLeaves word → word_of (word_bytes word) ≡ word
shown_same (plain bytes) good = plain_of bytes good.1
shown_same (quoted keyword) good = quoted_of keyword
