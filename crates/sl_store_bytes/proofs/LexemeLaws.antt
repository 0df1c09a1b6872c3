-- Lexemes: some byte always passes, and their readers are exact.
use Rattle.std.proofs.Common.{◌≡◌, ℕ, zero, suc, ◌≤◌, ◌==◌, ◌&&◌, Bool, true, false, if◌then◌else◌, List, [], ◌∷◌, ◌++◌, length, Option, None, Some, refl, ap, sym, ◌∙◌, arith, append_assoc}
use Rattle.sl_ast.specs.Operators.{missing_function, missing_functions, missing_statement, missing_statements}
use Rattle.sl_ast.specs.Symbols.{same_bytes, find, keywords, keyword_of}
use Rattle.sl_store_bytes.specs.Exact.{Exact}
use Rattle.sl_store_bytes.specs.Lexemes.{Follow, Follows, IsRead, lexeme, put_after, write_bytes}
use Rattle.sl_store_bytes.specs.Lists.{write_all, AreGood}
use Rattle.sl_store_bytes.specs.Numbers.{write_number, greatest}
use Rattle.sl_store_bytes.specs.Words as w
use Rattle.sl_store_bytes.proofs.Chains.{alone, exact_byte, exact_as, exact_for}
use Rattle.sl_store_bytes.proofs.PartLaws.{exact_listed}

-- a word without the byte `Z` isn't one that ends in it
has_z : List ℕ → Bool
has_z [] = false
has_z (b ∷ bs) = if b == 90 then true else has_z bs

ends_otherwise : (before k : List ℕ) → has_z k ≡ false → same_bytes (before ++ 90 ∷ []) k ≡ false
unfolding has_z
ends_otherwise [] [] h = refl
ends_otherwise (b ∷ before) [] h = refl
ends_otherwise [] (a ∷ k) h = grind arith
ends_otherwise (b ∷ before) (a ∷ k) h =
    let other : has_z k ≡ false = grind arith in
    let deep = ends_otherwise before k other in grind arith

have_z : {A : Type 0} → List (List ℕ × A) → Bool
have_z [] = false
have_z (row ∷ rows) = if has_z row.0 then true else have_z rows

none_ends : {A : Type 0} (rows : List (List ℕ × A)) (before : List ℕ) → have_z rows ≡ false → find (before ++ 90 ∷ []) rows ≡ None
unfolding have_z
none_ends [] before h = refl
none_ends (row ∷ rows) before h =
    let here : has_z row.0 ≡ false = grind arith in
    let others : have_z rows ≡ false = grind arith in
    rw (ends_otherwise before row.0 here) (none_ends rows before others)

no_keyword : (before : List ℕ) → keyword_of (before ++ 90 ∷ []) ≡ None
unfolding keyword_of have_z has_z
no_keyword before = none_ends keywords before refl

no_function : (before : List ℕ) → missing_function (before ++ 90 ∷ []) ≡ None
unfolding missing_function have_z has_z
no_function before = none_ends missing_functions before refl

no_statement : (before : List ℕ) → missing_statement (before ++ 90 ∷ []) ≡ None
unfolding missing_statement have_z has_z
no_statement before = none_ends missing_statements before refl

abbrev name_passes : (before : List ℕ) → w.is_name (before ++ 90 ∷ []) ≡ true
name_passes before = ap w.is_none (no_keyword before)

first_passes : (before : List ℕ) → w.is_first (before ++ 90 ∷ []) ≡ true
first_passes before = rw (no_keyword before, no_statement before) refl

called_passes : (before : List ℕ) → w.is_called (before ++ 90 ∷ []) ≡ true
called_passes before = rw (no_keyword before, no_function before) refl

invoked_passes : (before : List ℕ) → w.is_invoked (before ++ 90 ∷ []) ≡ true
invoked_passes before = rw (no_keyword before, no_statement before, no_function before) refl

member_passes : (before : List ℕ) → w.is_member (before ++ 90 ∷ []) ≡ true
member_passes before = rw (no_keyword before) refl

shown_passes : (before : List ℕ) → w.is_shown (before ++ 90 ∷ []) ≡ true
shown_passes before = rw (no_keyword before) refl

-- `Z` may follow all bytes of a word
word_goes : (allows : List ℕ → Bool) → ((before : List ℕ) → allows (before ++ 90 ∷ []) ≡ true) → (left : ℕ) (before : List ℕ) → w.word_follow allows left before 90 ≡ true
unfolding w.whole_follow
word_goes allows passes left before = let free = passes before in grind arith

shown_goes : (allows : List ℕ → Bool) → ((before : List ℕ) → allows (before ++ 90 ∷ []) ≡ true) → (left : ℕ) (before : List ℕ) → w.shown_follow allows left before 90 ≡ true
unfolding w.whole_follow
shown_goes allows passes left before = let free = passes before in grind arith

-- ---- words that pass a test are words, and pass it

module _ (in_place : List ℕ → ℕ → Bool) (allows : List ℕ → Bool) where
  any_follows : (left : ℕ) (before : List ℕ) (b : ℕ) → w.whole_follow in_place allows left before b ≡ true → w.whole_follow in_place w.any_word left before b ≡ true
  unfolding w.whole_follow
  any_follows left before b on = grind arith

  to_any : (n : ℕ) (before v : List ℕ) → AreGood (Follows (w.whole_follow in_place allows)) put_after n before v → AreGood (Follows (w.whole_follow in_place w.any_word)) put_after n before v
  to_any zero before [] good = tt
  to_any zero before (b ∷ v) good = absurd good
  to_any (suc n) before [] good = absurd good
  to_any (suc n) before (b ∷ v) good = (any_follows n before b good.0, to_any n (put_after before b) v good.1)

  last_passes : (before : List ℕ) (b : ℕ) → w.whole_follow in_place allows 0 before b ≡ true → allows (before ++ b ∷ []) ≡ true
  unfolding w.whole_follow
  last_passes before b on = grind arith

  all_pass : (n : ℕ) (before v : List ℕ) → AreGood (Follows (w.whole_follow in_place allows)) put_after (suc n) before v → allows (before ++ v) ≡ true
  all_pass n before [] good = absurd good
  all_pass zero before (b ∷ []) good = last_passes before b good.0
  all_pass zero before (b ∷ c ∷ v) good = absurd good.1
  all_pass (suc n) before (b ∷ v) good = ap allows (sym (append_assoc before (b ∷ []) v)) ∙ all_pass n (put_after before b) v good.1

  last_follows : (before : List ℕ) (b : ℕ) → w.whole_follow in_place w.any_word 0 before b ≡ true → allows (before ++ b ∷ []) ≡ true → w.whole_follow in_place allows 0 before b ≡ true
  unfolding w.whole_follow
  last_follows before b on passes = grind arith

  more_follow : (n : ℕ) (before : List ℕ) (b : ℕ) → w.whole_follow in_place w.any_word (suc n) before b ≡ true → w.whole_follow in_place allows (suc n) before b ≡ true
  unfolding w.whole_follow
  more_follow n before b on = let more : (suc n == 0) ≡ false = grind arith in grind arith

  from_any : (n : ℕ) (before v : List ℕ) → AreGood (Follows (w.whole_follow in_place w.any_word)) put_after (suc n) before v → allows (before ++ v) ≡ true
      → AreGood (Follows (w.whole_follow in_place allows)) put_after (suc n) before v
  from_any n before [] good passes = absurd good
  from_any zero before (b ∷ []) good passes = (last_follows before b good.0 passes, tt)
  from_any zero before (b ∷ c ∷ v) good passes = absurd good.1
  from_any (suc n) before (b ∷ v) good passes = (more_follow n before b good.0, from_any n (put_after before b) v good.1 (ap allows (append_assoc before (b ∷ []) v) ∙ passes))

  word_is : (v : List ℕ) → IsRead (w.whole_follow in_place allows) 1 greatest v → IsRead (w.whole_follow in_place w.any_word) 1 greatest v × (allows v ≡ true)
  word_is [] good = let low = good.long.low in absurd (omega arith)
  word_is (b ∷ v) good = (record { long = good.long; good = to_any (suc (length v)) [] (b ∷ v) good.good }, all_pass (length v) [] (b ∷ v) good.good)

  is_word : (v : List ℕ) → IsRead (w.whole_follow in_place w.any_word) 1 greatest v × (allows v ≡ true) → IsRead (w.whole_follow in_place allows) 1 greatest v
  is_word [] good = let low = good.0.long.low in absurd (omega arith)
  is_word (b ∷ v) good = record { long = good.0.long; good = from_any (length v) [] (b ∷ v) good.0.good good.1 }

pub bytes_are : (w : List ℕ) → write_all alone w ≡ w
bytes_are [] = refl
bytes_are (b ∷ w) = ap (λ zs. b ∷ zs) (bytes_are w)

-- where some byte may always follow, the reader is exact
pub exact_lexeme : (follow : Follow) (least most : ℕ) → least ≤ 128 → least ≤ most → most ≤ greatest → (goes : ℕ → List ℕ → ℕ) → ((left : ℕ) (before : List ℕ) → follow left before (goes left before) ≡ true)
    → Exact write_bytes (IsRead follow least most) (lexeme follow least most)
unfolding lexeme
exact_lexeme follow least most start some high goes on = exact_as
    (exact_listed least most start some high (Follows follow) _ put_after (λ n s. Unit {0}) (λ n s fine. exact_byte (follow n s) (goes n s) (on n s)) (λ n s a fine good. tt) [] (λ n within. tt))
    (λ w. ap (λ zs. write_number (length w) ++ zs) (bytes_are w))

exact_word : (allows : List ℕ → Bool) → ((before : List ℕ) → allows (before ++ 90 ∷ []) ≡ true) → Exact write_bytes (λ v. w.IsWord v × (allows v ≡ true)) (lexeme (w.word_follow allows) 1 greatest)
exact_word allows passes = exact_for (exact_lexeme (w.word_follow allows) 1 greatest (omega arith) (omega arith) (omega arith) (λ left before. 90) (word_goes allows passes))
    (word_is w.goes_on_undotted allows) (is_word w.goes_on_undotted allows)

none_is : {A : Type 0} (o : Option A) → w.is_none o ≡ true → o ≡ None
none_is None e = refl
none_is (Some a) e = absurd (cc)

is_none : {A : Type 0} (o : Option A) → o ≡ None → w.is_none o ≡ true
is_none o e = ap w.is_none e

both_none : {A B : Type 0} (o : Option A) (p : Option B) → (w.is_none o && w.is_none p) ≡ true → (o ≡ None) × (p ≡ None)
both_none None None e = (refl, refl)
both_none None (Some b) e = absurd (cc)
both_none (Some a) p e = absurd (cc)

none_both : {A B : Type 0} (o : Option A) (p : Option B) → o ≡ None → p ≡ None → (w.is_none o && w.is_none p) ≡ true
none_both o p e f = rw (e, f) refl

first_none : {A B C : Type 0} (o : Option A) (p : Option B) (q : Option C) → ((w.is_none o && w.is_none p) && w.is_none q) ≡ true → (o ≡ None) × (p ≡ None) × (q ≡ None)
first_none None None None e = (refl, refl, refl)
first_none None None (Some c) e = absurd (cc)
first_none None (Some b) q e = absurd (cc)
first_none (Some a) p q e = absurd (cc)

none_first : {A B C : Type 0} (o : Option A) (p : Option B) (q : Option C) → o ≡ None → p ≡ None → q ≡ None → ((w.is_none o && w.is_none p) && w.is_none q) ≡ true
none_first o p q e f g = rw (e, f, g) refl

pub exact_name : Exact write_bytes w.IsName w.name
exact_name = exact_for (exact_word w.is_name name_passes) (λ v good. (good.0, none_is (keyword_of v) good.1)) (λ v good. (good.0, is_none (keyword_of v) good.1))

pub exact_first_name : Exact write_bytes (λ v. (missing_statement v ≡ None) × w.IsName v) w.first_name
exact_first_name = exact_for (exact_word w.is_first first_passes)
    (λ v good. (let b = both_none (keyword_of v) (missing_statement v) good.1 in (b.1, (good.0, b.0))))
    (λ v good. (good.1.0, none_both (keyword_of v) (missing_statement v) good.1.1 good.0))

pub exact_called_name : Exact write_bytes (λ v. (missing_function v ≡ None) × w.IsName v) w.called_name
exact_called_name = exact_for (exact_word w.is_called called_passes)
    (λ v good. (let b = both_none (keyword_of v) (missing_function v) good.1 in (b.1, (good.0, b.0))))
    (λ v good. (good.1.0, none_both (keyword_of v) (missing_function v) good.1.1 good.0))

pub exact_invoked_name : Exact write_bytes (λ v. (missing_statement v ≡ None) × (missing_function v ≡ None) × w.IsName v) w.invoked_name
exact_invoked_name = exact_for (exact_word w.is_invoked invoked_passes)
    (λ v good. (let b = first_none (keyword_of v) (missing_statement v) (missing_function v) good.1 in (b.1, b.2, (good.0, b.0))))
    (λ v good. (good.2.0, none_first (keyword_of v) (missing_statement v) (missing_function v) good.2.1 good.0 good.1))

pub exact_member_word : Exact write_bytes (λ v. w.IsWord v × (w.is_member v ≡ true)) w.member_word
exact_member_word = exact_word w.is_member member_passes

pub exact_shown_word : Exact write_bytes (λ v. w.IsDottedWord v × (w.is_shown v ≡ true)) w.shown_word
exact_shown_word = exact_for (exact_lexeme (w.shown_follow w.is_shown) 1 greatest (omega arith) (omega arith) (omega arith) (λ left before. 90) (shown_goes w.is_shown shown_passes))
    (word_is w.goes_on w.is_shown) (is_word w.goes_on w.is_shown)

text_next : ℕ → List ℕ → ℕ
text_next left [] = 34
text_next zero before = 34
text_next (suc left) before = 35

text_goes : (left : ℕ) (before : List ℕ) → w.text_follow left before (text_next left before) ≡ true
unfolding w.text_follow text_next
text_goes left [] = refl
text_goes zero (b ∷ before) = let some : (length (b ∷ before) == 0) ≡ false = grind arith in rw some refl
text_goes (suc left) (b ∷ before) =
    let some : (length (b ∷ before) == 0) ≡ false = grind arith in
    let more : (suc left == 0) ≡ false = grind arith in
    rw (some, more) refl

pub exact_text : Exact write_bytes w.IsText w.text
exact_text = exact_lexeme w.text_follow 2 greatest (omega arith) (omega arith) (omega arith) text_next text_goes

blank_goes : (left : ℕ) (before : List ℕ) → w.blank_follow left before 32 ≡ true
unfolding w.blank_follow
blank_goes left before = refl

pub exact_blank : Exact write_bytes w.IsBlank w.blank
exact_blank = exact_lexeme w.blank_follow 1 greatest (omega arith) (omega arith) (omega arith) (λ left before. 32) blank_goes

caret_goes : (left : ℕ) (before : List ℕ) → w.caret_follow left before 94 ≡ true
unfolding w.caret_follow
caret_goes left before = refl

pub exact_caret : Exact write_bytes w.IsCaret w.caret
exact_caret = exact_lexeme w.caret_follow 1 1 (omega arith) (omega arith) (omega arith) (λ left before. 94) caret_goes

char_goes : (left : ℕ) (before : List ℕ) → w.char_follow left before 33 ≡ true
unfolding w.char_follow
char_goes left before = refl

pub exact_char : Exact write_bytes w.IsChar w.char
exact_char = exact_lexeme w.char_follow 1 1 (omega arith) (omega arith) (omega arith) (λ left before. 33) char_goes
