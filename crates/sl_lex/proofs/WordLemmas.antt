-- Words outside displays: how far one goes on.
use Rattle.std.proofs.Common.{◌≡◌, ℕ, ◌+◌, ◌<◌, ◌≤◌, ◌&&◌, Bool, true, false, not, cond, List, [], ◌∷◌, ◌++◌, take, drop, length, get_or, arith, refl, sym, subst, suc}
use Rattle.std.specs.List.{list_all}
use Rattle.std.proofs.lemmas.List.{take-append-drop}
use Rattle.sl_lex.specs.Bytes.{begins_word, is_word_byte}
use Rattle.sl_lex.specs.Found.{word_len, IsLongestWord}
use Rattle.sl_lex.specs.Lexemes.{HasNoDots, begins_with_dots}
use Rattle.sl_lex.proofs.RunLemmas.{both_true, begins_front}

and_not : (a b : Bool) → a ≡ true → b ≡ false → (a && not b) ≡ true
and_not a b h k = rw (h, k) refl

cond_true : (c : Bool) (m n : ℕ) → c ≡ true → cond c m n ≡ m
cond_true c m n h = rw h refl

word_fits : (front rest : List ℕ) → list_all is_word_byte front ≡ true → HasNoDots front rest → length front ≤ word_len (front ++ rest)
word_fits [] rest h dots = omega arith
word_fits (b ∷ bs) rest h dots =
    let both = both_true (is_word_byte b) (list_all is_word_byte bs) h in
    let more : length bs ≤ word_len (bs ++ rest) = word_fits bs rest both.1 dots.1 in
    let here : word_len (b ∷ (bs ++ rest)) ≡ 1 + word_len (bs ++ rest) =
    cond_true (is_word_byte b && not (begins_with_dots (b ∷ (bs ++ rest)))) (1 + word_len (bs ++ rest)) 0
    (and_not (is_word_byte b) (begins_with_dots (b ∷ (bs ++ rest))) both.0 dots.0) in
    omega (arith, here)

-- So many bytes at the front go on a word.
record GoesOn (text : List ℕ) (n : ℕ) : Type 0 where
  within : n ≤ length text
  bytes : list_all is_word_byte (take n text) ≡ true
  dots : HasNoDots (take n text) (drop n text)

one_more : (n : ℕ) → 1 + n ≡ suc n
one_more n = omega arith

word_step : (b : ℕ) (bs : List ℕ) (w d : Bool) → is_word_byte b ≡ w → begins_with_dots (b ∷ bs) ≡ d → GoesOn bs (word_len bs)
    → GoesOn (b ∷ bs) (cond (w && not d) (1 + word_len bs) 0)
word_step b bs true false e f h = rw one_more (record {
  within = let within : word_len bs ≤ length bs = h.within in omega arith;
  bytes = rw e h.bytes;
  dots = (subst (λ (t : List ℕ). begins_with_dots (b ∷ t) ≡ false) (sym (take-append-drop (word_len bs) bs)) f, h.dots);
})
word_step b bs true true e f h = record { within = omega arith; bytes = refl; dots = tt }
word_step b bs false d e f h = record { within = omega arith; bytes = refl; dots = tt }

word_goes_on : (text : List ℕ) → GoesOn text (word_len text)
word_goes_on [] = record { within = omega arith; bytes = refl; dots = tt }
word_goes_on (b ∷ bs) = word_step b bs (is_word_byte b) (begins_with_dots (b ∷ bs)) refl refl (word_goes_on bs)

-- A text that begins with what begins a word has the longest word at its front.
pub longest_word : (b n : ℕ) (bs : List ℕ) → begins_word b ≡ true → n ≡ word_len (b ∷ bs) → IsLongestWord (b ∷ bs) n
longest_word b n bs h e =
    let on : GoesOn (b ∷ bs) n = subst (λ (k : ℕ). GoesOn (b ∷ bs) k) (sym e) (word_goes_on (b ∷ bs)) in
    record {
      within = on.within;
      found = λ some. ((begins_front begins_word b n bs some h, on.bytes), on.dots);
      longest = λ front rest word dots f.
          subst (λ (k : ℕ). length front ≤ k) (sym e)
          (subst (λ (t : List ℕ). length front ≤ word_len t) (sym f) (word_fits front rest word.1 dots));
    }

pub word_at : (text : List ℕ) (n : ℕ) → 0 < length text → begins_word (get_or text 0 0) ≡ true → n ≡ word_len text → IsLongestWord text n
word_at [] n some h e = absurd (omega arith)
word_at (b ∷ bs) n some h e = longest_word b n bs h e
