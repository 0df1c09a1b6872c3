-- Equal texts, and the first character of a text.
use Rattle.std.proofs.Common.{◌≡◌, ◌∙◌, ℕ, Bool, true, false, List, [], ◌∷◌, Some, refl, sym, ap, arith}
use Rattle.std.specs.Prelude.{slice_get, string_bytes, map}
use Rattle.std.specs.declared.string.String.{String}
use Rattle.std.specs.Str.{IsUtf8, bytes_eq, chars, encode_utf8_all, all_scalars}
use Rattle.std.proofs.lemmas.Slice.Eq.{bytes_eq-Decides}
use Rattle.std.proofs.lemmas.Str.{IsUtf8-drop, IsUtf8-string_bytes, IsCharBoundary-after_ascii, chars-encodes}

pub same_text : (xs ys : List ℕ) → bytes_eq xs ys ≡ true → xs ≡ ys
same_text xs ys e = (bytes_eq-Decides xs ys).0 e

pub equal_text : (xs : List ℕ) → bytes_eq xs xs ≡ true
equal_text xs = (bytes_eq-Decides xs xs).1 refl

same_tests : (a b : List ℕ) (t u : Bool) → bytes_eq a b ≡ t → bytes_eq b a ≡ u → t ≡ u
same_tests a b true u e f = sym (ap (bytes_eq b) (same_text a b e) ∙ equal_text b) ∙ f
same_tests a b false true e f = sym e ∙ (ap (bytes_eq a) (same_text b a f) ∙ equal_text a)
same_tests a b false false e f = refl

pub turned_round : (a b : List ℕ) → bytes_eq a b ≡ bytes_eq b a
turned_round a b = same_tests a b (bytes_eq a b) (bytes_eq b a) refl refl

first_of_spelled : (cs : List ℕ) (x : ℕ) (rest : List ℕ) → all_scalars cs ≡ true → encode_utf8_all cs ≡ x ∷ rest → (y : ℕ) × (slice_get (chars (x ∷ rest)) 0 ≡ Some y)
first_of_spelled [] x rest s e = absurd (cc)
first_of_spelled (c ∷ cs) x rest s e = (c, ap (λ t. slice_get (chars t) 0) (sym e) ∙ ap (λ t. slice_get t 0) (chars-encodes (c ∷ cs) s))

-- behind a hyphen that isn't alone stands a character
pub first_char : (x : ℕ) (rest : List ℕ) → IsUtf8 (45 ∷ x ∷ rest) → (y : ℕ) × (slice_get (chars (x ∷ rest)) 0 ≡ Some y)
first_char x rest u =
    let behind = IsUtf8-drop (45 ∷ x ∷ rest) 1 u (IsCharBoundary-after_ascii (45 ∷ x ∷ rest) 0 u (omega arith) (omega arith)) in
    first_of_spelled behind.0 x rest behind.1.0 behind.1.1

abbrev pub AreTexts : List (List ℕ) → Type 0
AreTexts [] = Unit {0}
AreTexts (w ∷ ws) = IsUtf8 w × AreTexts ws

-- the words of a program are texts
pub string_texts : {Z : Type 0} (words : List (String Z)) → AreTexts (map string_bytes words)
string_texts [] = tt
string_texts (w ∷ ws) = (IsUtf8-string_bytes w, string_texts ws)
