-- Texts are cut at bytes that their parts lack.
use Rattle.std.proofs.Common.{◌≡◌, ◌≢◌, ℕ, zero, suc, ◌/◌, ◌%◌, ◌^◌, ◌<◌, ◌≤◌, Bool, true, false, List, [], ◌∷◌, ◌++◌, length, get_or, refl, sym, ap, ◌∙◌, inl, inr, arith}
use Rattle.std.specs.Prelude.{if◌then◌else◌, ◌==◌}
use Rattle.std.specs.Char.{digit_value}
use Rattle.std.specs.Str.Parse.{AllDigits, digits_value}
use Rattle.std.specs.Fmt.{decimal, digits}
use Rattle.std.proofs.lemmas.Bool.{cases_eq}
use Rattle.std.proofs.lemmas.Bool.Decides.{nat_tests}
use Rattle.std.proofs.lemmas.Fmt.{digits_is_IsNumeral}
use Rattle.hex.specs.Hex.{encode_lower, encode_with, lower_digits, IsBytes}
use Rattle.sl_emu.specs.Readable.{Lacks}

-- what lacks a byte, by a test
abbrev pub lacks : ℕ → List ℕ → Bool
lacks d [] = true
lacks d (x ∷ xs) = if x == d then false else lacks d xs

pub by_test : (d : ℕ) (xs : List ℕ) → lacks d xs ≡ true → Lacks d xs
by_test d [] passes = tt
by_test d (x ∷ xs) passes =
    elim (cases_eq x d) [
      | inl same ↦ absurd (let e : (if x == d then false else lacks d xs) ≡ false = ap (λ (b : Bool). if b then false else lacks d xs) (let t : (x == d) ≡ true = grind (arith, nat_tests) in t) in cc)
      | inr apart ↦ (apart, by_test d xs (let e : (if x == d then false else lacks d xs) ≡ lacks d xs = ap (λ (b : Bool). if b then false else lacks d xs) (let t : (x == d) ≡ false = grind (arith, nat_tests) in t) in sym e ∙ passes))
    ]

pub lacks-append : (d : ℕ) (a b : List ℕ) → Lacks d a → Lacks d b → Lacks d (a ++ b)
lacks-append d [] b la lb = lb
lacks-append d (x ∷ a) b la lb = (la.0, lacks-append d a b la.1 lb)

-- texts that stop at one byte
pub cut : (d : ℕ) (a b r s : List ℕ) → Lacks d a → Lacks d b → a ++ d ∷ r ≡ b ++ d ∷ s → (a ≡ b) × (r ≡ s)
cut d [] [] r s la lb e = (refl, cc)
cut d [] (y ∷ b) r s la lb e = absurd (lb.0 (let same : d ≡ y = cc in sym same))
cut d (x ∷ a) [] r s la lb e = absurd (la.0 (let same : x ≡ d = cc in same))
cut d (x ∷ a) (y ∷ b) r s la lb e =
    let same : x ≡ y = cc in
    let rest = cut d a b r s la.1 lb.1 (let tail : a ++ d ∷ r ≡ b ++ d ∷ s = cc in tail) in
    (ap (λ z. z ∷ a) same ∙ ap (λ z. y ∷ z) rest.0, rest.1)

-- A text that goes no further, or goes on with a byte.
abbrev pub GoesOnBy : ℕ → List ℕ → Type 0
GoesOnBy d [] = Unit {0}
GoesOnBy d (x ∷ xs) = x ≡ d

pub front : (d : ℕ) (a b r s : List ℕ) → Lacks d a → Lacks d b → GoesOnBy d r → GoesOnBy d s → a ++ r ≡ b ++ s → (a ≡ b) × (r ≡ s)
front d [] [] r s la lb gr gs e = (refl, e)
front d [] (y ∷ b) [] s la lb gr gs e = cc
front d [] (y ∷ b) (x ∷ r) s la lb gr gs e = absurd (lb.0 (let same : x ≡ y = cc in sym same ∙ gr))
front d (x ∷ a) [] r [] la lb gr gs e = cc
front d (x ∷ a) [] r (y ∷ s) la lb gr gs e = absurd (la.0 (let same : x ≡ y = cc in same ∙ gs))
front d (x ∷ a) (y ∷ b) r s la lb gr gs e =
    let same : x ≡ y = cc in
    let rest = front d a b r s la.1 lb.1 gr gs (let tail : a ++ r ≡ b ++ s = cc in tail) in
    (ap (λ z. z ∷ a) same ∙ ap (λ z. y ∷ z) rest.0, rest.1)

-- a byte that stands in a text isn't lacking there
pub has : (d : ℕ) (a r : List ℕ) → Lacks d (a ++ d ∷ r) → ⊥
has d [] r h = h.0 refl
has d (x ∷ a) r h = has d a r h.1

-- digits are no marks
pub digits_lack : (radix d : ℕ) → radix ≤ digit_value d → (ds : List ℕ) → AllDigits radix ds → Lacks d ds
digits_lack radix d high [] all = tt
digits_lack radix d high (c ∷ cs) all =
    ((λ same. let value : digit_value c ≡ digit_value d = ap digit_value same in absurd (omega (arith, value, all.0))), digits_lack radix d high cs all.1)

pub decimal_lacks : (d n : ℕ) → 10 ≤ digit_value d → n < 2 ^ 64 → Lacks d (decimal n)
decimal_lacks d n high below = digits_lack 10 d high (decimal n) (digits_is_IsNumeral 10 false (omega arith) (omega arith) n (omega arith)).0.1

pub hex_lacks : (d n : ℕ) → 16 ≤ digit_value d → n < 16 ^ 64 → Lacks d (digits 16 false n)
hex_lacks d n high below = digits_lack 16 d high (digits 16 false n) (digits_is_IsNumeral 16 false (omega arith) (omega arith) n below).0.1

pub hex_same : (m n : ℕ) → m < 16 ^ 64 → n < 16 ^ 64 → digits 16 false m ≡ digits 16 false n → m ≡ n
hex_same m n hm hn e =
    let vm : digits_value 16 (digits 16 false m) ≡ m = (digits_is_IsNumeral 16 false (omega arith) (omega arith) m hm).1 in
    let vn : digits_value 16 (digits 16 false n) ≡ n = (digits_is_IsNumeral 16 false (omega arith) (omega arith) n hn).1 in
    sym vm ∙ ap (digits_value 16) e ∙ vn

lacks_at : (d : ℕ) (xs : List ℕ) (i : ℕ) → Lacks d xs → i < length xs → get_or xs i 0 ≢ d
lacks_at d [] i h inside = absurd (omega arith)
lacks_at d (x ∷ xs) zero h inside = h.0
lacks_at d (x ∷ xs) (suc i) h inside = lacks_at d xs i h.1 (omega arith)

-- nor are the digits of bytes
pub encoded_lacks : (d : ℕ) → lacks d lower_digits ≡ true → (xs : List ℕ) → IsBytes xs → Lacks d (encode_lower xs)
unfolding encode_with
encoded_lacks d none [] bytes = tt
encoded_lacks d none (x ∷ xs) bytes =
    let byte : x < 256 = bytes 0 in (
      lacks_at d lower_digits (x / 16) (by_test d lower_digits none) (omega (arith, byte)),
      (lacks_at d lower_digits (x % 16) (by_test d lower_digits none) (omega (arith, byte)), encoded_lacks d none xs (λ i. bytes (suc i))),
    )
