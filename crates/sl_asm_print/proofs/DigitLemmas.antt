-- Numbers read back from their texts.
use Rattle.std.proofs.Common.{◌≡◌, ◌≢◌, ℕ, ◌+◌, ◌-◌, ◌*◌, ◌<◌, ◌≤◌, ◌^◌, suc, zero, List, [], ◌∷◌, length, get_or, take, ap, arith, refl, sym, ◌∙◌, Bool, true, false, drop, ℤ, pos, negsuc, of_z, to_z}
use Rattle.std.specs.Char.{digit_value}
use Rattle.std.specs.Fmt.{decimal, digits}
use Rattle.std.specs.Int.{w64}
use Rattle.std.specs.Int.RustNames.{FitsSigned}
use Rattle.std.specs.Str.Parse.{digits_value}
use Rattle.std.proofs.lemmas.Fmt.{decimal_digit, decimal_nonempty, digits_is_IsNumeral, first_decimal}
use Rattle.std.proofs.lemmas.Int.{to_z-of_z}
use Rattle.sl_show.specs.Numbers.{number_text}
use Rattle.std.proofs.Math.Seq.{take-length}
use Rattle.std.proofs.lemmas.List.{length-drop}
use Rattle.std.proofs.lemmas.Int.Digits.{digits_value_more}
use Rattle.std.proofs.lemmas.Str.Parse.{digits_value-take-le}

-- one digit more
pub one_more : (base : ℕ) (ds : List ℕ) (i n : ℕ) → i < length ds → n ≡ digits_value base (take i ds)
    → digits_value base (take (i + 1) ds) ≡ n * base + digit_value (get_or ds i 0)
one_more base ds i n below is =
    digits_value_more base ds i below ∙ ap (λ (x : ℕ). x * base + digit_value (get_or ds i 0)) (sym is)

-- what is too great by then is too great in the end
pub too_great : (base : ℕ) (ds : List ℕ) (i n d : ℕ) → 1 ≤ base → i < length ds → n ≡ digits_value base (take i ds)
    → d ≡ digit_value (get_or ds i 0) → 2 ^ 64 ≤ n * base + d → digits_value base ds < 2 ^ 64 → ⊥
too_great base ds i n d some below is d_is great fits =
    let more = one_more base ds i n below is in
    let most = digits_value-take-le base ds (i + 1) some in
    omega (arith, more, most, d_is, great, fits)

pub no_bytes : (l : List ℕ) → length l ≡ 0 → l ≡ []
no_bytes [] e = refl
no_bytes (x ∷ l) e = absurd (omega (arith, e))

-- ---- signs

pub read_as : (r v : ℤ) → FitsSigned w64 v → r ≡ v → to_z w64 (of_z w64 r) ≡ v
read_as r v fits e = ap (λ (z : ℤ). to_z w64 (of_z w64 z)) e ∙ to_z-of_z w64 v fits

hex_first : (a b : ℕ) (ds es : List ℕ) → a ≢ b → a ∷ ds ≡ b ∷ es → ⊥
hex_first a b ds es apart e = apart (ap (λ (l : List ℕ). get_or l 0 0) e)

decimal_first : (n : ℕ) (ds : List ℕ) → n < 2 ^ 64 → decimal n ≡ 45 ∷ ds → ⊥
decimal_first zero ds fits e =
    let zero_is : get_or (decimal 0) 0 0 ≡ 48 = ap (λ (l : List ℕ). get_or l 0 0) (decimal_digit 0 (omega arith)) in
    let first : get_or (decimal 0) 0 0 ≡ 45 = ap (λ (l : List ℕ). get_or l 0 0) e in
    omega (arith, zero_is, first)
decimal_first (suc n) ds fits e =
    let some : 48 < get_or (decimal (suc n)) 0 0 = first_decimal (suc n) (omega arith) fits in
    let first : get_or (decimal (suc n)) 0 0 ≡ 45 = ap (λ (l : List ℕ). get_or l 0 0) e in
    omega (arith, some, first)

-- a number that isn't below 0 doesn't begin with a hyphen
pub no_hyphen : (dec : Bool) (n : ℕ) (ds : List ℕ) → n < 2 ^ 64 → number_text dec (pos n) ≡ 45 ∷ ds → ⊥
no_hyphen true n ds fits e = decimal_first n ds fits e
no_hyphen false n ds fits e = hex_first 48 45 (120 ∷ digits 16 false n) ds (λ k. omega (arith, k)) e

pub some_text : (dec : Bool) (v : ℤ) → FitsSigned w64 v → number_text dec v ≡ [] → ⊥
some_text true (pos n) fits e =
    let some : 0 < length (decimal n) = decimal_nonempty n (omega (arith, fits)) in
    let none : length (decimal n) ≡ 0 = ap length e in
    omega (arith, some, none)
some_text true (negsuc n) fits e = absurd cc
some_text false (pos n) fits e = absurd cc
some_text false (negsuc n) fits e = absurd cc

-- and one below 0 does, before what its magnitude is shown as
pub hyphen : (dec : Bool) (n : ℕ) → number_text dec (negsuc n) ≡ 45 ∷ number_text dec (pos (suc n))
hyphen true n = refl
hyphen false n = refl

same_head : (a b : ℕ) (ds es : List ℕ) → a ∷ ds ≡ b ∷ es → a ≡ b
same_head a b ds es e = cc

same_tail : (a b : ℕ) (ds es : List ℕ) → a ∷ ds ≡ b ∷ es → ds ≡ es
same_tail a b ds es e = cc

-- ---- a text with a hyphen, or without

abbrev pub Reads : Bool → List ℕ → ℕ → Type 0
Reads dec text r = (n : ℕ) → n < 2 ^ 64 → number_text dec (pos n) ≡ text → r ≡ n

pub below_zero : (dec : Bool) (text rest : List ℕ) (first m : ℕ) (r v : ℤ) → text ≡ first ∷ rest → first ≡ 45 → Reads dec rest m
    → ((n : ℕ) → ◌≡◌ {A = Bool} true true → m ≡ suc n → n < 2 ^ 63 → r ≡ negsuc n) → FitsSigned w64 v → number_text dec v ≡ text → r ≡ v
below_zero dec text rest first m r (pos n) whole minus reads below fits e =
    absurd (no_hyphen dec n rest (omega (arith, fits)) (e ∙ whole ∙ ap (λ (c : ℕ). c ∷ rest) minus))
below_zero dec text rest first m r (negsuc n) whole minus reads below fits e =
    let tail : number_text dec (pos (suc n)) ≡ rest = same_tail 45 first (number_text dec (pos (suc n))) rest (sym (hyphen dec n) ∙ e ∙ whole) in
    below n refl (reads (suc n) (omega (arith, fits)) tail) (omega (arith, fits))

pub above_zero : (dec : Bool) (text rest : List ℕ) (first m : ℕ) (r v : ℤ) → text ≡ first ∷ rest → (first ≡ 45 → ⊥) → Reads dec text m
    → (◌≡◌ {A = Bool} false false → m < 2 ^ 63 → r ≡ pos m) → FitsSigned w64 v → number_text dec v ≡ text → r ≡ v
above_zero dec text rest first m r (pos n) whole other reads above fits e =
    let is : m ≡ n = reads n (omega (arith, fits)) e in
    above refl (omega (arith, fits, is)) ∙ ap pos is
above_zero dec text rest first m r (negsuc n) whole other reads above fits e =
    absurd (other (sym (same_head 45 first (number_text dec (pos (suc n))) rest (sym (hyphen dec n) ∙ e ∙ whole))))

-- ---- a magnitude

pub decimal_read : (text : List ℕ) (r : ℕ) → (digits_value 10 text < 2 ^ 64 → r ≡ digits_value 10 text) → Reads true text r
decimal_read text r reads n fits e =
    let value : digits_value 10 text ≡ n = ap (digits_value 10) (sym e) ∙ (digits_is_IsNumeral 10 false (omega arith) (omega arith) n (omega (arith, fits))).1 in
    reads (omega (arith, fits, value)) ∙ value

pub hex_read : (text : List ℕ) (r : ℕ)
    → (digits_value 16 (take (length text - 2) (drop 2 text)) < 2 ^ 64 → r ≡ digits_value 16 (take (length text - 2) (drop 2 text))) → Reads false text r
hex_read text r reads n fits e =
    let whole : take (length text - 2) (drop 2 text) ≡ drop 2 text = ap (λ (k : ℕ). take k (drop 2 text)) (sym (length-drop 2 text)) ∙ take-length (drop 2 text) in
    let value : digits_value 16 (take (length text - 2) (drop 2 text)) ≡ n =
    ap (digits_value 16) whole ∙ ap (λ (l : List ℕ). digits_value 16 (drop 2 l)) (sym e)
    ∙ (digits_is_IsNumeral 16 false (omega arith) (omega arith) n (omega (arith, fits))).1 in
    reads (omega (arith, fits, value)) ∙ value
