-- Digits as the program reads them, and numerals.
use Rattle.std.proofs.Common.{◌≡◌, ℕ, suc, ◌^◌, ◌<◌, ◌≤◌, Bool, true, false, cond, List, [], ◌∷◌, length, Some, None, Result, Ok, Err, refl, ap, subst, ◌∙◌, arith}
use Rattle.std.specs.Prelude.{nat_lt, ◌&&◌, ◌==◌}
use Rattle.std.specs.Char.{digit_value}
use Rattle.std.specs.Cmp.Derive.{both_true}
use Rattle.std.specs.List.{list_all}
use Rattle.std.specs.Result.{result_ok}
use Rattle.std.specs.Str.Parse.{AllDigits, IsNumeral, ParsesUnsigned, digits_value, without_leading_plus}
use Rattle.std.proofs.lemmas.Bool.{eqb-true, leb-true, le-leb}
use Rattle.sl_tool_request.specs.Numbers.{begins_with_plus, is_numeral, numeral}

-- both parts of a test
and_parts : (a b : Bool) → (a && b) ≡ true → (a ≡ true) × (b ≡ true)
and_parts true b e = (refl, e)
and_parts false b e = absurd (cc)

digits_pass : (radix : ℕ) (ds : List ℕ) → AllDigits radix ds → list_all (λ c. nat_lt (digit_value c) radix) ds ≡ true
digits_pass radix [] h = refl
digits_pass radix (c ∷ cs) h = both_true (le-leb (suc (digit_value c)) radix h.0) (digits_pass radix cs h.1)

passing_digits : (radix : ℕ) (ds : List ℕ) → list_all (λ c. nat_lt (digit_value c) radix) ds ≡ true → AllDigits radix ds
passing_digits radix [] h = tt
passing_digits radix (c ∷ cs) h =
    let p = and_parts (nat_lt (digit_value c) radix) (list_all (λ c. nat_lt (digit_value c) radix) cs) h in
    (leb-true (suc (digit_value c)) radix p.0, passing_digits radix cs p.1)

-- the test for a numeral, and what it tests
numeral_passes : (radix : ℕ) (ds : List ℕ) → IsNumeral radix ds → is_numeral radix ds ≡ true
numeral_passes radix ds h = both_true (le-leb 1 (length ds) h.0) (digits_pass radix ds h.1)

passing_numeral : (radix : ℕ) (ds : List ℕ) → is_numeral radix ds ≡ true → IsNumeral radix ds
passing_numeral radix ds h =
    let p = and_parts (nat_lt 0 (length ds)) (list_all (λ c. nat_lt (digit_value c) radix) ds) h in
    (leb-true 1 (length ds) p.0, passing_digits radix ds p.1)

without_plus : (ds : List ℕ) → begins_with_plus ds ≡ false → without_leading_plus ds ≡ ds
without_plus [] h = refl
without_plus (b ∷ bs) h = rw h refl

chosen : (b : Bool) (n : ℕ) → b ≡ true → Some n ≡ cond b (Some n) None
chosen b n e = rw e refl

not_chosen : (b : Bool) (n : ℕ) → (b ≡ true → ⊥) → None ≡ cond b (Some n) None
not_chosen true n never = absurd (never refl)
not_chosen false n never = refl

parsed : {E : Type 0} (radix : ℕ) (ds : List ℕ) (r : Result ℕ E) → ParsesUnsigned 64 radix ds r → without_leading_plus ds ≡ ds → result_ok r ≡ numeral radix ds
parsed radix ds (Ok x) h same =
    let h = subst (λ (l : List ℕ). (IsNumeral radix l × (digits_value radix l < 2 ^ 64)) × (x ≡ digits_value radix l)) same h in
    ap (λ (n : ℕ). Some n) h.1 ∙ chosen (is_numeral radix ds && nat_lt (digits_value radix ds) (2 ^ 64)) (digits_value radix ds)
    (both_true (numeral_passes radix ds h.0.0) (le-leb (suc (digits_value radix ds)) (2 ^ 64) h.0.1))
parsed radix ds (Err e) h same =
    let never = subst (λ (l : List ℕ). IsNumeral radix l × (digits_value radix l < 2 ^ 64) → ⊥) same h in
    not_chosen (is_numeral radix ds && nat_lt (digits_value radix ds) (2 ^ 64)) (digits_value radix ds)
    (λ t. let p = and_parts (is_numeral radix ds) (nat_lt (digits_value radix ds) (2 ^ 64)) t in
    never (passing_numeral radix ds p.0, leb-true (suc (digits_value radix ds)) (2 ^ 64) p.1))

pub numeral_is : {E : Type 0} (radix : ℕ) (ds : List ℕ) (r : Result ℕ E) → begins_with_plus ds ≡ false → ParsesUnsigned 64 radix ds r → result_ok r ≡ numeral radix ds
numeral_is radix ds r plain h = parsed radix ds r h (without_plus ds plain)

plus_is_no_digit : (radix : ℕ) (b : ℕ) → radix ≤ 36 → (b == 43) ≡ true → nat_lt (digit_value b) radix ≡ true → ⊥
plus_is_no_digit radix b small plus digit =
    let is : b ≡ 43 = eqb-true b 43 plus in
    let value : digit_value b ≡ 36 = ap digit_value is in
    absurd (omega (arith, leb-true (suc (digit_value b)) radix digit, value, small))

pub plus_is_no_numeral : (radix : ℕ) (ds : List ℕ) → radix ≤ 36 → begins_with_plus ds ≡ true → None ≡ numeral radix ds
plus_is_no_numeral radix [] small plus = absurd (cc)
plus_is_no_numeral radix (b ∷ bs) small plus =
    not_chosen (is_numeral radix (b ∷ bs) && nat_lt (digits_value radix (b ∷ bs)) (2 ^ 64)) (digits_value radix (b ∷ bs))
    (λ t. let p = and_parts (is_numeral radix (b ∷ bs)) (nat_lt (digits_value radix (b ∷ bs)) (2 ^ 64)) t in
    let q = passing_numeral radix (b ∷ bs) p.0 in
    plus_is_no_digit radix b small plus (le-leb (suc (digit_value b)) radix q.1.0))
