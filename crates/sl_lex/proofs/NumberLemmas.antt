use Rattle.std.proofs.Common.{◌≡◌, ℕ, ◌+◌, ◌*◌, ◌<◌, ◌≤◌, List, [], ◌∷◌, arith, drop, get_or, length, refl, ◌∙◌, add-one, drop-cons}
use Rattle.sl_lex.specs.Bytes.{digit_value, number_after}

times_some : (base n : ℕ) → 0 < base → n ≤ base * n
times_some base n h = grind arith

-- More digits make a number no smaller.
number_after-ge : (base n : ℕ) (ds : List ℕ) → 0 < base → n ≤ number_after base n ds
number_after-ge base n [] h = omega arith
number_after-ge base n (d ∷ ds) h = omega (arith, times_some base n h, number_after-ge base (base * n + digit_value d) ds h)

number_after-step : (base n i : ℕ) (ds : List ℕ) → i < length ds
    → number_after base n (drop i ds) ≡ number_after base (base * n + digit_value (get_or ds i 0)) (drop (i + 1) ds)
number_after-step base n i ds h = rw (add-one, drop-cons ds i 0) refl

-- A number is no smaller than what its first digits spell.
pub one_digit_more : (base n i whole : ℕ) (ds : List ℕ) → 0 < base → i < length ds → whole ≡ number_after base n (drop i ds)
    → base * n + digit_value (get_or ds i 0) ≤ whole
one_digit_more base n i whole ds some h e =
    let more = number_after-ge base (base * n + digit_value (get_or ds i 0)) (drop (i + 1) ds) some in
    omega (arith, e ∙ number_after-step base n i ds h)
