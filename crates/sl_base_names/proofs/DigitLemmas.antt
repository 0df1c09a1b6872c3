-- The numbers that stand for short names.
use Rattle.std.proofs.Common.{◌≡◌, ◌==◌, ℕ, zero, suc, ◌+◌, ◌*◌, ◌^◌, ◌<◌, ◌≤◌, List, get_or, length, ⊎_elim, sym, ap, ◌∙◌, arith}
use Rattle.std.proofs.Math.Nat.{eq-or-lt_of_le, pow-le-pow_right}
use Rattle.std.proofs.lemmas.Bool.Decides.{same_from_decides}
use Rattle.std.proofs.lemmas.Grind.{same_number_lists}
use Rattle.std.specs.Cmp.{unsigned_Decides, unsigned_tied}
use Rattle.std.specs.Cmp.Lexicographic.{bytes_decides}
use Rattle.std.specs.Ordering.{is_eq, nat_cmp}
use Rattle.std.specs.Str.{bytes_eq}
use Rattle.sl_base_names.specs.Found.{AreBytes, digits, number_of}

-- there is room for one more of at most fifteen bytes
pub room_for_byte : (n i b : ℕ) → n < 2 * 256 ^ i → i < 15 → b < 256 → n * 256 + b < 2 ^ 128
room_for_byte n i b small below byte =
    let some : 0 < 256 = omega arith in
    let within : i ≤ 14 = omega arith in
    let most : 256 ^ i ≤ 256 ^ 14 = pow-le-pow_right some within in
    omega (arith, most)

some_digits : (f : ℕ → ℕ) (n : ℕ) → 1 ≤ digits f n
some_digits f zero = omega arith
some_digits f (suc n) = let front = some_digits f n in omega (arith, front)

-- the number tells how many digits there are
same_count : (f g : ℕ → ℕ) (n m : ℕ) → ((i : ℕ) → f i < 256) → ((i : ℕ) → g i < 256) → digits f n ≡ digits g m → n ≡ m
same_count f g zero zero fs gs h = omega arith
same_count f g zero (suc m) fs gs h = let some = some_digits g m in absurd (omega (arith, some, h))
same_count f g (suc n) zero fs gs h = let some = some_digits f n in absurd (omega (arith, some, h))
same_count f g (suc n) (suc m) fs gs h =
    let front : digits f n ≡ digits g m = omega (arith, fs n, gs m, h) in
    let same = same_count f g n m fs gs front in
    omega (arith, same)

-- and each of them
same_digits : (f g : ℕ → ℕ) (n : ℕ) → ((i : ℕ) → f i < 256) → ((i : ℕ) → g i < 256) → digits f n ≡ digits g n → (i : ℕ) → i < n → f i ≡ g i
same_digits f g zero fs gs h i below = absurd (omega (arith, below))
same_digits f g (suc n) fs gs h i below =
    let front : digits f n ≡ digits g n = omega (arith, fs n, gs n, h) in
    let last : f n ≡ g n = omega (arith, fs n, gs n, h) in
    ⊎_elim (λ (e : i ≡ n). ap f e ∙ last ∙ ap g (sym e)) (λ (less : i < n). same_digits f g n fs gs front i less) (eq-or-lt_of_le (omega (arith, below)))

-- names with the same number are the same
pub same_name : (a b : List ℕ) → AreBytes a → AreBytes b → number_of a ≡ number_of b → a ≡ b
same_name a b as_bytes bs_bytes h =
    let count : length a ≡ length b = same_count (λ i. get_or a i 0) (λ i. get_or b i 0) (length a) (length b) as_bytes bs_bytes h in
    same_number_lists a b count
    (same_digits (λ i. get_or a i 0) (λ i. get_or b i 0) (length a) as_bytes bs_bytes (h ∙ ap (digits (λ i. get_or b i 0)) (sym count)))

pub number_tells : (a b : List ℕ) → AreBytes a → AreBytes b → is_eq (nat_cmp (number_of a) (number_of b)) ≡ bytes_eq a b
number_tells a b as_bytes bs_bytes =
    unsigned_tied (number_of a) (number_of b)
    ∙ same_from_decides (number_of a == number_of b) (bytes_eq a b)
    ((λ h. same_name a b as_bytes bs_bytes ((unsigned_Decides (number_of a) (number_of b)).0 h)), λ e. (unsigned_Decides (number_of a) (number_of b)).1 (ap number_of e))
    (bytes_decides a b)
