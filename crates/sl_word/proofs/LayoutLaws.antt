-- A number laid out in bytes, and the number that the bytes make.
use Rattle.std.proofs.Common.{◌≡◌, ℕ, zero, suc, ◌+◌, ◌-◌, ◌*◌, ◌/◌, ◌%◌, ◌^◌, ◌<◌, sym, ◌∙◌, ap, arith, refl}
use Rattle.std.proofs.Math.Nat.{mod-one, mod-eq_of_lt, pow-suc, pow-succ', div-div-eq-div-mul, div-one}
use Rattle.std.proofs.Math.Arith.{mod-mul}
use Rattle.sl_word.specs.declared.word.Endian.{Endian}
use Rattle.sl_word.specs.declared.word.Endian.TheVariants.{Little, Big}
use Rattle.sl_word.specs.Layout.{Puts, byte_of, little_endian, big_endian, number_of}
use Rattle.sl_word.proofs.Powers.{bytes_pos}

-- the lowest k bytes, the least significant first
least-bytes : (v size k : ℕ) → little_endian (byte_of Little size v) k ≡ v % 256 ^ k
least-bytes v size zero = sym (mod-one v)
least-bytes v size (suc k) =
    let split = mod-mul v {m = 256} {c = 256 ^ k} (omega arith) (bytes_pos k) in
    let low = least-bytes v size k in
    rw (pow-succ' 256 k) (omega (arith, split, low))

-- the highest k bytes of a number of j + k bytes, the most significant first
most-bytes : (v j k : ℕ) → (f : ℕ → ℕ) → ((i : ℕ) → i < k → f i ≡ v / 256 ^ (j + k - 1 - i) % 256) → big_endian f k ≡ v / 256 ^ j % 256 ^ k
most-bytes v j zero f is = sym (mod-one (v / 256 ^ j))
most-bytes v j (suc k) f is =
    let q : ℕ = v / 256 ^ j in
    let place : j + suc k - 1 - k ≡ j = omega arith in
    let last : f k ≡ q % 256 = is k (omega arith) ∙ ap (λ e. v / 256 ^ e % 256) place in
    let higher : v / 256 ^ suc j ≡ q / 256 = ap (λ m. v / m) (pow-suc 256 j) ∙ sym (div-div-eq-div-mul v (256 ^ j) 256) in
    let high : big_endian f k ≡ v / 256 ^ suc j % 256 ^ k =
    most-bytes v (suc j) k f (λ i h. let e : j + suc k - 1 - i ≡ suc j + k - 1 - i = omega arith in is i (omega arith) ∙ ap (λ x. v / 256 ^ x % 256) e)
    in
    let split = mod-mul q {m = 256 ^ k} {c = 256} (bytes_pos k) (omega arith) in
    ap (λ n. n * 256 + f k) (high ∙ ap (λ n. n % 256 ^ k) higher)
    ∙ ap (λ n. q / 256 % 256 ^ k * 256 + n) last
    ∙ sym (ap (λ m. q % m) (pow-suc 256 k) ∙ split)

least-same : (f g : ℕ → ℕ) (k : ℕ) → ((i : ℕ) → i < k → f i ≡ g i) → little_endian f k ≡ little_endian g k
least-same f g zero same = refl
least-same f g (suc k) same =
    let low = least-same f g k (λ i h. same i (omega arith)) in
    let last : f k ≡ g k = same k (omega arith) in
    rw (low, last)

most-same : (f g : ℕ → ℕ) (k : ℕ) → ((i : ℕ) → i < k → f i ≡ g i) → big_endian f k ≡ big_endian g k
most-same f g zero same = refl
most-same f g (suc k) same =
    let high = most-same f g k (λ i h. same i (omega arith)) in
    let last : f k ≡ g k = same k (omega arith) in
    rw (high, last)

-- Numbers of the same bytes are the same.
pub number_of-same : (endian : Endian) (f g : ℕ → ℕ) (k : ℕ) → ((i : ℕ) → i < k → f i ≡ g i) → number_of endian f k ≡ number_of endian g k
number_of-same Little f g k same = least-same f g k same
number_of-same Big f g k same = most-same f g k same

-- The bytes of a number make the number.
pub number_of-byte_of : (endian : Endian) (v size : ℕ) (f : ℕ → ℕ) → v < 256 ^ size → ((i : ℕ) → i < size → f i ≡ byte_of endian size v i) → number_of endian f size ≡ v
number_of-byte_of Little v size f h is =
    least-same f (byte_of Little size v) size is ∙ least-bytes v size size ∙ mod-eq_of_lt h
number_of-byte_of Big v size f h is =
    most-bytes v 0 size f (λ i below. let e : size - 1 - i ≡ 0 + size - 1 - i = omega arith in is i below ∙ ap (λ x. v / 256 ^ x % 256) e)
    ∙ ap (λ n. n % 256 ^ size) (div-one v) ∙ mod-eq_of_lt h

-- What was put is what is read.
pub number_of-Puts : (endian : Endian) (v size offsets base : ℕ) (old new : ℕ → ℕ) → v < 256 ^ size → Puts offsets base size (byte_of endian size v) old new → number_of endian (λ i. new ((base + i) % offsets)) size ≡ v
number_of-Puts endian v size offsets base old new h puts =
    number_of-byte_of endian v size (λ i. new ((base + i) % offsets)) h (λ i below. puts.put i below)
