-- meaning: numbers in groups of 7 bits, least first, in the fewest bytes.
use Rattle.std.specs.Prelude.{◌≤◌, ◌<◌, ℕ, zero, suc, ◌+◌, ◌-◌, ◌*◌, ◌/◌, ◌%◌, Bool, ◌&&◌, if◌then◌else◌, List, [], ◌∷◌, nat_le}
use Rattle.sl_store_bytes.specs.Reader.{Reader, ◌>>=◌, pure, byte}

-- a number with at most `k` groups after the first
unfoldable pub groups : ℕ → ℕ → List ℕ
groups zero n = n ∷ []
groups (suc k) n = if nat_le 128 n then (128 + n % 128) ∷ groups k (n / 128) else n ∷ []

abbrev pub write_number : ℕ → List ℕ
write_number n = groups 9 n

-- A byte of a number from `least` to `most`. With bit 7 it stands for itself and one group at least.
abbrev pub begins_number : ℕ → ℕ → ℕ → Bool
begins_number least most b = nat_le least b && (nat_le b most && nat_le b 255)

-- what follows a byte: nothing, or the groups above it
abbrev pub more_of : Reader ℕ → ℕ → Reader ℕ
more_of inner b = if nat_le 128 b then inner >>= (λ m. pure ((b - 128) + 128 * m)) else pure b

unfoldable pub number_within : ℕ → ℕ → ℕ → Reader ℕ
number_within zero least most = byte (begins_number least most)
number_within (suc k) least most =
    byte (begins_number least most) >>= (λ b. more_of (number_within k 1 ((most - (b - 128)) / 128)) b)

abbrev pub number : ℕ → ℕ → Reader ℕ
number least most = number_within 9 least most

-- the greatest number of 64 bits
abbrev pub greatest : ℕ
greatest = 18446744073709551615

pub record IsWithin (least most n : ℕ) : Type 0 where
  pub low : least ≤ n
  pub high : n ≤ most

-- numbers up to `most` have at most `k` groups after the first
abbrev pub HasGroups : ℕ → ℕ → Type 0
HasGroups zero most = most < 128
HasGroups (suc k) most = HasGroups k (most / 128)
