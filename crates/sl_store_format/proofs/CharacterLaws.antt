-- The bytes of a character in UTF-8.
use Rattle.std.proofs.Common.{◌≡◌, ℕ, suc, ◌<◌, ◌≤◌, ◌+◌, ◌*◌, ◌/◌, ◌%◌, ◌⊎◌, inl, inr, nat_le, nat_lt, Bool, true, false, List, [], ◌∷◌, refl, arith}
use Rattle.std.proofs.Math.Utf8.{scalar, next, encode}

abbrev pub Scalar : ℕ → Type 0
Scalar c = (c < 55296) ⊎ ((57344 ≤ c) × (c < 1114112))

abbrev pub Follows : ℕ → Type 0
Follows b = (128 ≤ b) × (b < 192)

pub order : (m n : ℕ) → (m < n) ⊎ (n ≤ m)
order m n = by_test (nat_lt m n) refl
  where
    by_test : (v : Bool) → nat_lt m n ≡ v → (m < n) ⊎ (n ≤ m)
    by_test true e = inl (grind arith)
    by_test false e = inr (grind arith)

lt_true : (m n : ℕ) → m < n → nat_lt m n ≡ true
lt_true m n h = grind arith

lt_false : (m n : ℕ) → n ≤ m → nat_lt m n ≡ false
lt_false m n h = grind arith

le_true : (m n : ℕ) → m ≤ n → nat_le m n ≡ true
le_true m n h = grind arith

pub high_scalar : (c : ℕ) → 57344 ≤ c → c < 1114112 → scalar c ≡ true
high_scalar c l h =
    let e1 = lt_false c 55296 (omega arith) in
    let e2 = le_true 57344 c l in
    let e3 = lt_true c 1114112 h in
    rw (e1, e2, e3) refl

pub one : (c : ℕ) → c < 128 → encode c ≡ c ∷ []
unfolding encode
one c h = let e1 = lt_true c 128 h in rw e1 refl

pub two : (c : ℕ) → 128 ≤ c → c < 2048 → encode c ≡ (192 + c / 64) ∷ next c ∷ []
unfolding encode
two c l h =
    let e1 = lt_false c 128 l in
    let e2 = lt_true c 2048 h in
    rw (e1, e2) refl

pub three : (c : ℕ) → 2048 ≤ c → c < 65536 → encode c ≡ (224 + c / 4096) ∷ next (c / 64) ∷ next c ∷ []
unfolding encode
three c l h =
    let e1 = lt_false c 128 (omega arith) in
    let e2 = lt_false c 2048 l in
    let e3 = lt_true c 65536 h in
    rw (e1, e2, e3) refl

pub four : (c : ℕ) → 65536 ≤ c → encode c ≡ (240 + c / 262144) ∷ next (c / 4096) ∷ next (c / 64) ∷ next c ∷ []
unfolding encode
four c l =
    let e1 = lt_false c 128 (omega arith) in
    let e2 = lt_false c 2048 (omega arith) in
    let e3 = lt_false c 65536 l in
    rw (e1, e2, e3) refl

-- a character's bytes: the first says how many follow, and together they say the character
pub data Shape (c : ℕ) : Type 0 where
  of1 : c < 128 → encode c ≡ c ∷ [] → Shape c
  of2 : (a b : ℕ) → 192 ≤ a → a < 224 → Follows b → c + 12416 ≡ a * 64 + b → encode c ≡ a ∷ b ∷ [] → Shape c
  of3 : (a b d : ℕ) → 224 ≤ a → a < 240 → Follows b → Follows d → c + 925824 ≡ a * 4096 + b * 64 + d → encode c ≡ a ∷ b ∷ d ∷ [] → Shape c
  of4 : (a b d e : ℕ) → 240 ≤ a → a < 248 → Follows b → Follows d → Follows e → c + 63447168 ≡ a * 262144 + b * 4096 + d * 64 + e → encode c ≡ a ∷ b ∷ d ∷ e ∷ [] → Shape c

follows : (x : ℕ) → Follows (next x)
follows x = (omega arith, omega arith)

below : (c : ℕ) → Scalar c → c < 1114112
below c (inl h) = omega arith
below c (inr h) = h.1

pub shape : (c : ℕ) → Scalar c → Shape c
shape c s = by (order c 128) (order c 2048) (order c 65536)
  where
    by : (c < 128) ⊎ (128 ≤ c) → (c < 2048) ⊎ (2048 ≤ c) → (c < 65536) ⊎ (65536 ≤ c) → Shape c
    by (inl h) u v = of1 h (one c h)
    by (inr l) (inl h) v = of2 (192 + c / 64) (next c) (omega arith) (omega arith) (follows c) (omega arith) (two c l h)
    by (inr k) (inr l) (inl h) = of3 (224 + c / 4096) (next (c / 64)) (next c) (omega arith) (omega arith) (follows (c / 64)) (follows c) (omega arith) (three c l h)
    by (inr k) (inr j) (inr l) = let top : c < 1114112 = below c s in
        of4 (240 + c / 262144) (next (c / 4096)) (next (c / 64)) (next c) (omega arith) (omega arith) (follows (c / 4096)) (follows (c / 64)) (follows c) (omega arith) (four c l)
