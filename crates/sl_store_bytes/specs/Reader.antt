-- meaning: readers of bytes, what they take of the bytes that are left, or where they stop.
use Rattle.std.specs.Prelude.{ℕ, suc, Bool, if◌then◌else◌, List, [], ◌∷◌, length, drop, Option, None, Some, Result, Ok, Err}

-- The bytes end too early, or no file begins with these bytes. The number counts the bytes that are
-- left, the damaged one among them.
pub data Fault : Type 0 where
  cut : Fault
  damaged : ℕ → Fault

abbrev pub Outcome : Type 0 → Type 0
Outcome A = Result (A × List ℕ) Fault

abbrev pub Reader : Type 0 → Type 0
Reader A = List ℕ → Outcome A

abbrev pub and_then : {A B : Type 0} → Outcome A → (A → Reader B) → Outcome B
and_then (Ok p) go = go p.0 p.1
and_then (Err e) go = Err e

infixl 10 ◌>>=◌
abbrev pub ◌>>=◌ : {A B : Type 0} → Reader A → (A → Reader B) → Reader B
p >>= go = λ xs. and_then (p xs) go

abbrev pub pure : {A : Type 0} → A → Reader A
pure a = λ xs. Ok (a, xs)

abbrev pub first : List ℕ → Option ℕ
first [] = None
first (b ∷ rest) = Some b

-- why a reader stops at these bytes
abbrev pub stop_at : List ℕ → Fault
stop_at [] = cut
stop_at (b ∷ rest) = damaged (suc (length rest))

abbrev pub picked : {A : Type 0} → Option A → Reader A
picked None = λ xs. Err (stop_at xs)
picked (Some a) = λ xs. Ok (a, drop 1 xs)

-- one byte, by what it stands for
unfoldable pub choose : {A : Type 0} → (Option ℕ → Option A) → Reader A
choose pick = λ xs. picked (pick (first xs)) xs

abbrev pub if_passes : (ℕ → Bool) → Option ℕ → Option ℕ
if_passes ok None = None
if_passes ok (Some b) = if ok b then Some b else None

-- one byte that passes the test
unfoldable pub byte : (ℕ → Bool) → Reader ℕ
byte ok = choose (if_passes ok)
