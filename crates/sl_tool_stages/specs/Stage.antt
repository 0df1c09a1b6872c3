-- meaning: stages, each of which makes one value of another or refuses it.
use Rattle.std.specs.Prelude.{◌≡◌, Result, Ok, Err}
use Rattle.sl_base_surely.specs.Surely.{Surely}

-- what becomes of an A: a B, or a refusal
abbrev pub Stage : Type 0 → Type 0 → Type 0 → Type 1
Stage E A B = A → Result B E → Type 0

-- The first stage, and where it gives a value the second.
pub data Then {E A B C : Type 0} (S : Stage E A B) (T : Stage E B C) (a : A) : Result C E → Type 0 where
  stops : {e : E} → S a (Err e) → Then S T a (Err e)
  goes : {b : B} {r : Result C E} → S a (Ok b) → T b r → Then S T a r

-- A value has one result at most.
abbrev pub HasOneResult : {E A B : Type 0} → Stage E A B → Type 0
HasOneResult {E = E} {A = A} {B = B} S = (a : A) (r q : Result B E) → S a r → S a q → r ≡ q

-- It can't be that the value has no result.
abbrev pub HasSomeResult : {E A B : Type 0} → Stage E A B → A → Type 0
HasSomeResult {E = E} {B = B} S a = Surely ((r : Result B E) × S a r)
