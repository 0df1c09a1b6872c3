-- A count and an end are one.
use Rattle.std.proofs.Common.{◌≡◌, ℕ, ◌-◌, ◌≤◌, inl, inr, arith}
use Rattle.std.proofs.lemmas.Bool.{cases_lt}
use Rattle.sl_shape_constraints.specs.Counts.{HasCount}
use Rattle.sl_shape_constraints.specs.Values.{Constraint}
use Rattle.sl_shape_constraints.specs.Windows.{IsEnd}

pub count_one : (c : Constraint) (m n : ℕ) → HasCount c m → HasCount c n → m ≡ n
count_one c m n a b =
    let up = a.1.least b.0 b.1.is_cut in
    let down = b.1.least a.0 a.1.is_cut in
    omega (arith, up, down, a.2, b.2)

end_within : (P Q : ℕ → Type 0) → ((i : ℕ) → P i → Q i) → (m n : ℕ) → IsEnd P m → IsEnd Q n → m ≤ n
end_within P Q to m n a b = elim (cases_lt n m) [
  | inl less ↦ let last = b.all (m - 1) (to (m - 1) (a.last (omega (arith, less)))) in absurd (omega (arith, less, last))
  | inr le ↦ le
]

-- what holds of the same numbers has one end
pub end_one : (P Q : ℕ → Type 0) → ((i : ℕ) → P i → Q i) → ((i : ℕ) → Q i → P i) → (m n : ℕ) → IsEnd P m → IsEnd Q n → m ≡ n
end_one P Q to from m n a b =
    let up = end_within P Q to m n a b in
    let down = end_within Q P from n m b a in
    omega (arith, up, down)
