-- What a call tells, by another name of it.
use Rattle.std.proofs.Common.{◌≡◌, ℕ, Option, Result, Ok, Err, ◌∙◌}
use Rattle.std.specs.Prelude.{IfOk}

pub told_as : {E : Type 0} (r : Result (Option ℕ) E) (x y : Option ℕ) → x ≡ y → IfOk r (λ b. b ≡ x) → IfOk r (λ b. b ≡ y)
told_as (Ok b) x y same told = told ∙ same
told_as (Err e) x y same told = tt
