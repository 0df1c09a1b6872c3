-- Answers that are kept, and that are right.
use Rattle.std.proofs.Common.{◌≡◌, ◌↔◌, ℕ, Some, Bool, false, IsTrue, inl, inr, subst}
use Rattle.std.specs.List.{Contains}
use Rattle.std.proofs.lemmas.Bool.{false≢true}
use Rattle.std.proofs.Common.{List, length, get_or, ◌<◌, replicate, suc, zero, arith}
use Rattle.sl_cube_sets.specs.declared.CubeSet.{CubeSet}
use Rattle.sl_cube_sets.specs.declared.answers.Answer.{Answer}
use Rattle.sl_cube_sets.specs.declared.answers.Answers.{Answers}
use Rattle.sl_cube_sets.specs.Unions.{IsBelow}
use Rattle.sl_cube_sets.specs.Kept.{AreRight, IsKept, KeepsOrAdds}
use Rattle.sl_cube_sets.proofs.WithinLemmas.{below_irrefl}

pub kept_right : (sets : List CubeSet) (answers : Answers) (lower upper : ℕ) (below : Bool) → AreRight sets answers → IsKept answers lower upper (Some below)
    → IsTrue below ↔ IsBelow sets lower upper
kept_right sets answers lower upper below right k =
    let a = k.0 in
    subst (λ (b : Bool). IsTrue b ↔ IsBelow sets lower upper) k.4
    (subst (λ (u : ℕ). IsTrue k.0.below ↔ IsBelow sets lower u) k.3 (subst (λ (l : ℕ). IsTrue k.0.below ↔ IsBelow sets l k.0.upper) k.2 (right k.0 k.1)))

pub kept_or_added : (sets : List CubeSet) (old : Answers) (answer : Answer) (new : Answers) → AreRight sets old → IsTrue answer.below ↔ IsBelow sets answer.lower answer.upper
    → KeepsOrAdds old answer new → AreRight sets new
kept_or_added sets old answer new right fresh keeps = λ a there. elim (keeps a there) [
  | inl was ↦ right a was
  | inr e ↦ subst (λ (x : Answer). IsTrue x.below ↔ IsBelow sets x.lower x.upper) e fresh
]

pub nothing_right : (sets : List CubeSet) (i : ℕ) → IsTrue false ↔ IsBelow sets i i
nothing_right sets i = (λ t. absurd (false≢true t), λ below. absurd (below_irrefl sets i below))

-- a list of one thing alone has no other
only_that : {A : Type 0} (x : A) → (n k : ℕ) (y : A) → k < length (replicate n x) → get_or (replicate n x) k y ≡ y → x ≡ y
only_that x zero k y below is = absurd (omega (arith, below))
only_that x (suc n) zero y below is = is
only_that x (suc n) (suc k) y below is = only_that x n k y (omega (arith, below)) is

pub all_right : (sets : List CubeSet) (nothing : Answer) (n : ℕ) (slots : List Answer) → slots ≡ replicate n nothing → IsTrue nothing.below ↔ IsBelow sets nothing.lower nothing.upper
    → (a : Answer) → Contains slots a → IsTrue a.below ↔ IsBelow sets a.lower a.upper
all_right sets nothing n slots is right a there =
    let found = subst (λ (xs : List Answer). Contains xs a) is there in
    subst (λ (x : Answer). IsTrue x.below ↔ IsBelow sets x.lower x.upper) (only_that nothing n found.0 a found.1 found.2) right
