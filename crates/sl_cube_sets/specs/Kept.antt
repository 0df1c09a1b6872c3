-- step: answers on how the sets of a table lie to one another, which all are right.
use Rattle.std.specs.Prelude.{◌≡◌, ◌↔◌, ℕ, ◌⊎◌, List, Option, Some, None, Bool, IsTrue, Contains}
use Rattle.sl_cube_sets.specs.declared.CubeSet.{CubeSet}
use Rattle.sl_cube_sets.specs.declared.answers.Answer.{Answer}
use Rattle.sl_cube_sets.specs.declared.answers.Answers.{Answers}
use Rattle.sl_cube_sets.specs.Unions.{IsBelow}

-- Each answer that is kept is right.
abbrev pub AreRight : List CubeSet → Answers → Type 0
AreRight sets answers = (a : Answer) → Contains answers.slots.items a → IsTrue a.below ↔ IsBelow sets a.lower a.upper

-- An answer is kept for the two sets, if any.
abbrev pub IsKept : Answers → ℕ → ℕ → Option Bool → Type 0
IsKept answers lower upper None = Unit {0}
IsKept answers lower upper (Some below) =
    (a : Answer) × Contains answers.slots.items a × (a.lower ≡ lower) × (a.upper ≡ upper) × (a.below ≡ below)

-- Each new answer is an old one or the given one.
abbrev pub KeepsOrAdds : Answers → Answer → Answers → Type 0
KeepsOrAdds old answer new = (a : Answer) → Contains new.slots.items a → Contains old.slots.items a ⊎ (answer ≡ a)
