-- law: what the first broken rule and steps up to the first refusal come to.
use Rattle.std.specs.Prelude.{◌≡◌, ℕ, Bool, true, false, List, ◌∷◌, ◌++◌}
use Rattle.std.specs.Prelude.{Option, Some, None, Result, Ok, Err}
use Rattle.std.specs.List.{list_all}
use Rattle.sl_spec_rules.specs.Demands.{◌>>=◌, Demand, first_broken, run}

abbrev pub all_hold : List Demand → Bool
all_hold ds = list_all (λ d. d.1) ds

-- A rule of this number is broken, and all before it hold.
pub record IsFirstBroken (ds : List Demand) (n : ℕ) : Type 0 where
  pub before : List Demand
  pub after : List Demand
  pub parts : ds ≡ before ++ (n, false) ∷ after
  pub hold : all_hold before ≡ true

abbrev pub Names : List Demand → Option ℕ → Type 0
Names ds None = all_hold ds ≡ true
Names ds (Some n) = IsFirstBroken ds n

abbrev pub NamesFirstBroken : Type 0
NamesFirstBroken = (ds : List Demand) → Names ds (first_broken ds)

-- All steps over a front are taken, and the next one is refused.
pub record IsRefusedAt {S X : Type 0} (step : S → X → Result S ℕ)
    (s : S) (xs : List X) (e : ℕ) : Type 0 where
  pub front : List X
  pub next : X
  pub rest : List X
  pub there : S
  pub parts : xs ≡ front ++ next ∷ rest
  pub taken : run step s front ≡ Ok there
  pub refused : step there next ≡ Err e

abbrev pub EndsAtFirstRefusal : Type 0 → Type 0 → Type 0
EndsAtFirstRefusal S X = (step : S → X → Result S ℕ) (s : S) (xs : List X) (e : ℕ)
    → run step s xs ≡ Err e → IsRefusedAt step s xs e

abbrev pub TakesInParts : Type 0 → Type 0 → Type 0 → Type 0
TakesInParts S X E = (step : S → X → Result S E) (s : S) (xs ys : List X)
    → run step s (xs ++ ys) ≡ (run step s xs >>= λ t. run step t ys)
