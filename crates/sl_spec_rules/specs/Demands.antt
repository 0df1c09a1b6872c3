-- meaning: rules with their numbers, the first broken one, and steps up to the first refusal.
use Rattle.std.specs.Prelude.{◌≡◌, ℕ, Bool, cond, List, [], ◌∷◌}
use Rattle.std.specs.Prelude.{Option, Some, None, Result, Ok, Err}
use Rattle.sl_spec_rules.specs.declared.fault.Fault.{Fault}
use Rattle.sl_spec_rules.specs.declared.fault.Fault.TheVariants.{Rule, NoMemory}

-- the number of a rule, and whether it holds
abbrev pub Demand : Type 0
Demand = ℕ × Bool

-- the number of the first broken rule
abbrev pub first_broken : List Demand → Option ℕ
first_broken [] = None
first_broken (d ∷ ds) = cond d.1 (first_broken ds) (Some d.0)

-- what there is where no rule is broken
abbrev pub unless_broken : {A : Type 0} → Option ℕ → A → Result A ℕ
unless_broken None x = Ok x
unless_broken (Some n) x = Err n

-- what there is where all these rules hold, or the number of the first broken one
abbrev pub judged : {A : Type 0} → List Demand → A → Result A ℕ
judged ds x = unless_broken (first_broken ds) x

infixl 10 ◌>>=◌
abbrev pub ◌>>=◌ : {A B E : Type 0} → Result A E → (A → Result B E) → Result B E
(Ok x) >>= f = f x
(Err e) >>= f = Err e

-- step by step over a list, up to the first refusal
unfoldable pub run : {S X E : Type 0} → (S → X → Result S E) → S → List X → Result S E
run step s [] = Ok s
run step s (x ∷ xs) = step s x >>= λ t. run step t xs

-- The fault is the rule that is broken there, unless memory ran out.
abbrev pub Fails : {Y : Type 0} → Fault → Result Y ℕ → Type 0
Fails (Rule n) there = there ≡ Err n
Fails NoMemory there = Unit {0}

-- What a function returned, seen by a view, is what there is, unless memory ran out.
abbrev pub Gives : {X Y : Type 0} → (X → Y) → Result X Fault → Result Y ℕ → Type 0
Gives view (Ok x) there = there ≡ Ok (view x)
Gives view (Err fault) there = Fails fault there
