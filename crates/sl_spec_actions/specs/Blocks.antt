-- view: the patterns and the actions of the blocks round a constructor, and what is known of
-- them by the blocks' numbers.
use Rattle.std.specs.Prelude.{◌≡◌, ℕ, ◌≤◌, ◌==◌, Bool, List, [], ◌∷◌, ◌++◌, length, map, take}
use Rattle.std.specs.Prelude.{Option, None, Some}
use Rattle.std.specs.List.{AllByRecursion}
use Rattle.sl_ast.specs.Trees.{Action, Constructor, Head, Pattern}
use Rattle.sl_ast.specs.Unfolding.{written}
use Rattle.sl_ast.specs.Views.{head_of}
use Rattle.sl_spec_rules.specs.Demands.{first_broken}
use Rattle.sl_spec_rules.specs.Gathered.{gathered}
use Rattle.sl_spec_rules.specs.Names.{Name}
use Rattle.sl_spec.specs.Numbers.{AreTold}
use Rattle.sl_spec.specs.Tables.{Table}
use Rattle.sl_spec.specs.declared.tables.Tables.{Tables}
use Rattle.sl_spec.specs.declared.unfolded.Around.{Around}
use Rattle.sl_spec_actions.specs.Parts.{Part, parts_of}
use Rattle.sl_spec_actions.specs.ActionNames.{action_names}
use Rattle.sl_spec_actions.specs.ActionRules.{action_demands_by}
use Rattle.sl_spec_actions.specs.Levels.{IsJudged, Level, any_unwanted, innermost, stands_in}
use Rattle.sl_spec_actions.specs.PatternNames.{PatternNames, standing_of}
use Rattle.sl_spec_actions.specs.Standing.{Standing, standing}
use Rattle.sl_spec_actions.specs.JoinedStanding.{joined}

abbrev pub parts_if_written : List Table → Option Pattern → List Part
parts_if_written tables None = []
parts_if_written tables (Some p) = parts_of tables p

-- how names stand in a block's pattern, if it has one
abbrev pub standing_in_head : List Table → Head → Standing
standing_in_head tables h = standing (parts_if_written tables h.pattern)

-- the actions of blocks, the outermost first
abbrev pub actions_in : List Head → List Action
actions_in heads = gathered (λ h. written h.actions) heads

-- What is known at levels is so of these actions.
abbrev pub AreJudged : List Table → Tables → List Action → List Level → Type 0
AreJudged all t as' levels =
    IsJudged all t (stands_in levels) (any_unwanted levels) as' (innermost levels)

-- A level stands inside others: it has the names of a pattern, and what is known with its actions
-- behind those of the others.
pub record IsInside (all : List Table) (t : Tables) (around : List Level) (number : ℕ)
    (names : PatternNames) (as' : List Action) (level : Level) : Type 0 where
  pub number_is : level.number ≡ number
  pub names_are : level.names ≡ names
  pub judged : (before : List Action) → AreJudged all t before around
      → AreJudged all t (before ++ as') (around ++ level ∷ [])

abbrev pub numbers_of : List Level → List ℕ
numbers_of levels = map (λ l. l.number) levels

-- The levels are those of blocks whose heads are told by their numbers.
pub record IsRight (all : List Table) (t : Tables) (head_at : ℕ → Head) (levels : List Level)
    : Type 0 where
  pub names : AllByRecursion
      (λ l. standing_of l.names ≡ standing_in_head all (head_at l.number)) levels
  pub judged : AreJudged all t (actions_in (map head_at (numbers_of levels))) levels

-- So are those of the blocks round each of them.
abbrev pub AreRight : List Table → Tables → (ℕ → Head) → List Level → Type 0
AreRight all t head_at levels = (count : ℕ) → IsRight all t head_at (take count levels)

-- They are right where numbers tell the heads of these blocks.
abbrev pub AreRightFor : List Table → Tables → List Around → List Level → Type 0
AreRightFor all t blocks levels =
    (head_at : ℕ → Head) × AreTold head_at blocks × AreRight all t head_at levels

-- They stay right, however numbers tell the heads of these blocks.
abbrev pub StayRight : List Table → Tables → List Around → List Level → List Level → Type 0
StayRight all t blocks old new = (head_at : ℕ → Head) → AreTold head_at blocks
    → AreRight all t head_at old → AreRight all t head_at new

-- The first levels are those of the first blocks.
pub record IsFront (count : ℕ) (levels : List Level) (blocks : List Around) : Type 0 where
  pub few : count ≤ length levels
  pub there : count ≤ length blocks
  pub same : numbers_of (take count levels) ≡ map (λ b. b.number) (take count blocks)

-- One block more was entered.
pub record IsEntered (all : List Table) (t : Tables) (block : Around) (old new : List Level)
    : Type 0 where
  pub level : Level
  pub is : new ≡ old ++ level ∷ []
  pub number : level.number ≡ block.number
  pub names : standing_of level.names ≡ standing_in_head all (head_of block.head.now)
  pub judged : (before : List Action) → AreJudged all t before old
      → AreJudged all t (before ++ written (head_of block.head.now).actions) new

-- The levels are those of these blocks, and stay right.
pub record AreEntered (all : List Table) (t : Tables) (blocks : List Around) (old new : List Level)
    : Type 0 where
  pub numbers : numbers_of new ≡ map (λ b. b.number) blocks
  pub kept : StayRight all t blocks old new

-- They are right, whatever is known and whatever heads there are.
abbrev pub AreRightAnyway : List Level → Type 0
AreRightAnyway levels = (all : List Table) (t : Tables) (head_at : ℕ → Head)
    → AreRight all t head_at levels

-- the action names that a constructor sets inside levels, and the first broken rule, by its actions
-- behind those that the levels are judged by
pub record AreFactsInside (all : List Table) (t : Tables) (c : Constructor) (levels : List Level)
    (given : List Name) (first : Option ℕ) : Type 0 where
  pub given_are : (before : List Action) → AreJudged all t before levels
      → given ≡ action_names t (before ++ written c.actions)
  pub first_is : (before : List Action) → AreJudged all t before levels
      → first ≡ first_broken (action_demands_by all t
      (joined (stands_in levels) (standing (parts_of all c.pattern))) (before ++ written c.actions))

-- whether there are no actions
abbrev pub is_idle : List Action → Bool
is_idle as' = length as' == 0
