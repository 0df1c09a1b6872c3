-- view: the actions of nested blocks and of a constructor in them, judged level by level, as the
-- program keeps them.
use Rattle.std.specs.Prelude.{◌≡◌, ℕ, ◌&&◌, ◌||◌, Bool, true, false, not, Option}
use Rattle.std.specs.Prelude.{List, [], ◌∷◌, ◌++◌, fold}
use Rattle.std.specs.List.{list_any}
use Rattle.sl_ast.specs.Trees.{Action}
use Rattle.sl_spec_rules.specs.Demands.{first_broken}
use Rattle.sl_spec_rules.specs.Names.{Name, is_among}
use Rattle.sl_spec.specs.Tables.{Table}
use Rattle.sl_spec.specs.declared.tables.Tables.{Tables}
use Rattle.sl_spec_actions.specs.ActionNames.{action_names, with_action, with_name}
use Rattle.sl_spec_actions.specs.ActionRules.{each_holds, has_address, has_new_left}
use Rattle.sl_spec_actions.specs.ActionRules.{sets_context_field, uses_early_names, uses_known_names}
use Rattle.sl_spec_actions.specs.PatternNames.{PatternNames}
use Rattle.sl_spec_actions.specs.Pending.{Pending, all_stand, none_stands, settled}
use Rattle.sl_spec_actions.specs.Standing.{Standing}
use Rattle.sl_spec_actions.specs.JoinedStanding.{joined}

-- What is known of actions, whatever patterns stand inside: the action names that they set, whether
-- rules 21 and 24 hold, and on which names 22, 23 and 25 hang. Rule 22 has its names stand in a
-- pattern inside, rule 25 has them stand alone there, and rule 23 has none of them stand there
-- behind a table.
pub record Judged : Type 0 where
  pub given : List Name
  pub new_left : Bool
  pub known_names : Pending
  pub early_names : Pending
  pub context_field : Bool
  pub address : Pending

-- of no actions
abbrev pub nothing_judged : Judged
nothing_judged = record {
  given = [];
  new_left = true;
  known_names = settled;
  early_names = settled;
  context_field = true;
  address = settled;
}

-- A block or a constructor: its number, the names of its pattern, and what is known of the actions
-- down to it, its own behind those of the blocks round it. Rule 23 has its own names alone; those
-- of the blocks are kept with them.
pub record Level : Type 0 where
  pub number : ℕ
  pub names : PatternNames
  pub judged : Judged

-- what is known at the innermost level
abbrev pub innermost : List Level → Judged
innermost levels = fold (λ j l. l.judged) nothing_judged levels

-- how names stand in the patterns of levels, which are joined by `&`
abbrev pub stands_in : List Level → Standing
stands_in levels = record {
  anywhere = λ name. list_any (λ l. is_among l.names.anywhere name) levels;
  bare = λ name. list_any (λ l. is_among l.names.bare name) levels;
  behind_table = λ name. list_any (λ l. is_among l.names.behind_table name) levels;
}

-- whether rule 23 hangs on a name at one of the levels
abbrev pub is_unwanted : List Level → Name → Bool
is_unwanted levels name = list_any (λ l. is_among l.judged.early_names.names name) levels

-- whether a name that rule 23 hangs on at one of the levels stands so
abbrev pub any_unwanted : List Level → (Name → Bool) → Bool
any_unwanted levels stands = list_any (λ l. list_any stands l.judged.early_names.names) levels

-- It is known of these actions, where names stand so in the patterns round those that are inside,
-- and this tells whether one of the names that rule 23 hangs on stands in some way.
pub record IsJudged (all : List Table) (t : Tables) (s : Standing)
    (unwanted : (Name → Bool) → Bool) (as' : List Action) (j : Judged) : Type 0 where
  pub given : j.given ≡ action_names t as'
  pub new_left : j.new_left ≡ each_holds t (has_new_left all t) [] as'
  pub known_names : (inside : Standing) → all_stand j.known_names inside.anywhere
      ≡ each_holds t (uses_known_names t (joined s inside)) [] as'
  pub early_names : (inside : Standing)
      → (j.early_names.holds && not (unwanted inside.behind_table))
      ≡ each_holds t (uses_early_names t (joined s inside)) [] as'
  pub context_field : j.context_field ≡ each_holds t (sets_context_field t) [] as'
  pub address : (inside : Standing) → all_stand j.address inside.bare
      ≡ each_holds t (has_address t (joined s inside)) [] as'

-- It is known with one action more.
pub record IsWith (all : List Table) (t : Tables) (s : Standing) (a : Action) (j k : Judged)
    : Type 0 where
  pub given : k.given ≡ with_action t j.given a
  pub new_left : k.new_left ≡ (j.new_left && has_new_left all t j.given a)
  pub known_names : (inside : Standing) → all_stand k.known_names inside.anywhere
      ≡ (all_stand j.known_names inside.anywhere
      && uses_known_names t (joined s inside) j.given a)
  pub early_names : (inside : Standing) → none_stands k.early_names inside.behind_table
      ≡ (none_stands j.early_names inside.behind_table
      && uses_early_names t (joined s inside) j.given a)
  pub context_field : k.context_field ≡ (j.context_field && sets_context_field t j.given a)
  pub address : (inside : Standing) → all_stand k.address inside.bare
      ≡ (all_stand j.address inside.bare && has_address t (joined s inside) j.given a)

-- It stays known with more actions, however names stand outside.
abbrev pub StaysJudged : List Table → Tables → Standing → List Action → Judged → Judged → Type 0
StaysJudged all t s more j k = (outer : (Name → Bool) → Bool) (before : List Action)
    → IsJudged all t s (λ f. outer f || list_any f j.early_names.names) before j
    → IsJudged all t s (λ f. outer f || list_any f k.early_names.names) (before ++ more) k

-- rule 23 inside levels and a pattern with these names behind a table
abbrev pub early_inside : List Level → List Name → Pending → Pending
early_inside levels behind_table outer = record {
  holds = outer.holds && not (any_unwanted levels (is_among behind_table));
  names = [];
}

-- It is known inside levels and a pattern with these names, where j is known at the innermost of
-- the levels.
pub record IsBegun (levels : List Level) (names : PatternNames) (j k : Judged) : Type 0 where
  pub given : k.given ≡ fold with_name [] j.given
  pub new_left : k.new_left ≡ j.new_left
  pub known_names : (f : Name → Bool) → all_stand k.known_names f
      ≡ all_stand j.known_names (λ n. is_among names.anywhere n || f n)
  pub early_names : k.early_names ≡ early_inside levels names.behind_table j.early_names
  pub context_field : k.context_field ≡ j.context_field
  pub address : (f : Name → Bool) → all_stand k.address f
      ≡ all_stand j.address (λ n. is_among names.bare n || f n)

-- the number of the first of the rules 21 to 25 that doesn't hold where nothing stands inside
abbrev pub first_broken_at : Judged → Option ℕ
first_broken_at j = first_broken ((21, j.new_left) ∷ (22, all_stand j.known_names (λ n. false))
    ∷ (23, j.early_names.holds) ∷ (24, j.context_field)
    ∷ (25, all_stand j.address (λ n. false)) ∷ [])
