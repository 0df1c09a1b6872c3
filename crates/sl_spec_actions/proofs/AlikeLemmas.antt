-- What is known of actions stays known where tables and constructors are added, since rules 21 to 25
-- ask for neither of those before a constructor.
use Rattle.std.proofs.Common.{◌≡◌, ◌&&◌, ℕ, Bool, List, [], ◌∷◌, map, take, fold, refl, ap, ◌∙◌}
use Rattle.sl_ast.specs.Trees.{Action, Head, set, global_set}
use Rattle.sl_spec_rules.specs.Names.{Name}
use Rattle.sl_spec.specs.Tables.{Ctor, Table}
use Rattle.sl_spec.specs.declared.tables.Tables.{Tables}
use Rattle.sl_spec_actions.specs.ActionNames.{with_action}
use Rattle.sl_spec_actions.specs.ActionRules.{each_holds, has_address, has_new_left, sets_context_field, uses_early_names, uses_known_names}
use Rattle.sl_spec_actions.specs.Blocks.{AreJudged, AreRight, actions_in, numbers_of}
use Rattle.sl_spec_actions.specs.Levels.{Level}
use Rattle.sl_spec_actions.specs.Standing.{Standing}
use Rattle.sl_spec_actions.specs.JoinedStanding.{joined}

module _ (all : List Table) (t : Tables) (bs : List Table) (cs : List Ctor) where
  abbrev more : Tables
  more = record t { tables = bs; constructors = cs }

  sets_same : (names : List Name) (a : Action) → with_action t names a ≡ with_action more names a
  sets_same names (set n e) = refl
  sets_same names (global_set at field) = refl

  names_same : (names : List Name) (as' : List Action) → fold (with_action t) names as' ≡ fold (with_action more) names as'
  names_same names [] = refl
  names_same names (a ∷ as') = ap (λ (ns : List Name). fold (with_action t) ns as') (sets_same names a) ∙ names_same (with_action more names a) as'

  each_same : (h k : List Name → Action → Bool) → ((before : List Name) (a : Action) → h before a ≡ k before a) → (before : List Name) (as' : List Action)
      → each_holds t h before as' ≡ each_holds more k before as'
  unfolding each_holds
  each_same h k same before [] = refl
  each_same h k same before (a ∷ as') =
      ap (λ b. b && each_holds t h (with_action t before a) as') (same before a)
      ∙ ap (λ (ns : List Name). k before a && each_holds t h ns as') (sets_same before a)
      ∙ ap (λ b. k before a && b) (each_same h k same (with_action more before a) as')

  new_left_same : (before : List Name) (a : Action) → has_new_left all t before a ≡ has_new_left all more before a
  unfolding has_new_left
  new_left_same before (set n e) = refl
  new_left_same before (global_set at field) = refl

  known_same : (s : Standing) (before : List Name) (a : Action) → uses_known_names t s before a ≡ uses_known_names more s before a
  unfolding uses_known_names
  known_same s before (set n e) = refl
  known_same s before (global_set at field) = refl

  early_same : (s : Standing) (before : List Name) (a : Action) → uses_early_names t s before a ≡ uses_early_names more s before a
  unfolding uses_early_names
  early_same s before (set n e) = refl
  early_same s before (global_set at field) = refl

  context_same : (before : List Name) (a : Action) → sets_context_field t before a ≡ sets_context_field more before a
  unfolding sets_context_field
  context_same before (set n e) = refl
  context_same before (global_set at field) = refl

  address_same : (s : Standing) (before : List Name) (a : Action) → has_address t s before a ≡ has_address more s before a
  unfolding has_address
  address_same s before (set n e) = refl
  address_same s before (global_set at field) = refl

  judged_same : (as' : List Action) (levels : List Level) → AreJudged all t as' levels → AreJudged all more as' levels
  judged_same as' levels known = record {
    given = known.given ∙ names_same [] as';
    new_left = known.new_left ∙ each_same (has_new_left all t) (has_new_left all more) new_left_same [] as';
    known_names = λ inside. known.known_names inside ∙ each_same (uses_known_names t (joined _ inside)) (uses_known_names more (joined _ inside)) (known_same (joined _ inside)) [] as';
    early_names = λ inside. known.early_names inside ∙ each_same (uses_early_names t (joined _ inside)) (uses_early_names more (joined _ inside)) (early_same (joined _ inside)) [] as';
    context_field = known.context_field ∙ each_same (sets_context_field t) (sets_context_field more) context_same [] as';
    address = λ inside. known.address inside ∙ each_same (has_address t (joined _ inside)) (has_address more (joined _ inside)) (address_same (joined _ inside)) [] as';
  }

  pub right_with : (head_at : ℕ → Head) (levels : List Level) → AreRight all t head_at levels → AreRight all more head_at levels
  right_with head_at levels right count = let here = right count in record {
    names = here.names;
    judged = judged_same (actions_in (map head_at (numbers_of (take count levels)))) (take count levels) here.judged;
  }
