-- step: the steps of actions.
use Rattle.std.specs.Prelude.{◌≡◌, List}
use Rattle.sl_ast.specs.Trees.{Action}
use Rattle.sl_decode_meaning.specs.Actions.{Changed, Own, act, tell}
use Rattle.sl_decode_meaning.specs.Outcomes.{◌>>=◌, in_turn}
use Rattle.sl_decode_meaning.specs.Values.{Site}
use Rattle.sl_decode_leaves.specs.Extents.{leaves_at}
use Rattle.sl_decode_plan.specs.Steps.{early_step, late_step}
use Rattle.sl_decode_plan.specs.declared.action_steps.ActionSteps.{ActionSteps}
use Rattle.sl_decode_plan.specs.declared.shared.SharedSteps.{SharedSteps}
use Rattle.sl_decode_leaves.specs.declared.leaves.Leaf as l
use Rattle.sl_spec.specs.Tables.{Operand}
use Rattle.sl_spec.specs.declared.tables.Tables.{Tables}

-- The steps do what actions say, where these are the operands and the names of the pattern.
pub record AreSteps (t : Tables) (os : List Operand) (ls : List l.Leaf) (as' : List Action)
    (x : SharedSteps) : Type 0 where
  pub early : (s : Site) (c : Changed) → in_turn (early_step t s) x.early.value.items c
      ≡ in_turn (act t os (leaves_at s.lengths ls) s) as' c
  pub late : (s : Site) (c : Own) → in_turn (late_step t s) x.late.value.items c
      ≡ in_turn (tell t os (leaves_at s.lengths ls) s) as' c

-- The same of all steps of a constructor.
pub record AreAllSteps (t : Tables) (os : List Operand) (ls : List l.Leaf) (as' : List Action)
    (x : ActionSteps) : Type 0 where
  pub early : (s : Site) (c : Changed) → in_turn (early_step t s) x.early c
      ≡ in_turn (act t os (leaves_at s.lengths ls) s) as' c
  pub late : (s : Site) (c : Own) → in_turn (late_step t s) x.late c
      ≡ in_turn (tell t os (leaves_at s.lengths ls) s) as' c

-- The steps, and behind them those of actions.
pub record AddsSteps (t : Tables) (os : List Operand) (ls : List l.Leaf) (as' : List Action)
    (old new : ActionSteps) : Type 0 where
  pub early : (s : Site) (c : Changed) → in_turn (early_step t s) new.early c
      ≡ (in_turn (early_step t s) old.early c >>= in_turn (act t os (leaves_at s.lengths ls) s) as')
  pub late : (s : Site) (c : Own) → in_turn (late_step t s) new.late c
      ≡ (in_turn (late_step t s) old.late c >>= in_turn (tell t os (leaves_at s.lengths ls) s) as')

-- The same steps, which are shared.
pub record IsCopy (x y : SharedSteps) : Type 0 where
  pub early : x.early.value ≡ y.early.value
  pub late : x.late.value ≡ y.late.value
