-- view: what plans do.
use Rattle.std.specs.Prelude.{◌≡◌, ℕ, List, map, Option, option_map, slice_get}
use Rattle.sl_ast.specs.Trees.{Action, Pattern}
use Rattle.sl_decode_meaning.specs.Actions.{act, look, tell}
use Rattle.sl_decode_meaning.specs.Meanings.{Meaning, said, slot, table_in}
use Rattle.sl_decode_meaning.specs.Meanings as m
use Rattle.sl_decode_meaning.specs.Outcomes.{◌>>=◌, in_turn}
use Rattle.sl_decode_meaning.specs.Places.{Leaf, bare_place, or_start, table_operands}
use Rattle.sl_decode_leaves.specs.Extents.{extent}
use Rattle.sl_decode_plan.specs.Rights.{AreAllSteps}
use Rattle.sl_decode_leaves.specs.Looks.{look_step}
use Rattle.sl_decode_plan.specs.Steps.{early_step, late_step}
use Rattle.sl_decode_leaves.specs.Wholes.{IsWhole}
use Rattle.sl_decode_plan.specs.declared.action_steps.ActionSteps.{ActionSteps}
use Rattle.sl_decode_plan.specs.declared.plans.Plan.{Plan}
use Rattle.sl_decode_plan.specs.declared.plans.Slot.{Slot}
use Rattle.sl_decode_leaves.specs.declared.whole.Whole.{Whole}
use Rattle.sl_spec.specs.Tables.{Operand}
use Rattle.sl_spec.specs.declared.tables.Tables.{Tables}

abbrev pub done_slot : Slot → m.Slot
done_slot s = slot s.table (λ lengths. extent s.place lengths)

-- what a plan does at the nodes of its constructor
abbrev pub done : Tables → Plan → Meaning
done t p = record {
  early = λ s c. in_turn (early_step t s) p.early c;
  slots = map done_slot p.slots.items;
  length = λ lengths. extent p.length lengths;
  late = λ s c. in_turn (look_step t s) p.looks.items c >>= in_turn (late_step t s) p.late;
}

-- what the plan of a constructor's number does
abbrev pub done_by : Tables → List Plan → ℕ → Option Meaning
done_by t plans number = option_map (done t) (slice_get plans number)

-- an operand, by the leaves of its pattern
abbrev pub slot_by : (List ℕ → List Leaf) → Operand → m.Slot
slot_by leaves o =
    slot (table_in o.means) (λ lengths. or_start (bare_place o.name (leaves lengths)))

-- what operands and actions say, by the leaves and the length of the pattern
abbrev pub said_by_leaves : Tables → List Operand → (List ℕ → List Leaf) → (List ℕ → ℕ)
    → List Action → Meaning
said_by_leaves t os leaves length as' = record {
  early = λ s c. in_turn (act t os (leaves s.lengths) s) as' c;
  slots = map (slot_by leaves) (table_operands os);
  length = length;
  late = λ s c. in_turn (look t os s) (leaves s.lengths) c
      >>= in_turn (tell t os (leaves s.lengths) s) as';
}

-- A plan does what a pattern and actions say, whatever they are, of which these were made.
abbrev pub DoesAll : List Operand → Whole → ActionSteps → Plan → Type 0
DoesAll os whole steps plan = (t : Tables) (p : Pattern) (as' : List Action) → IsWhole t os p whole
    → AreAllSteps t os whole.leaves as' steps → done t plan ≡ said t os p as'
