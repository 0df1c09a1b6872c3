-- meaning: how the run of a list and an instruction end, side by side.
use Rattle.std.specs.Prelude.{ℕ, ◌%◌, ◌^◌, slice_index}
use Rattle.sl_meaning_sections.specs.References.{Setting}
use Rattle.sl_meaning_sections.specs.Statements as does
use Rattle.sl_meaning_sections.specs.Statements.{Outcome}
use Rattle.sl_meaning_sections.specs.Values as fault
use Rattle.sl_meaning_sections.specs.Values.{Fault}
use Rattle.sl_pcode.specs.Machine as machine
use Rattle.sl_pcode.specs.Machine.{Ending, Run, ended, whole}
use Rattle.sl_word.specs.Memories.{Memory}

-- The run ends, leaves to an address of the default space, or stops; with the memory then.
pub data Final : Type 0 where
  ends : Memory → Final
  leaves : (target : ℕ) → Memory → Final
  stops : Fault → Memory → Final

abbrev pub final_outcome : Outcome → Final
final_outcome (does.ends st) = ends st.memory
final_outcome (does.leaves target m) = leaves target m
final_outcome (does.stops f m) = stops f m

module _ (g : Setting) where
  abbrev pub final_ending : Ending → Memory → Final
  final_ending machine.at_end m = ends m
  final_ending (machine.leaves_to address) m =
      leaves (address % 256 ^ slice_index g.sizes g.default) m
  final_ending machine.divides_by_zero m = stops fault.divides_by_zero m
  final_ending (machine.calls_user_op op) m = stops (fault.calls_user_op op) m
  final_ending machine.jumps_too_often m = stops fault.jumps_too_often m

  abbrev pub final_run : Run → Final
  final_run (ended ending m) = final_ending ending m
  final_run (whole m rest) = final_run rest
