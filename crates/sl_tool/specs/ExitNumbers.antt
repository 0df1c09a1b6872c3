-- view: the exit status of the program.
use Rattle.std.specs.Prelude.{ℕ}
use Rattle.sl_tool.specs.declared.status.Status.{Status}
use Rattle.sl_tool.specs.declared.status.Status.TheVariants as status

-- the number with which the program ends
abbrev pub exit_number : Status → ℕ
exit_number status.Done = 0
exit_number status.Refused = 1
exit_number status.Usage = 2
exit_number status.ReadFault = 3
exit_number status.WriteFault = 4
exit_number status.NoMemory = 5
exit_number status.Stopped = 6
