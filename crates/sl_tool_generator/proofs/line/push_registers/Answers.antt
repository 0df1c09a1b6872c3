use Rattle.std.proofs.Common.{append_assoc}
use Rattle.sl_tool_generator.proofs.line.push_registers.Goals as goal

pub returns : goal.returns
returns c =
    rw (c.in_ok-push_byte-4.ensures, c.in_ok-push_byte-3.ensures, c.in_ok-push_byte-2.ensures, c.in_ok-push_byte.ensures)
    (simp append_assoc)
