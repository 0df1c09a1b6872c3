use Rattle.std.proofs.Common.{◌≡◌, Some}
use Rattle.sl_word.specs.Bytes.{address_sizes, byte_at, endian_of}
use Rattle.sl_pcode.specs.Machine.{ran_of, rest_after, run_from}
use Rattle.sl_emu.specs.Outcomes.{run_over}
use Rattle.sl_emu.specs.Temporaries.{order_of, temporary_bytes}
use Rattle.sl_emu.proofs.run.run_list.Given as goal

abbrev pub invariant-turns : goal.invariant-turns
invariant-turns l = record {
  endian : endian_of l.state ≡ endian_of l.fn.state;
  sizes : address_sizes l.state ≡ address_sizes l.fn.state;
  order : order_of l.t ≡ endian_of l.fn.state;
  rest : rest_after l.ran (run_over l.fn.state l.ops)
      ≡ Some (run_from (endian_of l.fn.state) (address_sizes l.fn.state) l.ops l.jumps l.at (byte_at l.state) (temporary_bytes l.t));
}

abbrev pub decreases-turns : goal.decreases-turns
decreases-turns l = ran_of (run_from (endian_of l.fn.state) (address_sizes l.fn.state) l.ops l.jumps l.at (byte_at l.state) (temporary_bytes l.t))
