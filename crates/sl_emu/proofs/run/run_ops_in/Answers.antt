use Rattle.sl_word.specs.Bytes.{address_sizes, byte_at, endian_of}
use Rattle.sl_pcode.specs.Operations.{operations}
use Rattle.sl_emu.proofs.RunLemmas.{first-run_of}
use Rattle.sl_emu.proofs.run.run_ops_in.Goals as goal

pub returns-then-not-is_short-clause-effects : goal.returns-then-not-is_short-clause-effects
returns-then-not-is_short-clause-effects c =
    first-run_of (endian_of c.args.state.now) (address_sizes c.args.state.now) (operations c.args.ops.now) (byte_at c.args.state.now)
