use Rattle.std.specs.Prelude.{codes, slice_get}
use Rattle.sl_step_run.proofs.TextLemmas.{appended}
use Rattle.sl_step_run.specs.RunLines.{name_of}
use Rattle.sl_step_run.proofs.fault.push_user_op.Goals as goal

pub returns : goal.returns
returns c =
    appended c.push_name.result c.args.out.now.items c.extend_from_slice.new.self.items c.push_name.new.out.items
    (codes "user operation ")
    (name_of (slice_get c.args.tables.now.userops c.args.op.0)) c.in_ok-extend_from_slice.ensures.items c.push_name.ensures
