use Rattle.std.proofs.Common.{ap, length}
use Rattle.std.specs.Prelude.{codes}
use Rattle.std.specs.Fmt.{decimal}
use Rattle.sl_tool.proofs.CountLemmas.{two_counts}
use Rattle.sl_tool.proofs.check.count_line.Goals as goal

pub returns : goal.returns
returns c =
    two_counts c.new-out.result.items c.push_counted.new.out.items c.push_counted-2.new.out.items c.extend_from_slice.new.self.items
    (codes "ok: ") (codes " tables, ") (codes " constructors\n") (decimal c.len.result) (decimal c.len-2.result)
    (decimal (length c.args.t.now.tables)) (decimal (length c.args.t.now.constructors))
    c.new-out.ensures.items c.in_ok-push_counted.ensures c.in_ok-push_counted-2.ensures c.in_ok-extend_from_slice.ensures.items
    (ap decimal c.len.ensures) (ap decimal c.len-2.ensures)
