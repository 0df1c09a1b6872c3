use Rattle.std.proofs.Common.{arith}
use Rattle.sl_section_rules.proofs.PairLemmas.{passed_ends}
use Rattle.sl_section_rules.proofs.macros.add_passed.Goals as goal

pub returns : goal.returns
returns c =
    let m = c.min-index-end.ensures in
    let t = c.given-test.false in
    passed_ends c.args.assigned.now c.args.es.now c.given.index (omega arith) c.given.names _ c.given.invariant
