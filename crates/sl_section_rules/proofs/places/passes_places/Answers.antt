use Rattle.std.proofs.Common.{arith}
use Rattle.sl_section_rules.proofs.PairLemmas.{passes_ends}
use Rattle.sl_section_rules.proofs.places.passes_places.Goals as goal

pub returns : goal.returns
returns c =
    let m = c.min-index-end.ensures in
    let t = c.given-test.false in
    passes_ends c.args.assigned.now c.args.es.now c.given.index (omega arith) c.args.t.now c.args.scope.now _ c.given.invariant
