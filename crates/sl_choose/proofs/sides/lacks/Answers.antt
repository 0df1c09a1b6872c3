use Rattle.std.proofs.Common.{eq-eqb}
use borrow.Author.Tests.{eqb-true}
use Rattle.sl_choose.proofs.SideLemmas.{lacks_part}
use Rattle.sl_choose.proofs.sides.lacks.Goals as goal

pub returns-then-bytes-clause-lacks : goal.returns-then-bytes-clause-lacks
returns-then-bytes-clause-lacks c =
    let b = c.args.bits.now in
    let p = c.args.point.now in (
      λ t. ((lacks_part b.bytes p.bytes).0 c.if-bytes.true, (lacks_part b.context p.context).0 (eqb-true _ _ t)),
      λ l. eq-eqb _ _ ((lacks_part b.context p.context).1 l.1),
    )

pub returns-else-bytes-clause-lacks : goal.returns-else-bytes-clause-lacks
returns-else-bytes-clause-lacks c =
    let b = c.args.bits.now in
    let p = c.args.point.now in (
      λ t. absurd (c.if-bytes.false (eqb-true _ _ t)),
      λ l. eq-eqb _ _ ((lacks_part b.bytes p.bytes).1 l.0),
    )
