use Rattle.std.proofs.lemmas.Bool.{le-leb}
use Rattle.sl_pcode.proofs.ByteCounts.{below_wide}
use Rattle.sl_pcode.proofs.varnode.fits.Goals as goal

pub returns-then-bytes-ge8 : goal.returns-then-bytes-ge8
returns-then-bytes-ge8 c =
    (λ _. below_wide c.args.number c.args.bytes c.ranges.number.fits c.if-bytes-ge8.true, λ _. le-leb 8 c.args.bytes c.if-bytes-ge8.true)
