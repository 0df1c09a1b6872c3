use Rattle.std.proofs.Common.{◌<◌, length, arith}
use Rattle.sl_cube_tails.proofs.CoverLemmas.{all_by}
use Rattle.sl_cube_tails.proofs.covers.covers_all.Goals as goal

pub returns-then-has_all : goal.returns-then-has_all
returns-then-has_all c = λ t.
    let below : c.loop-cover.cover-index < length c.args.covers.now = omega arith in
    let has = c.has_all.ensures c.if-has_all.true in
    all_by c.args.region.now c.args.tails.now c.args.covers.now c.loop-cover.cover-index c.cover-item.result below c.cover-item.is has.0 has.1
