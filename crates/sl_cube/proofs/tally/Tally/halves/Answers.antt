use Rattle.sl_cube.proofs.OutsideLemmas.{opens}
use Rattle.sl_cube.proofs.TallyLemmas.{open_among, halves_from}
use Rattle.sl_cube.proofs.tally.Tally.halves.Goals as goal

pub returns-in_err-bit : goal.returns-in_err-bit
returns-in_err-bit c =
    let shortest = rw c.in_ok-open.was at c.requires in
    let best = open_among c.args.region.now c.in_ok-open.«open» c.most-best.result shortest c.most-best.ensures in
    absurd (best.some c.in_err-bit.ensures)

pub parts-requires : goal.parts-requires
parts-requires c =
    let shortest = rw c.in_ok-open.was at c.requires in
    let best = open_among c.args.region.now c.in_ok-open.«open» c.most-best.result shortest c.most-best.ensures in
    opens c.args.region.now c.most-best.result c.in_ok-bit.bit best.all_open.bytes best.all_open.context c.in_ok-bit.ensures

pub returns : goal.returns
returns c =
    let shortest = rw c.in_ok-open.was at c.requires in
    let best = open_among c.args.region.now c.in_ok-open.«open» c.most-best.result shortest c.most-best.ensures in
    halves_from c.args.region.now c.most-best.result c.in_ok-bit.bit c.parts.result.0 c.parts.result.1 best.all_open c.in_ok-bit.ensures
    c.parts.ensures.low c.parts.ensures.high
