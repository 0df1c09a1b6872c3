use Rattle.sl_gap_holes.proofs.CoverLemmas.{covers_both}
use Rattle.sl_gap_holes.proofs.covers.covers_of.Goals as goal

pub returns : goal.returns
returns c =
    covers_both c.args.sets.now c.args.set c.args.place c.args.cubes.now c.in_ok-covers.covers.items c.put_moved.new.covers.items c.in_ok-covers.ensures c.in_ok-put_moved.ensures
