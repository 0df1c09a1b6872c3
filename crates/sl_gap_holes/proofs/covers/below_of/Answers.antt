use Rattle.std.proofs.Common.{length, refl}
use Rattle.std.proofs.lemmas.Option.{slice_get_read}
use Rattle.sl_cube_sets.proofs.LeftLemmas.{hull_inside}
use Rattle.sl_gap_holes.proofs.CoverLemmas.{hull_at}
use Rattle.sl_gap_holes.proofs.covers.below_of.Goals as goal

pub below_by-requires : goal.below_by-requires
below_by-requires c =
    let found = c.in-Some.ensures.lookup in
    let at = slice_get_read c.args.sets.now (length c.args.sets.now) c.args.set c.in-Some.of.now refl found.3.0 found.1 in
    hull_at c.args.sets.now c.args.set c.in-Some.of.now c.in-Some-hull_of.hull at
    (hull_inside c.in-Some.of.now.cubes.items c.in-Some-hull_of.hull (rw c.deref.ensures.value at c.in-Some-hull_of.ensures))
