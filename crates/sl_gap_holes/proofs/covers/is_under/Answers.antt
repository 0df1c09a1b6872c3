use Rattle.std.proofs.Common.{length, refl}
use Rattle.std.proofs.lemmas.Option.{slice_get_read}
use Rattle.sl_cube_sets.specs.Unions.{IsBelow}
use Rattle.sl_gap_holes.proofs.CoverLemmas.{never_iff, not_under}
use Rattle.sl_gap_holes.proofs.covers.is_under.Goals as goal

pub returns-then-is_outside : goal.returns-then-is_outside
returns-then-is_outside c =
    let found = c.in-Some.ensures.lookup in
    let at = slice_get_read c.args.sets.now (length c.args.sets.now) c.args.other c.in-Some.of.now refl found.3.0 found.1 in
    let out = rw c.deref.ensures.value at c.is_outside.ensures in
    never_iff (IsBelow c.args.sets.now c.args.other c.args.set)
    (not_under c.args.sets.now c.args.hull.now c.args.other c.args.set c.in-Some.of.now at c.requires (out c.if-is_outside.true))
