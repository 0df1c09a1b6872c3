use Rattle.std.proofs.Common.{rules, ◌≡◌, List, length, refl, subst}
use Rattle.std.proofs.lemmas.Option.{slice_get_read, slice_get_within}
use Rattle.sl_cube.specs.declared.Cube.{Cube}
use Rattle.sl_gap_holes.specs.Covered.{AddsAll}
use Rattle.sl_gap_holes.proofs.CoverLemmas.{adds_below}
use Rattle.sl_gap_holes.proofs.covers.put_below.Goals as goal

pub returns : goal.returns
returns c =
    let below = c.in_ok-under.ensures.0 c.if-not-under.false in
    let within = slice_get_within c.args.sets.now c.args.other below.inner below.inner_is in
    let at = slice_get_read c.args.sets.now (length c.args.sets.now) c.args.other c.index-sets-other.result refl within c.index-sets-other.is in
    let old = c.args.covers.now.items in
    let new = c.put_all.new.covers.items in
    let same : c.deref.result.now ≡ c.index-sets-other.result.cubes.items = search rules in
    adds_below c.args.sets.now c.args.set c.args.other c.index-sets-other.result old new at below
    (subst (λ (cubes : List Cube). AddsAll cubes old new) same c.in_ok-put_all.ensures)
