use Rattle.std.proofs.Common.{◌<◌, ◌≤◌, length, refl, sym}
use Rattle.std.proofs.lemmas.Bool.{ltb-false, ltb-true}
use Rattle.std.proofs.lemmas.Option.{slice_get_past, slice_get_read}
use Rattle.sl_asm_region.proofs.RegionLemmas.{region_is, region_none}
use Rattle.sl_asm_region.proofs.choices.region_of_choice.Goals as goal

pub returns-in_default : goal.returns-in_default
returns-in_default c =
    let past : length c.args.sets.now ≤ c.args.index = ltb-false c.args.index (length c.args.sets.now) (sym c.in_default.ensures.lookup.0) in
    rw c.new.ensures.items (region_none c.args.sets.now c.args.index (slice_get_past c.args.sets.now c.args.index past))

pub returns : goal.returns
returns c =
    let sets = c.args.sets.now in
    let set = c.in-Some.set.now in
    let within : c.args.index < length sets = ltb-true c.args.index (length sets) (sym c.in-Some.ensures.lookup.0) in
    let is = slice_get_read sets (length sets) c.args.index set refl within c.in-Some.ensures.lookup.1 in
    region_is sets c.args.index set c.in_ok-below.below.items c.in_ok-out.out.items c.requires is c.in_ok-below.ensures
    (rw (c.deref.ensures.value, c.deref-2.ensures.value) at c.in_ok-out.ensures)
