use Rattle.std.proofs.Common.{◌≡◌, Some, sym, ap, ◌∙◌}
use Rattle.std.specs.Prelude.{slice_get}
use Rattle.std.proofs.lemmas.Option.{slice_get-get_or}
use Rattle.sl_shape_patterns.proofs.HullLemmas.{set_found}
use Rattle.sl_shape_patterns.proofs.hulls.set_hull.Goals as goal

pub returns : goal.returns
returns c =
    let sets = c.args.sets.now in
    let set = c.in_ok-set.set.now in
    let found : slice_get sets c.number.inside.0 ≡ Some set =
    slice_get-get_or sets c.number.inside.0 set c.in_ok-set.ensures.lookup.3.0 ∙ ap Some (sym (c.in_ok-set.ensures.lookup.3.1 set)) in
    set_found sets c.args.number set c.hull_of.result (ap (slice_get sets) (sym c.number.view_is) ∙ found) (rw c.deref.ensures.value at c.hull_of.ensures)
