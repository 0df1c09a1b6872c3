use Rattle.std.proofs.Common.{◌≡◌, ℕ, List, Some, None, ap, subst, ◌∙◌}
use Rattle.sl_decode_choices.specs.Choosers.{picked_by}
use Rattle.sl_decode_choices.proofs.ChooserLemmas.{pick_is}
use Rattle.sl_choose.specs.Picked.{picked}
use Rattle.sl_choose.specs.declared.chooser.Chooser.{Chooser}
use Rattle.sl_decode_choices.proofs.choosers.ChoosersChoose.choose.Goals as goal

pub returns-in_err-ctor : goal.returns-in_err-ctor
returns-in_err-ctor c =
    let chooser = c.in_ok-chooser.chooser.now in
    let there = pick_is c.deref.result.now c.table.inside.0 c.args.point.now chooser c.in_ok-chooser.ensures.lookup.3.0 c.in_ok-chooser.ensures.lookup.1
    None (c.in_err-ctor.ensures.value ∙ ap (picked chooser) c.point_of-point.ensures) in
    c.from_residual-in_err-ctor.ensures ∙ subst (λ (xs : List Chooser). None ≡ picked_by xs c.args.table c.args.point.now) c.deref.ensures.value
    (subst (λ (n : ℕ). None ≡ picked_by c.deref.result.now n c.args.point.now) c.table.view_is there)

pub returns : goal.returns
returns c =
    let chooser = c.in_ok-chooser.chooser.now in
    let there = pick_is c.deref.result.now c.table.inside.0 c.args.point.now chooser c.in_ok-chooser.ensures.lookup.3.0 c.in_ok-chooser.ensures.lookup.1
    (Some c.in_ok-ctor.ctor) (c.in_ok-ctor.ensures.value ∙ ap (picked chooser) c.point_of-point.ensures) in
    subst (λ (xs : List Chooser). Some c.in_ok-ctor.ctor ≡ picked_by xs c.args.table c.args.point.now) c.deref.ensures.value
    (subst (λ (n : ℕ). Some c.in_ok-ctor.ctor ≡ picked_by c.deref.result.now n c.args.point.now) c.table.view_is there)
