use Rattle.std.proofs.Common.{◌+◌, drop, take, ap, ◌∙◌}
use Rattle.sl_decode.specs.Finishing.{finish_kept, keep, kept, told}
use Rattle.sl_decode.specs.Inputs.{input_of}
use Rattle.sl_decode.proofs.FinishLemmas.{one_kept}
use Rattle.sl_decode.proofs.decode.Decode.finish.Goals as goal

pub sprouts-preserved : goal.sprouts-preserved
sprouts-preserved g c =
    let i = input_of g.C.Choose.chosen c.args.self.now in
    let ss = c.as_slice-sprouts.result.now in
    let k = c.sprouts.index in
    let s = c.index-sprouts-index.result in
    let left = c.divided-in-sprouts-2.result.1.now in
    let so_far = kept c.sprouts.nodes.items c.sprouts.values.items c.sprouts.commits.items in
    let ds = c.finish_one.new.commits.items in
    ap (finish_kept i c.args.next (drop (k + 1) ss) left)
    (c.in_ok-keep.ensures c.sprouts.commits.items ds ∙ ap (λ o. keep s (told o ds) so_far) c.as_slice.ensures.value)
    ∙ one_kept i c.args.next ss k s s c.sprouts.rest.now c.divided-in-sprouts-2.result.0.now left c.divided-in-sprouts.result.0.now
    so_far (told c.finish_one.new.room.values.items ds) _ c.sprouts-test.true c.index-sprouts-index.is c.sprouts.invariant
    c.divided-in-sprouts-2.ensures.front c.divided-in-sprouts-2.ensures.back (c.divided-in-sprouts.ensures.front ∙ ap (take s.below) c.divided.ensures.back)
    c.in_ok-finish_one.ensures
