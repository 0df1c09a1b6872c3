use Rattle.std.proofs.Common.{◌+◌, List, ap, subst, sym, take, ◌∙◌}
use Rattle.sl_decode_leaves.specs.Joined.{all_leaves}
use Rattle.sl_decode_plan.specs.Open.{IsOpened}
use Rattle.sl_decode_plan.specs.Uses.{ReadAsBefore}
use Rattle.sl_decode_plan.specs.declared.open_blocks.OpenBlock.{OpenBlock}
use Rattle.sl_decode_plan.specs.declared.uses.Used.{Used}
use Rattle.sl_decode_plan.proofs.OpenLemmas.{begins_in, first_begin, first_end, first_go, left_of_last, took_leaves, within}
use Rattle.sl_decode_plan.proofs.open_blocks.OpenBlocks.enter.Goals as goal

pub inside-init : goal.inside-init
inside-init c =
    let i = c.in_ok-front.front in
    first_begin c.args.t.now c.args.operands.now c.args.leaves.now c.args.heads.now (all_leaves (take i c.args.patterns.now)) c.args.self.now _ i c.requires.plain
    (begins_in c.args.patterns.now i c.args.leaves.now c.requires.whole) c.requires.right
    (c.truncate.ensures.items ∙ ap (λ (xs : List OpenBlock). take i xs) c.self.view_is) c.in_ok-front.ensures

pub opened-requires-clause-inside : goal.opened-requires-clause-inside
opened-requires-clause-inside c = (c.requires.plain, begins_in c.args.patterns.now (c.inside.index + 1) c.args.leaves.now c.requires.whole)

pub opened-requires-clause-unsettled : goal.opened-requires-clause-unsettled
opened-requires-clause-unsettled c =
    subst (ReadAsBefore c.args.t.now c.args.operands.now c.args.leaves.now)
    (sym (left_of_last c.last-outer.result c.deref.result.now c.inside.self-inside.blocks.items c.deref.ensures.value c.last-outer.ensures.value)) c.inside.invariant.unsettled

pub inside-preserved : goal.inside-preserved
inside-preserved c =
    let i = c.inside.index in
    let patterns = c.args.patterns.now in
    let p = c.index-patterns-index.result in
    let a = c.index-heads-index.result in
    let x = c.in_ok-block.block in
    let now = c.inside.self-inside.blocks.items in
    let opened = subst (λ (us : List Used). IsOpened c.args.t.now c.args.operands.now c.args.leaves.now (all_leaves (take (i + 1) patterns)) p.value.leaves.items us a x)
    (left_of_last c.last-outer.result c.deref.result.now now c.deref.ensures.value c.last-outer.ensures.value) c.in_ok-block.ensures in
    first_go c.args.t.now c.args.operands.now c.args.leaves.now c.args.heads.now (all_leaves (take i patterns)) p.value.leaves.items (all_leaves (take (i + 1) patterns))
    c.args.self.now now c.push.new.self.items i a x c.inside-test.true c.index-heads-index.is
    (took_leaves patterns i p (within c.inside-test.true c.requires.enough) c.index-patterns-index.is) c.in_ok-push.ensures.items opened c.inside.invariant

pub returns : goal.returns
returns c = first_end c.args.t.now c.args.operands.now c.args.leaves.now c.args.heads.now _ c.args.self.now _ c.inside.index c.inside-test.false c.inside.invariant
