use Rattle.std.proofs.Common.{List, sym, subst}
use Rattle.std.specs.List.{AllByRecursion}
use Rattle.sl_decode_leaves.specs.Blocks.{IsSame, StandAsBefore}
use Rattle.sl_decode_leaves.specs.declared.blocks.Tied.{Tied}
use Rattle.sl_decode_leaves.specs.declared.leaves.Leaf as l
use Rattle.sl_decode_leaves.proofs.TiedLemmas.{none_left, one_less}
use Rattle.sl_decode_leaves.proofs.blocks.tied_in.Goals as goal

pub leaves-init : goal.leaves-init
leaves-init c = (
  subst (λ (xs : List Tied). StandAsBefore c.args.t.now c.args.operands.now xs) (sym c.new-all.ensures.items) tt,
  λ those plain stand all. all,
)

pub leaves-preserved : goal.leaves-preserved
leaves-preserved c =
    let t = c.args.t.now in
    let os = c.args.operands.now in
    let ls = c.args.leaves.now in (
      c.in_ok-add_tied.ensures.before,
      λ those plain stand.
          let one = c.in_ok-add_tied.ensures.tied those plain stand in
          let P = λ (x : l.Leaf). IsSame t os those x.name.now in
          one_less P ls (AllByRecursion P ls) c.leaves.index c.index-leaves-index.result c.leaves-test.true c.index-leaves-index.is one.1 (c.leaves.invariant.1 those plain one.0),
    )

pub returns : goal.returns
returns c = λ those plain stand.
    let P = λ (x : l.Leaf). IsSame c.args.t.now c.args.operands.now those x.name.now in
    none_left P c.args.leaves.now (AllByRecursion P c.args.leaves.now) c.leaves.index c.leaves-test.false (c.leaves.invariant.1 those plain stand)
