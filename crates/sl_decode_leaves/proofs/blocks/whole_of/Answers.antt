use Rattle.std.proofs.Common.{List, Some, sym, subst}
use Rattle.sl_ast.specs.Views.{constructor_of}
use Rattle.sl_spec_constructors.proofs.MadeLemmas.{keeps_more, right_at}
use Rattle.sl_decode_leaves.specs.Blocks.{AreLeavesOfHead}
use Rattle.sl_decode_leaves.specs.Wholes.{AreLeavesOf, IsWhole}
use Rattle.sl_decode_leaves.specs.declared.pattern_leaves.PatternLeaves.{PatternLeaves}
use Rattle.sl_decode_leaves.proofs.WholeLemmas.{at_first, at_last, inside, no_block, one_block}
use Rattle.sl_spec.specs.Numbers.{AreMadeFor, KeepsMade}
use Rattle.sl_spec.specs.Unfolded.{heads_of, under}
use Rattle.sl_spec.specs.declared.unfolded.Around.{Around}
use Rattle.sl_decode_leaves.proofs.blocks.whole_of.Goals as goal

pub heads-init : goal.heads-init
heads-init c = (
  at_first c.args.t.now c.args.operands.now (constructor_of c.args.of.now.own.now) c.as_slice-heads.result.now c.new-whole.result c.new-whole.ensures,
  λ head_at told made. made,
)

pub leaves_of_block-requires : goal.leaves_of_block-requires
leaves_of_block-requires c = λ may.
    let right = AreLeavesOfHead c.args.t.now in
    let heads = c.as_slice-heads.result.now in
    let both = c.requires may in
    let made = subst (λ (as' : List Around). AreMadeFor right as' c.args.made.now) (sym c.as_slice-heads.ensures.value) both.1 in
    (both.0, right_at right heads c.heads.index c.index-heads-index.result c.heads-test.true c.index-heads-index.is c.args.made.now c.heads.made made c.heads.invariant.1)

pub heads-preserved : goal.heads-preserved
heads-preserved c =
    let heads = c.as_slice-heads.result.now in
    let i = c.heads.index in
    let below = c.heads-test.true in
    let a = c.index-heads-index.result in (
      one_block c.args.t.now c.args.operands.now (constructor_of c.args.of.now.own.now) heads i a c.heads.whole c.in_ok-whole.whole c.in_ok-its.its.value below
          c.index-heads-index.is c.in_ok-whole.ensures c.in_ok-its.ensures.leaves c.heads.invariant.0,
      keeps_more (AreLeavesOfHead c.args.t.now) heads i a below c.index-heads-index.is c.args.made.now c.heads.made c.leaves_of_block.new.made c.in_ok-its.ensures.kept c.heads.invariant.1,
    )

pub returns : goal.returns
returns c =
    let t = c.args.t.now in
    let os = c.args.operands.now in
    let own = constructor_of c.args.of.now.own.now in
    let heads = c.as_slice-heads.result.now in
    let whole = no_block t os own heads c.heads.index c.heads.whole c.heads-test.false c.heads.invariant.0 in
    let right = AreLeavesOfHead t in
    let its = subst (λ (x : PatternLeaves). AreLeavesOf t os (Some own.pattern) x) (sym c.in_ok-own-2.ensures) c.in_ok-own.ensures in record {
      whole = subst (λ (as' : List Around). IsWhole t os (under (heads_of as') own).pattern c.in_ok-whole-2.whole) c.as_slice-heads.ensures.value
          (at_last t os c.heads.whole c.in_ok-whole-2.whole c.in_ok-own-2.own.value c.in_ok-whole-2.ensures (inside t os own heads 0) own.pattern its whole);
      kept = subst (λ (as' : List Around). KeepsMade right as' c.args.made.now c.heads.made) c.as_slice-heads.ensures.value c.heads.invariant.1;
    }
