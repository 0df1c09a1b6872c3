use Rattle.std.proofs.Common.{◌+◌, take, length, arith, sym, subst}
use Rattle.sl_sizes.specs.Solutions.{IsFirstClash}
use Rattle.sl_sizes.specs.Nodes.{node_of, StandFor}
use Rattle.sl_sizes.proofs.SolutionLemmas.{stand_more, first_clash}
use Rattle.sl_sizes.proofs.inference.first_clash.Goals as goal

pub returns-then-not-take_in : goal.returns-then-not-take_in
returns-then-not-take_in c =
    subst (λ n. IsFirstClash n c.args.equations.now c.equations.index) c.equations.auto.nodes
    (first_clash (length c.equations.nodes) (node_of c.equations.nodes) c.args.equations.now c.equations.index c.index-equations-index.result
    (omega arith) c.index-equations-index.is c.equations.invariant.stand c.if-not-take_in.ensures)

pub equations-preserved : goal.equations-preserved
equations-preserved c = record {
  stand = subst (λ n. StandFor n (node_of c.take_in.new.nodes) (take (c.equations.index + 1) c.args.equations.now)) (sym c.take_in.auto.nodes)
      (stand_more (length c.equations.nodes) (node_of c.equations.nodes) (node_of c.take_in.new.nodes) c.args.equations.now c.equations.index c.index-equations-index.result
      (omega arith) c.index-equations-index.is c.equations.invariant.stand c.if-not-take_in.ensures);
  ranks = λ v below. c.if-not-take_in.ensures.ranks c.equations.index c.equations.invariant.ranks v (omega arith);
}
