use Rattle.std.proofs.Common.{length, sym, arith, MatchBool, subst}
use Rattle.sl_sizes.specs.Solutions.{Holds}
use Rattle.sl_sizes.specs.Nodes.{node_of, Restricts, Refutes}
use Rattle.sl_sizes.proofs.NodeLemmas.{same_answer}
use Rattle.sl_sizes.proofs.inference.take_in.Goals as goal

pub returns-in-Is : goal.returns-in-Is
returns-in-Is c =
    let n = length c.args.nodes.now in
    let old = node_of c.args.nodes.now in
    let new = node_of c.give.new.nodes in
    subst (λ e. MatchBool c.give.result (Restricts n old new (λ size. Holds size e)) (Refutes n old (λ size. Holds size e))) (sym c.in-Is.is)
    (same_answer c.give.result n old new _ _ (λ size allowed. (λ e. omega (arith, c.into.ensures, c.get.ensures), λ e. omega (arith, c.into.ensures, c.get.ensures))) c.give.ensures)

pub returns-in-Equal : goal.returns-in-Equal
returns-in-Equal c =
    let n = length c.args.nodes.now in
    let old = node_of c.args.nodes.now in
    let new = node_of c.relate.new.nodes in
    subst (λ e. MatchBool c.relate.result (Restricts n old new (λ size. Holds size e)) (Refutes n old (λ size. Holds size e))) (sym c.in-Equal.is)
    (same_answer c.relate.result n old new _ _ (λ size allowed. (λ e. omega arith, λ e. omega arith)) c.relate.ensures)

pub returns-in-Less : goal.returns-in-Less
returns-in-Less c =
    let n = length c.args.nodes.now in
    let old = node_of c.args.nodes.now in
    let new = node_of c.relate-in-Less.new.nodes in
    subst (λ e. MatchBool c.relate-in-Less.result (Restricts n old new (λ size. Holds size e)) (Refutes n old (λ size. Holds size e))) (sym c.in-Less.is)
    (same_answer c.relate-in-Less.result n old new _ _ (λ size allowed. (λ e. omega (arith, c.into-in-Less.ensures), λ e. omega (arith, c.into-in-Less.ensures))) c.relate-in-Less.ensures)
