use Rattle.std.proofs.Common.{rules, ◌≡◌, length, subst}
use Rattle.std.proofs.lemmas.Result.{IfOk-weaker, IfErr-weaker}
use Rattle.sl_sizes.specs.Solutions.{IsFirstClash, bytes_at}
use Rattle.sl_sizes.specs.Nodes.{node_of, StandFor}
use Rattle.sl_sizes.proofs.SolutionLemmas.{only_solution, reason}
use Rattle.sl_sizes.proofs.inference.infer.Goals as goal

pub returns-in-Some-clause-refused : goal.returns-in-Some-clause-refused
returns-in-Some-clause-refused c =
    let count : length c.as_mut_slice-nodes.result.now ≡ c.args.variables = search rules in
    subst (λ n. IsFirstClash n c.args.equations.now c.in-Some.index) count c.in-Some.ensures

pub returns-clause-sizes : goal.returns-clause-sizes
returns-clause-sizes c =
    let node = node_of c.first_clash.new.nodes in
    let count : length c.as_mut_slice-nodes.result.now ≡ c.args.variables = search rules in
    let stand = subst (λ n. StandFor n node c.args.equations.now) count c.in_default.ensures in
    IfOk-weaker c.sizes.result _ _ (λ sizes fixed. only_solution c.args.variables node c.args.equations.now (bytes_at sizes.items) c.requires stand fixed) c.sizes.ensures.fixed

pub returns-clause-refused : goal.returns-clause-refused
returns-clause-refused c =
    let node = node_of c.first_clash.new.nodes in
    let count : length c.as_mut_slice-nodes.result.now ≡ c.args.variables = search rules in
    let stand = subst (λ n. StandFor n node c.args.equations.now) count c.in_default.ensures in
    IfErr-weaker c.sizes.result _ _ (λ error h. reason c.args.variables node c.args.equations.now error stand h) c.sizes.ensures.refused
