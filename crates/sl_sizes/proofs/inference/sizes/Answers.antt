use Rattle.std.proofs.Common.{rules, ◌≡◌, ◌++◌, ◌∷◌, [], arith, sym, subst}
use Rattle.sl_sizes.specs.Solutions.{bytes_at}
use Rattle.sl_sizes.specs.Nodes.{node_of, IsOpen, IsFixed}
use Rattle.sl_sizes.proofs.NodeLemmas.{fixed_more}
use Rattle.sl_sizes.proofs.inference.sizes.Goals as goal

pub returns-in_default-clause-refused : goal.returns-in_default-clause-refused
returns-in_default-clause-refused c = (
  omega arith,
  subst (λ n. IsOpen n (node_of c.args.nodes.now) c.variables.variable) c.requires.count c.in_default.ensures,
  λ v below. (bytes_at c.variables.sizes.items v, c.variables.invariant.fixed v below),
)

pub variables-preserved : goal.variables-preserved
variables-preserved c =
    let items : c.push.new.self.items ≡ c.variables.sizes.items ++ c.in-Some.size ∷ [] = search rules in
    record {
      count = search rules;
      fixed = λ v below. subst (λ sizes. IsFixed c.args.variables (node_of c.args.nodes.now) v (bytes_at sizes v)) (sym items)
          (fixed_more c.args.variables c.variables.variable (node_of c.args.nodes.now) c.variables.sizes.items c.in-Some.size (search rules) c.variables.invariant.fixed
          (subst (λ n. IsFixed n (node_of c.args.nodes.now) c.variables.variable c.in-Some.size.bytes) c.requires.count c.in-Some.ensures) v below);
    }

pub returns-clause-fixed : goal.returns-clause-fixed
returns-clause-fixed c = λ v below. c.variables.invariant.fixed v (omega arith)
