use Rattle.std.proofs.Common.{ℕ, ◌+◌, ◌-◌, length, arith, sym, subst}
use Rattle.sl_sizes.specs.Nodes.{node_of, IsFixed}
use Rattle.sl_sizes.proofs.NodeLemmas.{is_open, is_fixed, fixed_range, size_made}
use Rattle.sl_sizes.proofs.nodes.fixed.Goals as goal

pub returns-then-node : goal.returns-then-node
returns-then-node c =
    is_open (length c.args.nodes.now) (node_of c.args.nodes.now) c.args.variable c.locate-place.result.root c.locate-place.result.shift c.requires.trees c.locate-place.ensures c.if-node.true

pub overflow_sub-node : goal.overflow_sub-node
overflow_sub-node c =
    let range = fixed_range (length c.args.nodes.now) (node_of c.args.nodes.now) c.args.variable c.locate-place.result.root c.locate-place.result.shift
    c.requires.trees c.requires.in_range c.locate-place.ensures c.if-node.false
    in
    omega (arith, range.0)

pub returns : goal.returns
returns c =
    let n = length c.args.nodes.now in
    let node = node_of c.args.nodes.now in
    let range = fixed_range n node c.args.variable c.locate-place.result.root c.locate-place.result.shift
    c.requires.trees c.requires.in_range c.locate-place.ensures c.if-node.false
    in
    let bytes : ℕ = (node_of c.args.nodes.now c.locate-place.result.root).least + c.locate-place.result.shift - 16 in
    size_made c.new.result _ _ bytes c.new.ensures.valid c.new.ensures.value (omega (arith, range.0)) (omega (arith, range.1))
    (λ size is. subst (λ x. IsFixed n node c.args.variable x) (sym is)
    (is_fixed n node c.args.variable c.locate-place.result.root c.locate-place.result.shift c.requires.trees c.locate-place.ensures c.if-node.false))
