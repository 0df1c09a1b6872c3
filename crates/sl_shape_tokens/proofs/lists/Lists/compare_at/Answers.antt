use Rattle.std.proofs.Common.{List, ℕ, length, Some, ap, sym, ◌∙◌, arith}
use Rattle.sl_shape_tokens.specs.Comparing.{compared}
use Rattle.sl_shape_tokens.specs.Lists.{list_at}
use Rattle.sl_shape_tokens.specs.declared.nodes.Node.{Node}
use Rattle.sl_shape_tokens.proofs.NodeLemmas.{lists_length}
use Rattle.sl_shape_tokens.proofs.WalkLemmas.{compared_itself}
use Rattle.sl_shape_tokens.proofs.lists.Lists.compare_at.Goals as goal

pub returns-then-first-second : goal.returns-then-first-second
returns-then-first-second c =
    sym (compared_itself (list_at c.args.self.now (Some c.args.first)))
    ∙ ap (λ i. compared (list_at c.args.self.now (Some c.args.first)) (list_at c.args.self.now (Some i))) c.if-first-second.true

pub split_of-requires-clause-first : goal.split_of-requires-clause-first
split_of-requires-clause-first c =
    let long = lists_length c.self.inside.nodes.items in
    omega (arith, c.requires.first, long, ap (λ (l : List (List ℕ)). length l) c.self.view_is, ap (λ (l : List Node). length l) c.as_slice.ensures.value)

pub split_of-requires-clause-second : goal.split_of-requires-clause-second
split_of-requires-clause-second c =
    let long = lists_length c.self.inside.nodes.items in
    omega (arith, c.requires.second, long, ap (λ (l : List (List ℕ)). length l) c.self.view_is, ap (λ (l : List Node). length l) c.as_slice.ensures.value)
