use Rattle.std.proofs.Common.{List, ℕ, length, ap, arith}
use Rattle.sl_shape_tokens.proofs.NodeLemmas.{lists_length}
use Rattle.sl_shape_tokens.proofs.lists.Lists.len.Goals as goal

pub returns : goal.returns
returns c =
    let long = lists_length c.self.inside.nodes.items in
    omega (arith, long, ap (λ (l : List (List ℕ)). length l) c.self.view_is, c.len.ensures, c.self.inside.nodes.ok.0)
