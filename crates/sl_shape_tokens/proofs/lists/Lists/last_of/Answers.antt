use Rattle.std.proofs.Common.{◌<◌, ◌∷◌, [], List, ℕ, length, get_or, ap, sym, ◌∙◌, arith}
use Rattle.sl_shape_tokens.proofs.NodeLemmas.{lists_length, one_list}
use Rattle.sl_shape_tokens.proofs.lists.Lists.last_of.Goals as goal

within : (c : goal.Then-other-token) → c.in_ok-last.last < length c.self.inside.nodes.items
within c =
    let last = c.in_ok-last.ensures in
    omega (arith, last.0, last.1, c.len.ensures, c.self.inside.nodes.ok.0)

pub returns-then-other-token-clause-there : goal.returns-then-other-token-clause-there
returns-then-other-token-clause-there c =
    let long = lists_length c.self.inside.nodes.items in
    omega (arith, within c, long, ap (λ (l : List (List ℕ)). length l) c.self.view_is)

pub returns-then-other-token-clause-list : goal.returns-then-other-token-clause-list
returns-then-other-token-clause-list c =
    let ns = c.self.inside.nodes.items in
    ap (λ (l : List (List ℕ)). get_or l c.in_ok-last.last []) (sym c.self.view_is)
    ∙ one_list ns c.in_ok-last.last c.in-One.other c.index.result.now (within c) c.index.ensures c.in-One.is
    ∙ ap (λ t. t ∷ []) c.if-other-token.true
