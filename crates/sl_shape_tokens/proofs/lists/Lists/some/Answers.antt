use Rattle.std.proofs.Common.{◌≡◌, List, ℕ, length, sym, ap, ◌∙◌, subst, arith}
use Rattle.sl_shape_tokens.specs.Lists.{IsAmong, limited, list_at}
use Rattle.sl_shape_tokens.proofs.ListLemmas.{limited_same, limited_there, some_full}
use Rattle.sl_shape_tokens.proofs.NodeLemmas.{lists_length}
use Rattle.sl_shape_tokens.proofs.lists.Lists.some.Goals as goal

found : (c : goal.After-limited) → c.limited.result ≡ limited (length c.args.self.now) c.args.list.0
found c =
    let long = lists_length c.self.inside.nodes.items in
    let e : c.len.result ≡ length c.args.self.now = omega (arith, long, ap (λ (l : List (List ℕ)). length l) c.self.view_is, c.len.ensures, c.self.inside.nodes.ok.0) in
    c.limited.ensures ∙ ap (λ n. limited n c.args.list.0) e

there : (c : goal.After-limited) → IsAmong c.args.self.now c.limited.result
there c = subst (IsAmong c.args.self.now) (sym (found c)) (limited_there c.args.self.now c.args.list.0)

pub returns-clause-same : goal.returns-clause-same
returns-clause-same c = ap (list_at c.args.self.now) (found c) ∙ limited_same c.args.self.now c.args.list.0

pub returns-clause-there : goal.returns-clause-there
returns-clause-there c = there c

pub returns-clause-full : goal.returns-clause-full
returns-clause-full c =
    some_full c.self.inside.nodes.items c.args.self.now c.self.view_is c.self.invariant c.limited.result (there c)
