use Rattle.std.proofs.Common.{List, ℕ, length, ap, arith}
use Rattle.sl_shape_tokens.specs.declared.nodes.Node.TheVariants.{Joined}
use Rattle.sl_shape_tokens.proofs.ListLemmas.{added_below, added_keeps, added_list, added_there}
use Rattle.sl_shape_tokens.proofs.NodeLemmas.{lists_length}
use Rattle.sl_shape_tokens.proofs.lists.Lists.join.Goals as goal

pub invariant_of-self-2 : goal.invariant_of-self-2
invariant_of-self-2 c =
    let ns = c.self.inside.nodes.items in
    let long = lists_length ns in
    let same = ap (λ (l : List (List ℕ)). length l) c.self.view_is in
    added_below ns (Joined c.args.first c.args.second) c.push.new.self.items c.in_ok-push.ensures.items c.self.invariant
    (omega (arith, long, same, c.requires.first, c.requires.second))

pub returns-clause-keeps : goal.returns-clause-keeps
returns-clause-keeps c =
    added_keeps c.self.inside.nodes.items (Joined c.args.first c.args.second) c.args.self.now c.push.new.self.items c.self.view_is c.in_ok-push.ensures.items

pub returns-clause-there : goal.returns-clause-there
returns-clause-there c =
    added_there c.self.inside.nodes.items (Joined c.args.first c.args.second) c.args.self.now c.push.new.self.items c.self.view_is c.in_ok-push.ensures.items
    c.len-number.result (omega (arith, c.len-number.ensures, c.self.inside.nodes.ok.0))

pub returns-clause-list : goal.returns-clause-list
returns-clause-list c =
    added_list c.self.inside.nodes.items (Joined c.args.first c.args.second) c.args.self.now c.push.new.self.items c.self.view_is c.in_ok-push.ensures.items
    c.len-number.result (omega (arith, c.len-number.ensures, c.self.inside.nodes.ok.0))
