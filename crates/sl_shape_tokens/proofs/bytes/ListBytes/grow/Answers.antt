use Rattle.std.proofs.Common.{◌<◌, ◌≤◌, ◌++◌, ◌∷◌, [], List, ℕ, length, ap, ◌∙◌, arith}
use Rattle.sl_shape_tokens.proofs.ByteLemmas.{knows_all, knows_more}
use Rattle.sl_shape_tokens.proofs.NodeLemmas.{lists_length}
use Rattle.sl_shape_tokens.proofs.bytes.ListBytes.grow.Goals as goal

pub nodes-preserved : goal.nodes-preserved
nodes-preserved c =
    let ns = c.lists.inside.nodes.items in
    let known = c.nodes.self.known.items in
    let within : c.nodes.index < length ns = omega (arith, c.nodes-test.true, c.len-index-end.ensures, c.lists.inside.nodes.ok.0) in
    record {
      sizes = c.nodes.invariant.sizes;
      knows = λ old knows keeps.
          knows_more ns c.args.lists.now c.lists.view_is c.lists.invariant c.nodes.self.sizes.items known c.nodes.index within (c.nodes.invariant.knows old knows keeps)
          c.index.result.now c.push.new.self.items c.index.ensures (c.in_ok-push.ensures.items ∙ ap (λ n. known ++ n ∷ []) c.of_node-bytes.ensures);
    }

pub returns-clause-knows : goal.returns-clause-knows
returns-clause-knows c = λ old knows keeps.
    let long = lists_length c.lists.inside.nodes.items in
    let end : length c.args.lists.now ≤ c.nodes.index =
    omega (arith, long, ap (λ (l : List (List ℕ)). length l) c.lists.view_is, c.nodes-test.false, c.len-index-end.ensures, c.lists.inside.nodes.ok.0) in
    knows_all c.nodes.self.sizes.items c.nodes.self.known.items c.args.lists.now c.nodes.index end (c.nodes.invariant.knows old knows keeps)
