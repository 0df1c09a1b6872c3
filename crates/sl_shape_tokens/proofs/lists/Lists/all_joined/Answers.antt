use Rattle.std.proofs.Common.{◌≡◌, ◌++◌, [], ℕ, List, length, take, get_or, Some, sym, ap, ◌∙◌, arith}
use Rattle.std.proofs.lemmas.List.{take_more}
use Rattle.sl_shape_tokens.specs.Lists.{limited, list_at}
use Rattle.sl_shape_tokens.specs.Walks.{written}
use Rattle.sl_shape_tokens.proofs.ListLemmas.{keeps_limited, keeps_more}
use Rattle.sl_shape_tokens.proofs.NodeLemmas.{lists_length}
use Rattle.sl_shape_tokens.proofs.WalkLemmas.{written_push}
use Rattle.sl_shape_tokens.proofs.lists.Lists.all_joined.Goals as goal

pub parts-preserved : goal.parts-preserved
parts-preserved c =
    let old = c.args.self.now in
    let now = c.parts.self in
    let part = get_or c.args.parts.now c.parts.part-index 0 in
    let long = lists_length c.self.inside.nodes.items in
    let limit : c.len-limit.result ≡ length old = omega (arith, long, ap (λ (l : List (List ℕ)). length l) c.self.view_is, c.len-limit.ensures, c.self.inside.nodes.ok.0) in
    let next : list_at now c.limited.result ≡ get_or old part [] =
    ap (list_at now) (c.limited.ensures ∙ ap (λ n. limited n (Some part)) limit) ∙ keeps_limited old now c.parts.invariant.keeps (Some part) in
    record {
      keeps = keeps_more old now c.joined.new.self c.parts.invariant.keeps c.in_ok-all.ensures.keeps;
      there = c.in_ok-all.ensures.there;
      list = c.in_ok-all.ensures.list ∙ (λ k. c.parts.invariant.list k ++ next k)
          ∙ sym (written_push old (take c.parts.part-index c.args.parts.now) part)
          ∙ ap (written old) (sym (take_more c.args.parts.now c.parts.part-index 0 c.parts-test.true));
    }
