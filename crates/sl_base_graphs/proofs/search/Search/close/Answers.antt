use Rattle.std.proofs.Common.{◌≡◌, length, ap, ◌∙◌, arith}
use Rattle.sl_base_graphs.specs.States.{State, last_of}
use Rattle.sl_base_graphs.proofs.Closing.{closed_more, closed_none}
use Rattle.sl_base_graphs.proofs.search.Search.close.Goals as goal

pub group-init : goal.group-init
group-init c = closed_none c.args.self.now c.last-start.result
    (c.last-start.ensures ∙ ap last_of (c.as_slice.ensures.value ∙ ap (λ (s : State). s.starts) c.self.view_is))

pub group-preserved : goal.group-preserved
group-preserved c =
    let s = c.args.self.now in
    let start : c.last-start.result ≡ last_of s.starts = c.last-start.ensures ∙ ap last_of (c.as_slice.ensures.value ∙ ap (λ (s : State). s.starts) c.self.view_is) in
    let end : c.len-position-end.result ≡ length s.stack = c.len-position-end.ensures ∙ c.self.inside.stack.ok.0 ∙ ap (λ (s : State). length s.stack) c.self.view_is in
    closed_more s c.group.self c.shut.new.self c.requires.stack c.group.position c.len-number.result
    (let t = c.group-test.true in omega arith) (let a = c.group.auto.position in omega arith)
    (c.len-number.ensures ∙ c.self.inside.order.ok.0 ∙ ap (λ (s : State). length s.order) c.self.view_is) c.group.invariant c.in_ok-shut.ensures
