use Rattle.std.proofs.Common.{◌≡◌, ◌-◌, suc, ℕ, sym, ap, subst, ◌∙◌, arith, get_or}
use Rattle.sl_base_graphs.specs.Reaching.{successors}
use Rattle.sl_base_graphs.specs.Searches.{IsStep, MeetsAt}
use Rattle.sl_base_graphs.specs.States.{State, open_at, place_of, taken}
use Rattle.sl_base_graphs.specs.Views.{graph_of}
use Rattle.sl_base_graphs.proofs.Stepping.{advances, goes_back}
use Rattle.sl_base_graphs.proofs.search.Search.advance.Goals as goal

pub returns-then-left-eq0 : goal.returns-then-left-eq0
returns-then-left-eq0 c =
    let g = graph_of c.args.graph.now in
    let s = c.args.self.now in
    let none : get_or s.left (open_at s c.args.position) 0 ≡ 0 = ap (λ v. get_or s.left v 0) (sym c.open_node-node.ensures) ∙ sym c.left_of-left.ensures ∙ c.if-left-eq0.true in
    subst (λ (t : State). IsStep g s t) (sym c.step_back.ensures) (goes_back g s c.requires.search c.args.position c.requires.on none)

pub returns : goal.returns
returns c =
    let g = graph_of c.args.graph.now in
    let s = c.args.self.now in
    let i = c.args.position in
    let l = c.left_of-left.result - 1 in
    let left : get_or s.left (open_at s i) 0 ≡ suc l = ap (λ v. get_or s.left v 0) (sym c.open_node-node.ensures) ∙ sym c.left_of-left.ensures ∙ omega (arith, c.if-left-eq0.false) in
    let next : c.successor.result ≡ get_or (successors g (open_at s i)) l 0 = c.successor.ensures ∙ ap (λ v. get_or (successors g v) l 0) c.open_node-node.ensures in
    let met : MeetsAt (place_of s (get_or (successors g (open_at s i)) l 0)) s (get_or (successors g (open_at s i)) l 0) c.meet.new.self =
    subst (λ (w : ℕ). MeetsAt (place_of s w) s w c.meet.new.self) next c.in_ok-meet.ensures in
    let is : c.take.new.self ≡ taken c.meet.new.self (open_at s i) l = c.take.ensures ∙ ap (λ v. taken c.meet.new.self v l) c.open_node-node.ensures in
    subst (λ (t : State). IsStep g s t) (sym is) (advances g s c.requires.search i c.requires.on l left c.meet.new.self met)
