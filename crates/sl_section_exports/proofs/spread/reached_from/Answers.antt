use Rattle.std.proofs.Common.{◌≡◌, ◌++◌, ◌∷◌, ◌-◌, [], List, ℕ, take, append-nil, ap, sym, subst, ◌∙◌, arith}
use Rattle.sl_base_graphs.specs.Views.{graph_of}
use Rattle.sl_section_exports.specs.Spreads.{IsSpread, none_open}
use Rattle.sl_section_exports.proofs.SpreadLemmas.{all_right, one_begun, one_round}
use Rattle.sl_section_exports.proofs.spread.reached_from.Goals as goal

pub starts-preserved : goal.starts-preserved
starts-preserved c =
    one_begun (graph_of c.args.graph.now) c.args.starts.now c.starts.spread.marks.items c.starts.spread.stack.items c.visit.new.self.marks.items c.visit.new.self.stack.items c.starts.index
    c.starts-test.true c.in_ok-visit.ensures c.starts.invariant

pub returns-in-None : goal.returns-in-None
returns-in-None c =
    let stack = c.rounds.spread.stack.items in
    let none : c.pop.new.self.items ≡ [] = c.in-None.ensures.rest ∙ ap (λ n. take (n - 1) stack) c.in-None.ensures.cases.0 in
    let empty : stack ≡ [] = c.in-None.ensures.items ∙ append-nil c.pop.new.self.items ∙ none in
    let graph = graph_of c.args.graph.now in
    let starts = c.args.starts.now in
    let marks = c.rounds.spread.marks.items in
    all_right graph starts marks (subst (λ (l : List ℕ). IsSpread graph starts starts none_open marks l) empty c.rounds.invariant)

pub rounds-preserved : goal.rounds-preserved
rounds-preserved c =
    one_round (graph_of c.args.graph.now) c.args.starts.now c.rounds.spread.marks.items c.rounds.spread.stack.items c.pop.new.self.items c.in-Some.node
    c.visit_all.new.self.marks.items c.visit_all.new.self.stack.items c.in-Some.ensures.items c.in_ok-visit_all-in-Some.ensures c.rounds.invariant
