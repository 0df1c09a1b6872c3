use Rattle.std.proofs.Common.{ap, ◌∙◌}
use Rattle.sl_ast.specs.Views.{statement_of, statements_of}
use Rattle.sl_spec_rules.proofs.Seen.{below_map, past_map, seen_map}
use Rattle.sl_section_rules.proofs.HoldingLemmas.{holding_ends, holding_goes}
use Rattle.sl_section_rules.specs.Holding.{both}
use Rattle.sl_section_rules.specs.declared.holding.Holds.{Holds}
use Rattle.sl_section_rules.proofs.holding.all_holding.Goals as goal

pub body-preserved : goal.body-preserved
body-preserved c =
    let body = c.args.body.now in
    let i = c.body.index in
    let x = c.index-body-index.result in
    holding_goes c.args.whole.now c.args.t.now c.args.macros.now (statements_of body) c.args.scope.now
    c.body.holds c.both-holds.result c.body.scope c.go_behind.new.scope i (statement_of x)
    (below_map statement_of body i c.body-test.true) (seen_map statement_of body i x c.body-test.true c.index-body-index.is)
    (c.both-holds.ensures ∙ ap (λ (h : Holds). both c.body.holds h) c.holding.ensures) c.in_ok-go_behind.ensures c.body.invariant

pub returns : goal.returns
returns c =
    holding_ends c.args.whole.now c.args.t.now c.args.macros.now (statements_of c.args.body.now) c.args.scope.now c.body.holds c.body.scope c.body.index
    (past_map statement_of c.args.body.now c.body.index c.body-test.false) c.body.invariant
