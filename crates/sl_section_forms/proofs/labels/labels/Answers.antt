use Rattle.std.proofs.Common.{◌≡◌, true, false, subst, arith}
use Rattle.sl_ast.specs.Views.{statement_of}
use Rattle.sl_section_forms.specs.Labels.{AddsLabel}
use Rattle.sl_section_forms.proofs.LabelLemmas.{found_ends, found_goes, found_stops}
use Rattle.sl_section_forms.proofs.labels.labels.Goals as goal

pub returns-then-not-fresh : goal.returns-then-not-fresh
returns-then-not-fresh c =
    let x = c.index-body-index.result in
    let twice : c.in_ok-fresh.fresh ≡ false = grind (arith, c.if-not-fresh.true) in
    let adds = subst (λ b. AddsLabel c.body.names (statement_of x) b c.add_label.new.names) twice c.in_ok-fresh.ensures in
    found_stops c.args.body.now c.body.names c.add_label.new.names c.body.index x c.body-test.true c.index-body-index.is adds c.body.invariant

pub body-preserved : goal.body-preserved
body-preserved c =
    let x = c.index-body-index.result in
    let fresh : c.in_ok-fresh.fresh ≡ true = grind (arith, c.if-not-fresh.false) in
    let adds = subst (λ b. AddsLabel c.body.names (statement_of x) b c.add_label.new.names) fresh c.in_ok-fresh.ensures in
    found_goes c.args.body.now c.body.names c.add_label.new.names c.body.index x c.body-test.true c.index-body-index.is adds c.body.invariant

pub returns : goal.returns
returns c = found_ends c.args.body.now c.body.names c.body.index c.body-test.false c.body.invariant
