use Rattle.std.proofs.Common.{◌≡◌, ℕ, List, [], Option, None, Some, sym, ap, ◌∙◌}
use Rattle.sl_ast.specs.Unfolding.{written}
use Rattle.sl_ast.specs.Views.{constructor_of}
use Rattle.sl_spec_rules.specs.Demands.{first_broken, unless_broken}
use Rattle.sl_spec_rules.specs.Names.{Name}
use Rattle.sl_spec.specs.Unfolded.{heads_of, under}
use Rattle.sl_spec_actions.specs.ActionRules.{action_demands}
use Rattle.sl_spec_actions.specs.Parts.{parts_of}
use Rattle.sl_spec_constructors.specs.FactSteps.{demands_before, operands_with}
use Rattle.sl_spec_constructors.specs.Operands.{operand_names, operands}
use Rattle.sl_spec_constructors.specs.Steps.{added, with_ctor}
use Rattle.sl_spec_constructors.specs.WholeText.{table_name}
use Rattle.sl_spec_constructors.proofs.DemandLemmas.{unbroken_before}
use Rattle.sl_spec_constructors.proofs.constructors.define_by.Goals as goal

pub returns-in-Some-broken : goal.returns-in-Some-broken
returns-in-Some-broken c =
    let tables = c.args.tables.now in
    let t = c.args.t.now in
    let f = c.args.facts.now in
    let of = c.args.of.now in
    let own = under (heads_of of.heads.items) (constructor_of of.own.now) in
    let actions = written own.actions in
    let those = operands_with tables t f actions in
    let judged_before : List Name → Option ℕ = λ names. first_broken (demands_before t own f names []) in
    let names : c.in_ok-names.names ≡ operand_names those =
    c.in_ok-names.ensures ∙ ap operand_names (c.as_slice.ensures.value ∙ c.in_ok-operands.ensures ∙ ap (operands t.fields tables f.bare) c.requires.given) in
    let none : judged_before (operand_names those) ≡ None = sym (ap judged_before names) ∙ sym c.in_ok-rule.ensures ∙ c.in_default.is in
    let broken : first_broken (action_demands tables t (parts_of tables own.pattern) actions) ≡ Some c.in-Some-broken.rule = sym c.requires.broken ∙ c.in-Some-broken.is in
    ap (λ b. unless_broken b (with_ctor t (table_name own) (added tables of.number own those)))
    (unbroken_before (demands_before t own f (operand_names those) []) (action_demands tables t (parts_of tables own.pattern) actions) none ∙ broken)
