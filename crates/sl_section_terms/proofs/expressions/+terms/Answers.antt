use Rattle.std.proofs.Common.{◌≡◌, ◌+◌, OnOk, Some, ap, ◌∙◌, subst, rules, arith}
use Rattle.sl_ast.specs.Trees.{call}
use Rattle.sl_ast.specs.Views.{arguments, expression_of, expressions_of}
use Rattle.sl_section_flat.specs.Views.{terms_of}
use Rattle.sl_section_terms.specs.Scopes.{symbol_named}
use Rattle.sl_section_terms.specs.Dropped.{dropped_view}
use Rattle.sl_section_terms.specs.Terms.{dropped_of, single_integer, variables, variables_in}
use Rattle.sl_section_terms.proofs.TermLemmas.{drops_one, all_terms, all_counted, seen_call}
use Rattle.sl_section_terms.proofs.expressions.+terms.Goals as goal

pub term-returns-in-Some-dropped_of-clause-moved : goal.term-returns-in-Some-dropped_of-clause-moved
term-returns-in-Some-dropped_of-clause-moved t c =
    let es = arguments (expressions_of c.in-Call.es.items) in
    let is : expression_of c.args.e.now ≡ call c.in-Call.w.now es = ap expression_of c.in-Call.is ∙ seen_call c.in-Call.w c.in-Call.es in
    let drops : Some (dropped_view c.in-Some-dropped_of.found) ≡ dropped_of (symbol_named c.args.t.now c.args.names.now c.in-Call.w.now) (single_integer es) = grind (arith, rules) in
    let one : variables_in es ≡ 1 = drops_one _ es _ drops in
    let two : c.args.next.now + 2 ≡ c.args.next.now + variables (expression_of c.args.e.now) = omega (arith, one, ap variables is) in
    subst (λ n. OnOk c.name_dropped.result (c.name_dropped.new.next ≡ n)) two c.name_dropped.ensures.moved

pub terms-returns-clause-value : goal.terms-returns-clause-value
terms-returns-clause-value t c =
    all_terms c.args.t.now c.args.names.now c.args.next.now c.args.es.now (terms_of c.given.given.items) c.given.next c.given.index (omega (arith, c.given-test.false)) c.given.invariant.terms

pub terms-returns-clause-moved : goal.terms-returns-clause-moved
terms-returns-clause-moved t c =
    all_counted c.args.t.now c.args.names.now c.args.next.now c.args.es.now c.given.next c.given.index (omega (arith, c.given-test.false)) c.given.invariant.moved
