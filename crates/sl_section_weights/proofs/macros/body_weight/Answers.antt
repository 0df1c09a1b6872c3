use Rattle.std.proofs.Common.{◌≡◌, ◌+◌, ℕ, map, min, ap, sym, ◌∙◌, arith}
use Rattle.sl_ast.specs.Trees.{Statement}
use Rattle.sl_ast.specs.Views.{statement_of, statements_of}
use Rattle.sl_section_resolve.specs.MacroViews.{bodies_of}
use Rattle.sl_spec_rules.proofs.Seen.{below_map, past_map, seen_map}
use Rattle.sl_spec_tables.proofs.CapLemmas.{all_together, one_together, sum_keeps}
use Rattle.sl_section_weights.proofs.BodyLemmas.{body_as, cut, statement_weight}
use Rattle.sl_section_weights.proofs.macros.body_weight.Goals as goal

pub statements-preserved : goal.statements-preserved
statements-preserved c =
    let g : Statement → ℕ = statement_weight (bodies_of c.args.macros.now) c.args.weights.now in
    let body = c.args.body.now in
    let i = c.statements.index in
    let x = c.index-body-index.result in
    let below = c.statements-test.true in
    let inside = below_map statement_of body i below in
    let a = c.call_weight.ensures in
    let b = c.min-called.ensures in
    let d = c.statement_size.ensures in
    let e = c.sum.ensures in
    let is_k : c.sum.result ≡ min (g (statement_of x)) 65537 = omega arith in
    let k = c.sum-weight.ensures in
    record {
      small = omega arith;
      alike = one_together 65537 (λ a b. a + b) (sum_keeps 65537) _ c.statements.weight c.sum-weight.result (g (statement_of x)) c.sum.result (map g (statements_of body)) i
          (below_map g (statements_of body) i inside) (seen_map g (statements_of body) i (statement_of x) inside (seen_map statement_of body i x below c.index-body-index.is)) is_k (omega arith) c.statements.invariant.alike;
    }

pub returns : goal.returns
returns c =
    let g : Statement → ℕ = statement_weight (bodies_of c.args.macros.now) c.args.weights.now in
    let body = c.args.body.now in
    let past = past_map g (statements_of body) c.statements.index (past_map statement_of body c.statements.index c.statements-test.false) in
    let all = all_together 65537 (λ a b. a + b) (sum_keeps 65537) _ c.statements.weight (map g (statements_of body)) c.statements.index past c.statements.invariant.alike in
    let small : c.statements.weight ≡ min c.statements.weight 65537 = (let s = c.statements.invariant.small in omega arith) in
    small ∙ all ∙ ap cut (sym (body_as (bodies_of c.args.macros.now) c.args.weights.now (statements_of body)))
