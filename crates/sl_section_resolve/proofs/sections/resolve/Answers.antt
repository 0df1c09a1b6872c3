use Rattle.std.proofs.Common.{sym, subst, arith}
use Rattle.sl_ast.specs.Views.{statements_of}
use Rattle.sl_section_flat.specs.Numbered.{StepsBelow}
use Rattle.sl_section_flat.specs.Views.{steps_of}
use Rattle.sl_section_resolve.specs.MacroViews.{bodies_of}
use Rattle.sl_section_resolve.specs.Steps.{section_variables}
use Rattle.sl_section_resolve.proofs.BelowSteps.{section_below}
use Rattle.sl_section_resolve.proofs.sections.resolve.Goals as goal

pub invariant_of-result : goal.invariant_of-result
invariant_of-result c =
    let w = c.in_ok-work.work in
    let n = section_variables c.args.t.now (bodies_of c.args.macros.now) c.args.reach c.args.operands.now (statements_of c.args.body.now) in
    let below = section_below c.args.t.now (bodies_of c.args.macros.now) c.args.reach c.args.operands.now (statements_of c.args.body.now) in
    let numbered = subst (λ ss. StepsBelow n ss) (sym c.in_ok-work.ensures.steps) below in
    record {
      few = omega (arith, c.if-work-gt-MOST_VARIABLES.false);
      numbered = subst (λ k. StepsBelow k (steps_of w.steps.items)) (sym c.in_ok-work.ensures.variables) numbered;
    }
