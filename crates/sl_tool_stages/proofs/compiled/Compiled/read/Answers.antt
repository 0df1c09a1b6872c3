use Rattle.std.proofs.Common.{◌≡◌, Ok, ap, subst, sym}
use Rattle.sl_ast.specs.Views.{indexes_of, items_of}
use Rattle.sl_ast.specs.declared.items.Spec.{Spec}
use Rattle.sl_faithful_accepted.specs.Laws.{IsShort}
use Rattle.sl_bind_compile.specs.Outcomes.{Compiles}
use Rattle.sl_tool_stages.specs.StageViews.{compiled_view}
use Rattle.sl_tool_stages.specs.OriginView.{origin_view}
use Rattle.sl_tool_stages.specs.Packable.{IsPackable}
use Rattle.sl_tool_stages.specs.Places.{indexes_in}
use Rattle.sl_tool_stages.specs.Values.{tree}
use Rattle.sl_tool_stages.proofs.CompiledLemmas.{halts}
use Rattle.sl_tool_stages.proofs.compiled.Compiled.read.Goals as goal

pub invariant_of-result : goal.invariant_of-result
invariant_of-result c = record {
  indexes = subst (λ (x : Spec). indexes_of x ≡ indexes_in (origin_view c.args.tree.origin) (items_of x)) (sym c.in-Ok.ensures.kept) c.args.tree.indexes;
  short = subst (λ (x : Spec). IsShort (items_of x)) (sym c.in-Ok.ensures.kept) c.args.tree.short;
}

pub returns-in-Ok-clause-gives : goal.returns-in-Ok-clause-gives
returns-in-Ok-clause-gives c =
    let kept = c.in-Ok.ensures.kept in (
      ap (λ (s : Spec). tree (origin_view c.args.tree.origin) (items_of s)) kept,
      subst (λ (s : Spec). Compiles (items_of s) (Ok c.in-Ok.specification.bound.tables)) kept c.in-Ok.ensures.compiled.compiles,
    )

pub returns-clause-gives : goal.returns-clause-gives
returns-clause-gives c =
    halts (origin_view c.args.tree.origin) c.args.tree.spec compiled_view c.in-Err.error c.refused.result c.args.tree.indexes c.in-Err.ensures.refused c.refused.ensures

pub returns-in-Ok-clause-packable : goal.returns-in-Ok-clause-packable
returns-in-Ok-clause-packable c = λ packable. subst (λ (x : Spec). IsPackable c.args.tree.origin x) (sym c.in-Ok.ensures.kept) packable
