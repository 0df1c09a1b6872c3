use Rattle.std.proofs.Common.{ap, sym, refl, ◌∙◌}
use Rattle.sl_ast.specs.Views.{constructor_of, head_of, inside_of, kind_of}
use Rattle.sl_ast.specs.declared.items.ItemKind.{ItemKind}
use Rattle.sl_bind.proofs.ItemLemmas.{carried, of_block, of_constructor, single_run}
use Rattle.sl_bind.specs.Verdict.{placed_step}
use Rattle.sl_spec_rules.specs.Demands.{run}
use Rattle.sl_spec.specs.Unfolded.{unfolded_one}
use Rattle.sl_spec.specs.ConstructorItems.{constructors_in}
use Rattle.sl_bind.proofs.items.take_unfolded.Goals as goal

pub returns-in-Constructor : goal.returns-in-Constructor
returns-in-Constructor c =
    let n = c.args.number in
    let one = ap (λ (k : ItemKind). unfolded_one n (kind_of k)) c.in-Constructor.is in
    let are = of_constructor n (constructor_of c.in-Constructor.field-0) c.args.constructors.now (c.requires.placed ∙ ap constructors_in one) in
    carried _ c.take_constructors.result _ _ (ap (run (placed_step c.args.whole.now) c.args.progress.now) (are ∙ sym one)) c.take_constructors.ensures

pub returns-in-With : goal.returns-in-With
returns-in-With c =
    let n = c.args.number in
    let one = ap (λ (k : ItemKind). unfolded_one n (kind_of k)) c.in-With.is in
    let are = of_block n (head_of c.in-With.field-0) (inside_of c.in-With.field-1.items) c.args.constructors.now (c.requires.placed ∙ ap constructors_in one) in
    carried _ c.take_constructors-in-With.result _ _ (ap (run (placed_step c.args.whole.now) c.args.progress.now) (are ∙ sym one)) c.take_constructors-in-With.ensures

pub returns-in-Define : goal.returns-in-Define
returns-in-Define c =
    carried _ c.take_single.result _ _
    (single_run c.args.whole.now c.args.progress.now c.args.number c.args.item.now.kind _ c.in-Define.is refl refl) c.take_single.ensures

pub returns-in-AttachList : goal.returns-in-AttachList
returns-in-AttachList c =
    carried _ c.take_single-in-AttachList.result _ _
    (single_run c.args.whole.now c.args.progress.now c.args.number c.args.item.now.kind _ c.in-AttachList.is refl refl) c.take_single-in-AttachList.ensures

pub returns-in-AttachOne : goal.returns-in-AttachOne
returns-in-AttachOne c =
    carried _ c.take_single-in-AttachOne.result _ _
    (single_run c.args.whole.now c.args.progress.now c.args.number c.args.item.now.kind _ c.in-AttachOne.is refl refl) c.take_single-in-AttachOne.ensures

pub returns-in-Macro : goal.returns-in-Macro
returns-in-Macro c =
    carried _ c.take_single-in-Macro.result _ _
    (single_run c.args.whole.now c.args.progress.now c.args.number c.args.item.now.kind _ c.in-Macro.is refl refl) c.take_single-in-Macro.ensures
