use Rattle.std.proofs.Common.{[], map, refl, subst, sym}
use Rattle.std.specs.Prelude.{IfOk}
use Rattle.sl_ast.specs.Views.{constructor_of, kind_of}
use Rattle.sl_ast.specs.declared.items.ItemKind.{ItemKind}
use Rattle.sl_ast.specs.declared.items.ItemKind.TheVariants as kind
use Rattle.sl_spec.specs.Unfolded.{placed}
use Rattle.sl_spec.specs.Walks.{AddsItem}
use Rattle.sl_spec.proofs.NumberLemmas.{keeps_numbered}
use Rattle.sl_spec.proofs.WalkLemmas.{adds_other, adds_own}
use Rattle.sl_spec.proofs.unfolded.add_unfolded.Goals as goal

pub returns-in-Constructor-clause-added : goal.returns-in-Constructor-clause-added
returns-in-Constructor-clause-added c =
    let old = map placed c.args.all.now.items in
    let new = map placed c.add_constructor.new.all.items in
    subst (λ (k : ItemKind). IfOk c.add_constructor.result (λ next. AddsItem c.args.number (kind_of k) old next new)) (sym c.in-Constructor.is)
    (adds_own c.args.number (constructor_of c.in-Constructor.own) old new c.add_constructor.result c.add_constructor.ensures.added c.add_constructor.ensures.next)

pub returns-in-Define-clause-added : goal.returns-in-Define-clause-added
returns-in-Define-clause-added c =
    let all = map placed c.args.all.now.items in
    subst (λ (k : ItemKind). IfOk c.next.result (λ next. AddsItem c.args.number (kind_of k) all next all)) (sym c.in-Define.is)
    (adds_other c.args.number (kind_of (kind.Define c.in-Define.field-0)) all c.next.result (λ rest. refl) refl c.next.ensures)

pub returns-in-AttachList-clause-added : goal.returns-in-AttachList-clause-added
returns-in-AttachList-clause-added c =
    let all = map placed c.args.all.now.items in
    subst (λ (k : ItemKind). IfOk c.next-in-AttachList.result (λ next. AddsItem c.args.number (kind_of k) all next all)) (sym c.in-AttachList.is)
    (adds_other c.args.number (kind_of (kind.AttachList c.in-AttachList.field-0 c.in-AttachList.field-1 c.in-AttachList.field-2)) all c.next-in-AttachList.result (λ rest. refl) refl c.next-in-AttachList.ensures)

pub returns-in-AttachOne-clause-added : goal.returns-in-AttachOne-clause-added
returns-in-AttachOne-clause-added c =
    let all = map placed c.args.all.now.items in
    subst (λ (k : ItemKind). IfOk c.next-in-AttachOne.result (λ next. AddsItem c.args.number (kind_of k) all next all)) (sym c.in-AttachOne.is)
    (adds_other c.args.number (kind_of (kind.AttachOne c.in-AttachOne.field-0 c.in-AttachOne.field-1 c.in-AttachOne.field-2)) all c.next-in-AttachOne.result (λ rest. refl) refl c.next-in-AttachOne.ensures)

pub returns-in-Macro-clause-added : goal.returns-in-Macro-clause-added
returns-in-Macro-clause-added c =
    let all = map placed c.args.all.now.items in
    subst (λ (k : ItemKind). IfOk c.next-in-Macro.result (λ next. AddsItem c.args.number (kind_of k) all next all)) (sym c.in-Macro.is)
    (adds_other c.args.number (kind_of (kind.Macro c.in-Macro.field-0)) all c.next-in-Macro.result (λ rest. refl) refl c.next-in-Macro.ensures)

pub returns-in-Define-clause-numbered : goal.returns-in-Define-clause-numbered
returns-in-Define-clause-numbered c = keeps_numbered c.args.number [] c.args.all.now.items c.next.result c.next.ensures

pub returns-in-AttachList-clause-numbered : goal.returns-in-AttachList-clause-numbered
returns-in-AttachList-clause-numbered c = keeps_numbered c.args.number [] c.args.all.now.items c.next-in-AttachList.result c.next-in-AttachList.ensures

pub returns-in-AttachOne-clause-numbered : goal.returns-in-AttachOne-clause-numbered
returns-in-AttachOne-clause-numbered c = keeps_numbered c.args.number [] c.args.all.now.items c.next-in-AttachOne.result c.next-in-AttachOne.ensures

pub returns-in-Macro-clause-numbered : goal.returns-in-Macro-clause-numbered
returns-in-Macro-clause-numbered c = keeps_numbered c.args.number [] c.args.all.now.items c.next-in-Macro.result c.next-in-Macro.ensures
