use Rattle.std.proofs.Common.{◌≡◌, ◌++◌, ◌∷◌, sym, subst}
use Rattle.std.specs.Prelude.{IfOk}
use Rattle.sl_ast.specs.Views.{kind_indexes}
use Rattle.sl_ast.specs.declared.items.ItemKind.{ItemKind}
use Rattle.sl_store_text.proofs.FirstLemmas.{adds_item}
use Rattle.sl_store_text.proofs.firsts.add_item.Goals as goal

pub returns-in-With : goal.returns-in-With
returns-in-With c =
    let item = c.args.item.now in
    let old = c.args.firsts.now.items in
    let new = c.add_inside.new.firsts.items in
    subst (λ (k : ItemKind). IfOk c.add_inside.result (λ x. new ≡ old ++ item.first ∷ kind_indexes k)) (sym c.in-With.is)
    (adds_item item.first c.in-With.inside.items c.as_slice.result.now old c.push.new.self.items new c.add_inside.result c.as_slice.ensures.value c.in_ok-push.ensures.items c.add_inside.ensures)
