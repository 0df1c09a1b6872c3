use Rattle.std.proofs.Common.{List, map, subst}
use Rattle.sl_ast.specs.Views.{item_of, items_of}
use Rattle.sl_ast.specs.declared.items.Item.{Item}
use Rattle.sl_bind.specs.Sections.{AreParts}
use Rattle.sl_bind.proofs.VerdictLemmas.{parts_bind}
use Rattle.sl_section_sizes.specs.Sizings.{lists_of}
use Rattle.sl_bind.proofs.bound.bind.Goals as goal

pub returns-in-Ok-clause-bound : goal.returns-in-Ok-clause-bound
returns-in-Ok-clause-bound c =
    let t = c.in-Ok.parts.tables in
    let sizes = lists_of c.in-Ok.parts.sizes.items in
    parts_bind (items_of c.args.spec) t sizes
    (subst (λ (items : List Item). AreParts (map item_of items) t sizes) c.as_slice.ensures.value c.in-Ok.ensures.kept)
