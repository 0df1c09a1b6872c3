use Rattle.std.proofs.Common.{sym, ap, ◌∙◌}
use Rattle.sl_ast.specs.Views.{items_of}
use Rattle.sl_bind_compile.specs.Outcomes.{item_of_ctor}
use Rattle.sl_tool_stages.specs.ItemLines.{place_of_line}
use Rattle.sl_tool_stages.specs.OriginView.{origin_view}
use Rattle.sl_tool_stages.proofs.ItemPlaceLemmas.{item_line}
use Rattle.sl_tool_stages.proofs.places.Places.place.Goals as goal

pub returns : goal.returns
returns c =
    let compiled = c.args.self.now.compiled.now in
    let o = origin_view compiled.origin in
    c.in_ok-place.ensures ∙ ap (place_of_line o) c.line-line.ensures
    ∙ sym (item_line o (items_of compiled.specification.bound.spec) (item_of_ctor compiled.specification.bound.tables c.args.ctor))
