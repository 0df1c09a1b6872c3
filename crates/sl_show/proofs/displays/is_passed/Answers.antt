use Rattle.std.proofs.Common.{map, refl, sym, ◌∙◌, true, false}
use Rattle.sl_ast.specs.Views.{piece_of}
use Rattle.sl_spec_rules.proofs.Seen.{below_map, read_map}
use Rattle.sl_show.proofs.DisplayLemmas.{is_passed_at}
use Rattle.sl_show.proofs.displays.is_passed.Goals as goal

pub returns-then-is_blank : goal.returns-then-is_blank
returns-then-is_blank c =
    let pieces = c.args.display.now in
    is_passed_at (map piece_of pieces) c.args.index _ (below_map piece_of pieces c.args.index c.requires) (read_map piece_of pieces c.args.index _ c.requires)
    true c.ends_blanks.result (sym c.if-is_blank.true ∙ c.is_blank.ensures) c.ends_blanks.ensures

pub returns-else-is_blank : goal.returns-else-is_blank
returns-else-is_blank c =
    let pieces = c.args.display.now in
    c.if-is_blank.false
    ∙ is_passed_at (map piece_of pieces) c.args.index _ (below_map piece_of pieces c.args.index c.requires) (read_map piece_of pieces c.args.index _ c.requires)
    false _ (sym c.if-is_blank.false ∙ c.is_blank.ensures) refl
