use Rattle.std.proofs.Common.{map, sym, ◌∙◌}
use Rattle.sl_ast.specs.Views.{piece_of}
use Rattle.sl_spec_rules.proofs.Seen.{below_map, read_map}
use Rattle.sl_spec_constructors.specs.Displays.{behind, is_blank}
use Rattle.sl_spec_constructors.proofs.DisplayLemmas.{behind_goes, behind_stops}
use Rattle.sl_spec_constructors.proofs.displays.blanks.Goals as goal

pub returns-then-not-is_blank-clause-rest : goal.returns-then-not-is_blank-clause-rest
returns-then-not-is_blank-clause-rest c =
    let pieces = c.args.pieces.now in
    let below = c.pieces-test.true in
    behind_stops is_blank (map piece_of pieces) (behind is_blank (map piece_of pieces)) c.pieces.index _ (below_map piece_of pieces c.pieces.index below)
    (read_map piece_of pieces c.pieces.index _ below) (sym c.is_blank.ensures ∙ c.if-not-is_blank.true) c.pieces.invariant

pub pieces-preserved : goal.pieces-preserved
pieces-preserved c =
    let pieces = c.args.pieces.now in
    let below = c.pieces-test.true in
    behind_goes is_blank (map piece_of pieces) (behind is_blank (map piece_of pieces)) c.pieces.index _ (below_map piece_of pieces c.pieces.index below)
    (read_map piece_of pieces c.pieces.index _ below) (sym c.is_blank.ensures ∙ c.if-not-is_blank.false) c.pieces.invariant
