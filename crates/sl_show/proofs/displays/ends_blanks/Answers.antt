use Rattle.std.proofs.Common.{map, sym, ap, ◌∙◌}
use Rattle.sl_ast.specs.Views.{piece_of}
use Rattle.sl_spec_rules.proofs.Seen.{below_map, seen_map}
use Rattle.sl_show.specs.Pieces.{ends_blanks}
use Rattle.sl_show.proofs.DisplayLemmas.{at}
use Rattle.sl_show.proofs.displays.ends_blanks.Goals as goal

pub returns-in-Some : goal.returns-in-Some
returns-in-Some c =
    let pieces = c.args.pieces.now in
    let piece = c.in-Some.piece.now in
    let below = c.in-Some.ensures.lookup.3.0 in
    c.is_blank.ensures ∙ sym (ap ends_blanks (at (map piece_of pieces) c.args.index (piece_of piece) (below_map piece_of pieces c.args.index below)
    (seen_map piece_of pieces c.args.index piece below c.in-Some.ensures.lookup.1)))
