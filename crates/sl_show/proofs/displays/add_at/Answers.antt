use Rattle.std.proofs.Common.{map, sym, ◌∙◌}
use Rattle.sl_ast.specs.Views.{piece_of}
use Rattle.sl_decode_leaves.specs.Extents.{leaves_at}
use Rattle.sl_spec_rules.proofs.Seen.{below_map, read_map}
use Rattle.sl_show.specs.Templates.{made}
use Rattle.sl_show.specs.Texts.{word_text}
use Rattle.sl_show.proofs.DisplayLemmas.{added, passed}
use Rattle.sl_show.proofs.displays.add_at.Goals as goal

pub returns-then-is_passed : goal.returns-then-is_passed
returns-then-is_passed c t s =
    let pieces = c.args.display.now in
    passed (map piece_of pieces) c.args.index (below_map piece_of pieces c.args.index c.requires)
    (word_text t c.args.operands.now (leaves_at s.lengths c.args.leaves.now) s) (made t s c.args.maker.now) (sym c.is_passed.ensures ∙ c.if-is_passed.true)

pub returns : goal.returns
returns c t s =
    let pieces = c.args.display.now in
    added (map piece_of pieces) c.args.index _ (below_map piece_of pieces c.args.index c.requires) (read_map piece_of pieces c.args.index _ c.requires)
    (word_text t c.args.operands.now (leaves_at s.lengths c.args.leaves.now) s) (made t s c.args.maker.now) (made t s c.add_piece.new.maker)
    (sym c.is_passed.ensures ∙ c.if-is_passed.false) (c.in_ok-add_piece.ensures t s)
