use Rattle.std.proofs.Common.{◌≡◌, ◌++◌, drop, map}
use Rattle.sl_ast.specs.Views.{piece_of}
use Rattle.sl_decode_leaves.specs.Extents.{leaves_at}
use Rattle.sl_show.specs.Pieces.{pieces_text}
use Rattle.sl_show.specs.Templates.{made}
use Rattle.sl_show.specs.Texts.{Spot, word_text}
use Rattle.sl_spec.specs.declared.tables.Tables.{Tables}
use Rattle.sl_show.proofs.displays.add_rest.Given as goal

abbrev pub invariant-pieces : goal.invariant-pieces
invariant-pieces l = (t : Tables) (s : Spot) → made t s l.maker ++ pieces_text (word_text t l.operands (leaves_at s.lengths l.leaves) s) (drop l.index (map piece_of l.display))
    ≡ made t s l.initial.maker ++ pieces_text (word_text t l.operands (leaves_at s.lengths l.leaves) s) (drop l.from (map piece_of l.display))
