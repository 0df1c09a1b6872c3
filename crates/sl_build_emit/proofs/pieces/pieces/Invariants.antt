use Rattle.std.proofs.Common.{◌≡◌, ◌++◌, drop}
use Rattle.sl_build_emit.specs.Views.{frame_of, setting_of}
use Rattle.sl_build_template.specs.Placed.{pieces_code}
use Rattle.sl_build_template.specs.Views.{pieces_of}
use Rattle.sl_build_emit.proofs.pieces.pieces.Given as goal

abbrev pub invariant-pieces : goal.invariant-pieces
invariant-pieces l =
    l.out ++ pieces_code l.site.top (setting_of l.site) (frame_of l.site) (pieces_of (drop l.index l.pieces))
    ≡ l.initial.out ++ pieces_code l.site.top (setting_of l.site) (frame_of l.site) (pieces_of l.pieces)
