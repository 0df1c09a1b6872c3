use Rattle.std.proofs.Common.{◌≡◌, ◌-◌, drop, length}
use Rattle.sl_build.specs.Pieces.{pieces}
use Rattle.sl_build.specs.Views.{gives_in, list_in, pieces_of, rows_in, section_in, setting_in}
use Rattle.sl_build.proofs.trees.trees.Given as goal

abbrev pub invariant-nodes : goal.invariant-nodes
invariant-nodes l =
    pieces_of l.done.items ≡ pieces (section_in l.w) (setting_in l.w) (list_in l.w) (gives_in l.w) (length l.nodes - l.round) (drop (length l.nodes - l.round) (rows_in l.w l.nodes))
