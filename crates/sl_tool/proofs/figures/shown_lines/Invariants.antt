use Rattle.sl_tool.specs.Figures.{CountsSo}
use Rattle.sl_tool.proofs.figures.shown_lines.Given as goal

abbrev pub invariant-bytes : goal.invariant-bytes
invariant-bytes l = CountsSo l.text l.byte-index l.count l.is_marked
