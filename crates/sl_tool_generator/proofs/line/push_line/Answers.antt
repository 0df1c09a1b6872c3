use Rattle.std.specs.Prelude.{codes}
use Rattle.sl_tool_generator.specs.Line.{count_text, registers_text}
use Rattle.sl_tool_generator.proofs.Pieces.{six_pieces}
use Rattle.sl_tool_generator.proofs.line.push_line.Goals as goal

pub returns : goal.returns
returns c =
    rw (
      c.in_ok-extend_from_slice-2.ensures.items,
      c.in_ok-push_registers.ensures,
      c.in_ok-extend_from_slice.ensures.items,
      c.in_ok-push_count-3.ensures,
      c.in_ok-push_count-2.ensures,
      c.in_ok-push_count.ensures,
    )
    (six_pieces c.args.line.now.items (count_text (codes "gen ") c.args.figures.instructions)
    (count_text (codes ": 64 constructors, ") c.args.figures.listed) (count_text (codes " listed, ") c.args.figures.steps)
    (codes " steps, ") (registers_text c.args.figures) (codes "\n"))
