use Rattle.std.proofs.Common.{arith}
use Rattle.sl_list_instructions.proofs.WritingLemmas.{piece_more}
use Rattle.sl_list_instructions.proofs.writing.write_all.Goals as goal

pub pieces-preserved : goal.pieces-preserved
pieces-preserved g c = record {
  within = omega (arith, c.in-Ok.ensures.some.1);
  written = piece_more _ _ _ c.args.text.now c.pieces.at c.in-Ok.count c.pieces.invariant.written c.in-Ok.ensures.appends;
  faults = omega (arith, c.put.ensures.sink.never_falls);
  calls = omega (arith, c.put.ensures.sink.goes_on);
}
