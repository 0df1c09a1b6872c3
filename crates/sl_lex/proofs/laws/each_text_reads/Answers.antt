use Rattle.sl_lex.proofs.SomeReading.{each_text_reads}
use Rattle.sl_lex.proofs.laws.each_text_reads.Goals as goal

pub returns : goal.returns
returns c = each_text_reads
