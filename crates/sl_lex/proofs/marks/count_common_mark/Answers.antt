use Rattle.std.proofs.Common.{sym, ◌∙◌}
use Rattle.sl_lex.proofs.MarkLemmas.{long_here, single_here, neither_here}
use Rattle.sl_lex.proofs.marks.count_common_mark.Goals as goal

pub returns-then-long-gt0 : goal.returns-then-long-gt0
returns-then-long-gt0 c = long_here c.args.text.now c.longest_of-long.result c.if-long-gt0.true c.longest_of-long.ensures

pub returns-then-is_mark_byte : goal.returns-then-is_mark_byte
returns-then-is_mark_byte c =
    single_here c.args.text.now c.longest_of-long.result c.requires c.if-long-gt0.false (sym c.is_mark_byte.ensures ∙ c.if-is_mark_byte.true) c.longest_of-long.ensures

pub returns-else-is_mark_byte : goal.returns-else-is_mark_byte
returns-else-is_mark_byte c =
    neither_here c.args.text.now c.longest_of-long.result c.requires c.if-long-gt0.false (sym c.is_mark_byte.ensures ∙ c.if-is_mark_byte.false) c.longest_of-long.ensures
