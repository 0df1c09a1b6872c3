use Rattle.std.proofs.Common.{sym, ◌∙◌}
use Rattle.sl_lex.specs.Bytes.{is_text_byte}
use Rattle.sl_lex.proofs.FaultLemmas.{blames_first, blames_quote, blames_inside}
use Rattle.sl_lex.proofs.RunLemmas.{run_within}
use Rattle.sl_lex.proofs.lexer.fault.Goals as goal

pub returns-then-text-ne34 : goal.returns-then-text-ne34
returns-then-text-ne34 c = λ mode none. blames_first mode c.args.from c.args.text.now c.requires.some c.if-text-ne34.true none

pub split_at-requires-2 : goal.split_at-requires-2
split_at-requires-2 c = run_within is_text_byte c.split_at.result.1.now c.count_text_bytes-count.result c.count_text_bytes-count.ensures

pub returns-then-is_at_line_end : goal.returns-then-is_at_line_end
returns-then-is_at_line_end c = λ mode none.
    blames_quote mode c.args.from c.args.text.now c.split_at.result.1.now c.split_at-2.result.1.now c.count_text_bytes-count.result c.requires.some c.if-text-ne34.false
    c.split_at.ensures.back c.count_text_bytes-count.ensures c.split_at-2.ensures.back (sym c.is_at_line_end.ensures ∙ c.if-is_at_line_end.true) none

pub returns-else-is_at_line_end : goal.returns-else-is_at_line_end
returns-else-is_at_line_end c = λ mode none.
    blames_inside mode c.args.from c.args.text.now c.split_at.result.1.now c.split_at-2.result.1.now c.count_text_bytes-count.result c.requires.some c.if-text-ne34.false
    c.split_at.ensures.back c.count_text_bytes-count.ensures c.split_at-2.ensures.back (sym c.is_at_line_end.ensures ∙ c.if-is_at_line_end.false) none
