use Rattle.std.proofs.Common.{sym, ◌∙◌}
use Rattle.sl_lex.proofs.MarkLemmas.{lettered, unlettered}
use Rattle.sl_lex.proofs.marks.count_mark.Goals as goal

pub returns-then-is_letter : goal.returns-then-is_letter
returns-then-is_letter c =
    lettered c.args.mode c.args.text.now c.count_lettered_mark.result c.requires.outside c.requires.some (sym c.is_letter.ensures ∙ c.if-is_letter.true) c.count_lettered_mark.ensures

pub returns-else-is_letter : goal.returns-else-is_letter
returns-else-is_letter c =
    unlettered c.args.mode c.args.text.now c.count_common_mark.result c.requires.outside c.requires.some (sym c.is_letter.ensures ∙ c.if-is_letter.false) c.count_common_mark.ensures
