use Rattle.sl_lex.proofs.StandLemmas.{mark_at, word_at_front, nothing_at}
use Rattle.sl_lex.proofs.lexemes.word_or_mark.Goals as goal

pub returns-then-word-mark : goal.returns-then-word-mark
returns-then-word-mark c = (
  mark_at c.args.mode c.args.text.now c.count_word-word.result c.count_mark-mark.result c.requires.outside c.requires.some c.requires.other c.count_word-word.ensures
      c.count_mark-mark.ensures c.if-word-mark.true,
  tt,
)

pub returns-then-word-gt0 : goal.returns-then-word-gt0
returns-then-word-gt0 c = (
  word_at_front c.args.mode c.args.text.now c.count_word-word.result c.count_mark-mark.result c.requires.outside c.requires.some c.requires.other c.count_word-word.ensures
      c.count_mark-mark.ensures c.if-word-mark.false c.if-word-gt0.true,
  tt,
)

pub returns-else-word-gt0 : goal.returns-else-word-gt0
returns-else-word-gt0 c =
    nothing_at c.args.mode c.args.text.now c.count_word-word.result c.count_mark-mark.result c.requires.outside c.requires.some c.requires.other c.count_word-word.ensures
    c.count_mark-mark.ensures c.if-word-mark.false c.if-word-gt0.false
