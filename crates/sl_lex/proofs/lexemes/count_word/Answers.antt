use Rattle.std.proofs.Common.{sym, ◌∙◌}
use Rattle.sl_lex.proofs.WordLemmas.{word_at}
use Rattle.sl_lex.proofs.lexemes.count_word.Goals as goal

pub returns-then-begins_word : goal.returns-then-begins_word
returns-then-begins_word c =
    word_at c.args.text.now c.count_undotted.result c.requires (sym c.begins_word.ensures ∙ c.if-begins_word.true) c.count_undotted.ensures
