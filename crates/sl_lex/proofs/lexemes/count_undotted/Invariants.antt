use Rattle.std.proofs.Common.{◌≡◌, ◌+◌, drop}
use Rattle.sl_lex.specs.Found.{word_len}
use Rattle.sl_lex.proofs.lexemes.count_undotted.Given as goal

abbrev pub invariant-loop-i : goal.invariant-loop-i
invariant-loop-i l = word_len l.text ≡ l.i + word_len (drop l.i l.text)
