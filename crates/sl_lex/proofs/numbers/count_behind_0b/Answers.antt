use Rattle.std.proofs.Common.{codes, rules}
use Rattle.sl_lex.specs.Bytes.{is_binary_digit}
use Rattle.sl_lex.proofs.SpelledLemmas.{stripped}
use Rattle.sl_lex.proofs.numbers.count_behind_0b.Goals as goal

pub returns-in-Some : goal.returns-in-Some
returns-in-Some c = stripped (codes "0b") is_binary_digit c.args.text.now c.as_slice.result.now c.strip_prefix.result c.in-Some.digits c.count_binary_digits.result
    (search rules) c.strip_prefix.ensures.cases c.in-Some.is c.count_binary_digits.ensures
