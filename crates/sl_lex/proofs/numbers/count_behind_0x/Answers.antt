use Rattle.std.proofs.Common.{codes, rules}
use Rattle.sl_lex.specs.Bytes.{is_hex_digit}
use Rattle.sl_lex.proofs.SpelledLemmas.{stripped}
use Rattle.sl_lex.proofs.numbers.count_behind_0x.Goals as goal

pub returns-in-Some : goal.returns-in-Some
returns-in-Some c = stripped (codes "0x") is_hex_digit c.args.text.now c.as_slice.result.now c.strip_prefix.result c.in-Some.digits c.count_hex_digits.result
    (search rules) c.strip_prefix.ensures.cases c.in-Some.is c.count_hex_digits.ensures
