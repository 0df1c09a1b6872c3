use Rattle.std.proofs.Common.{◌≡◌, drop}
use Rattle.sl_lex.specs.Bytes.{number, number_after}
use Rattle.sl_lex.proofs.numbers.number.Given as goal

abbrev pub invariant-loop-digit : goal.invariant-loop-digit
invariant-loop-digit l = number l.base l.digits ≡ number_after l.base l.value (drop l.digit-index l.digits)
