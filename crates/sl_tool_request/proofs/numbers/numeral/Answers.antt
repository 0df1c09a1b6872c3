use Rattle.std.proofs.Common.{◌∙◌, sym}
use Rattle.sl_tool_request.proofs.NumberLemmas.{numeral_is, plus_is_no_numeral}
use Rattle.sl_tool_request.proofs.numbers.numeral.Goals as goal

pub returns-then-begins_with_plus : goal.returns-then-begins_with_plus
returns-then-begins_with_plus c = plus_is_no_numeral c.args.radix c.args.digits.now c.requires.greatest (sym c.begins_with_plus.ensures ∙ c.if-begins_with_plus.true)

pub returns : goal.returns
returns c = c.ok.ensures.value ∙ numeral_is c.args.radix c.args.digits.now c.from_str_radix.result (sym c.begins_with_plus.ensures ∙ c.if-begins_with_plus.false) c.from_str_radix.ensures.value
