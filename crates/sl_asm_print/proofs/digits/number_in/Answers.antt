use Rattle.std.proofs.Common.{◌∙◌}
use Rattle.sl_asm_print.proofs.DigitLemmas.{below_zero, no_bytes, read_as, some_text}
use Rattle.sl_asm_print.proofs.digits.number_in.Goals as goal

pub returns-in_default : goal.returns-in_default
returns-in_default c = λ v fits e. absurd (some_text c.args.dec v fits (e ∙ no_bytes c.args.text.now c.in_default.ensures.cases))

pub returns-then-first-eq45 : goal.returns-then-first-eq45
returns-then-first-eq45 c = λ v fits e. read_as c.signed.result v fits
    (below_zero c.args.dec c.args.text.now c.in-Some.rest.now c.in-Some.first.now c.magnitude.result c.signed.result v c.in-Some.ensures.cases.0
    c.if-first-eq45.true c.magnitude.ensures c.signed.ensures.below fits e)
