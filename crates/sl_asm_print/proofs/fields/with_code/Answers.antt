use Rattle.std.proofs.Common.{Option, subst}
use Rattle.sl_asm_bits.specs.declared.Known.{Known}
use Rattle.sl_asm_print.specs.Fields.{HasCode}
use Rattle.sl_asm_print.proofs.fields.with_code.Goals as goal

pub returns-in-Some-clause-before : goal.returns-in-Some-clause-before
returns-in-Some-clause-before c = λ n h. c.joint.ensures.left n (subst (λ (o : Option Known). HasCode o n) c.in-Some.is h)
