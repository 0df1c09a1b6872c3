use Rattle.sl_asm_print.proofs.DigitLemmas.{decimal_read, hex_read}
use Rattle.sl_asm_print.proofs.digits.magnitude.Goals as goal
use Rattle.std.proofs.Common.{sym, subst, Bool}
use Rattle.sl_asm_print.proofs.DigitLemmas.{Reads}

pub returns-then-dec : goal.returns-then-dec
returns-then-dec c = subst (λ (b : Bool). Reads b c.args.text.now c.number_of.result) (sym c.if-dec.true) (decimal_read c.args.text.now c.number_of.result c.number_of.ensures)

pub returns-in-48 : goal.returns-in-48
returns-in-48 c = subst (λ (b : Bool). Reads b c.args.text.now c.number_of-in-48.result) (sym c.if-dec.false) (hex_read c.args.text.now c.number_of-in-48.result c.number_of-in-48.ensures)
