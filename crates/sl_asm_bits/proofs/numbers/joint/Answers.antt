use Rattle.sl_asm_bits.proofs.NumberLemmas.{left_has, right_has}
use Rattle.sl_asm_bits.proofs.numbers.joint.Goals as goal

pub returns-clause-left : goal.returns-clause-left
returns-clause-left c =
    let a = c.args.a.now in
    let b = c.args.b.now in
    λ n f. (c.under.ensures n).0 (left_has a.mask a.value b.mask b.value n f)

pub returns-clause-right : goal.returns-clause-right
returns-clause-right c =
    let a = c.args.a.now in
    let b = c.args.b.now in
    λ n f. (c.under.ensures n).0 (right_has a.mask a.value b.mask b.value n f)
