use Rattle.sl_asm_values.proofs.SideLemmas.{sides_of_and, sides_of_or, sides_of_shift, sides_of_sum}
use Rattle.sl_asm_values.proofs.sides.sides.Goals as goal

pub returns-in-Add : goal.returns-in-Add
returns-in-Add c =
    rw c.in-Add.is (sides_of_sum c.args.wanted.now c.args.first.now c.args.second.now c.side_of_sum.result c.side_of_sum-in-Add.result c.side_of_sum.ensures c.side_of_sum-in-Add.ensures)

pub returns-in-And : goal.returns-in-And
returns-in-And c =
    rw c.in-And.is (sides_of_and c.args.wanted.now c.args.first.now c.args.second.now c.side_of_and.result c.side_of_and-in-And.result c.side_of_and.ensures c.side_of_and-in-And.ensures)

pub returns-in-Or : goal.returns-in-Or
returns-in-Or c =
    rw c.in-Or.is (sides_of_or c.args.wanted.now c.args.first.now c.args.second.now c.side_of_or.result c.side_of_or-in-Or.result c.side_of_or.ensures c.side_of_or-in-Or.ensures)

pub returns-in-ShiftLeft : goal.returns-in-ShiftLeft
returns-in-ShiftLeft c =
    rw c.in-ShiftLeft.is (sides_of_shift c.args.wanted.now c.args.first.now c.args.second.now c.side_of_shift.result c.nothing.result c.side_of_shift.ensures c.nothing.ensures)
