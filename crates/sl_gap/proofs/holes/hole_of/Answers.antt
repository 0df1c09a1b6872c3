use Rattle.std.proofs.Common.{refl, subst}
use Rattle.sl_gap.specs.Findings.{TellsPoints}
use Rattle.sl_gap.proofs.holes.hole_of.Goals as goal

pub returns : goal.returns
returns c = λ t cs are own.
    let told = subst (TellsPoints t cs c.args.ctor c.args.operand.now.table c.args.operand.now.place) c.in-Some.is (c.in_ok-found.ensures t cs are own) in
    (refl, refl, told.0, told.1)
