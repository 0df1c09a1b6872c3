use Rattle.std.proofs.Common.{subst}
use Rattle.sl_asm_values.proofs.GivingLemmas.{left_more, none_left}
use Rattle.sl_asm_values.specs.Halves.{IsOutcome}
use Rattle.sl_asm_values.proofs.narrowing.by_bits.Goals as goal

pub returns-in-Neither : goal.returns-in-Neither
returns-in-Neither c =
    let left = c.rounds.left.region.items in
    none_left c.args.t.now c.args.frame.now c.args.v.now c.args.wanted.now c.args.region.items left c.rounds.invariant.keeps
    (subst (IsOutcome c.args.t.now c.args.frame.now left c.args.v.now c.args.wanted.now) c.in-Neither.is (rw c.deref.ensures.value at c.in_ok-halved.ensures))

pub rounds-preserved : goal.rounds-preserved
rounds-preserved c =
    let left = c.rounds.left.region.items in
    left_more c.args.t.now c.args.frame.now c.args.v.now c.args.wanted.now c.args.region.items c.rounds.left c.in-One.one c.rounds.invariant
    (subst (IsOutcome c.args.t.now c.args.frame.now left c.args.v.now c.args.wanted.now) c.in-One.is (rw c.deref.ensures.value at c.in_ok-halved.ensures))
