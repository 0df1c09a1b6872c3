use Rattle.std.proofs.Common.{arith}
use Rattle.sl_outside.proofs.memory.MemSinkSink.put.Goals as goal

pub returns-then-count-clause-sink : goal.returns-then-count-clause-sink
returns-then-count-clause-sink c = record {
  never_falls = omega (arith, c.count.ensures.faults, c.fail.ensures.never_falls);
  failed = λ h. omega (arith, c.count.ensures.faults, c.fail.ensures.faults);
  goes_on = omega (arith, c.count.ensures.goes_on, c.fail.ensures.made);
}

pub returns-then-is_err-clause-sink : goal.returns-then-is_err-clause-sink
returns-then-is_err-clause-sink c = record { never_falls = omega (arith, c.count.ensures.faults); failed = λ h. absurd (cc); goes_on = c.count.ensures.goes_on }

pub returns-clause-sink : goal.returns-clause-sink
returns-clause-sink c = record { never_falls = omega (arith, c.count.ensures.faults); failed = λ h. absurd (cc); goes_on = c.count.ensures.goes_on }
