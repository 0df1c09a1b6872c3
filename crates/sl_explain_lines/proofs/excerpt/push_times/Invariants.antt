use Rattle.std.proofs.Common.{◌≡◌, ◌++◌, replicate}
use Rattle.sl_explain_lines.proofs.excerpt.push_times.Given as goal

abbrev pub invariant-times : goal.invariant-times
invariant-times l = l.out.items ≡ l.initial.out.items ++ replicate l._time l.byte
