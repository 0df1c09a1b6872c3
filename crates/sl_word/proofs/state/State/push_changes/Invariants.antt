use Rattle.std.proofs.Common.{◌-◌, ◌^◌}
use Rattle.sl_word.specs.Differences.{ListsChangesBefore}
use Rattle.sl_word.proofs.state.State.push_changes.Given as goal

abbrev pub invariant-loop-offset : goal.invariant-loop-offset
invariant-loop-offset l = ListsChangesBefore l.opening l.self l.space l.from l.list.items

abbrev pub decreases-loop-offset : goal.decreases-loop-offset
decreases-loop-offset l = 2 ^ 64 - l.from
