use Rattle.sl_word.specs.Differences.{ListsChangesBefore}
use Rattle.sl_word.proofs.state.State.changes.Given as goal

abbrev pub invariant-loop-space : goal.invariant-loop-space
invariant-loop-space l = ListsChangesBefore l.opening l.self l.space 0 l.list.items
