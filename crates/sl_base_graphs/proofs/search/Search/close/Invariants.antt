use Rattle.std.proofs.Common.{◌≡◌}
use Rattle.sl_base_graphs.specs.States.{closed_to}
use Rattle.sl_base_graphs.proofs.search.Search.close.Given as goal

abbrev pub invariant-group : goal.invariant-group
invariant-group l = l.self ≡ closed_to l.initial.self l.position
