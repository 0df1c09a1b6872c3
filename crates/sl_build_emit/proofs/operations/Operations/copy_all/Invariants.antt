use Rattle.std.proofs.Common.{◌≡◌, ◌++◌, drop}
use Rattle.sl_build_emit.specs.Views.{operations_of}
use Rattle.sl_build_emit.proofs.operations.Operations.copy_all.Given as goal

abbrev pub invariant-list : goal.invariant-list
invariant-list l = l.self ++ operations_of (drop l.index l.list) ≡ l.initial.self ++ operations_of l.list
