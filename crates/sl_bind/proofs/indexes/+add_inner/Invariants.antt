use Rattle.sl_bind.specs.Indexes.{indexes_in}
use Rattle.sl_spec_rules.proofs.Gathers.{IsGathered}
use Rattle.sl_bind.proofs.indexes.+add_inner.Given as goal

abbrev pub invariant-inside : goal.invariant-inside
invariant-inside l = IsGathered indexes_in l.initial.all l.inside l.all l.index
