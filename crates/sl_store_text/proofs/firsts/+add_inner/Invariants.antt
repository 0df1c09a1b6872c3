use Rattle.sl_store_text.specs.Firsts.{indexes_in}
use Rattle.sl_store_text.proofs.FirstLemmas.{IsJoined}
use Rattle.sl_store_text.proofs.firsts.+add_inner.Given as goal

abbrev pub invariant-inside : goal.invariant-inside
invariant-inside l = IsJoined indexes_in l.initial.firsts.items l.inside l.firsts.items l.index
