use Rattle.sl_choose.proofs.EntryLemmas.{EntriesFirst}
use Rattle.sl_choose.proofs.entries.entries_of.Given as goal

abbrev pub invariant-loop-index : goal.invariant-loop-index
invariant-loop-index l = EntriesFirst l.ctors l.sets l.entries.items l.index
