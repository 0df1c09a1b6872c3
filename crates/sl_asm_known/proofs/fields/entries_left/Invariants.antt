use Rattle.sl_asm_known.proofs.EntryLemmas.{FirstLeft}
use Rattle.sl_asm_known.proofs.fields.entries_left.Given as goal

abbrev pub invariant-entries : goal.invariant-entries
invariant-entries l = FirstLeft l.numbers l.raw l.index l.left
