use Rattle.sl_choose.proofs.EntryLemmas.{AddsFirst}
use Rattle.sl_choose.proofs.entries.put_all.Given as goal

abbrev pub invariant-loop-cube : goal.invariant-loop-cube
invariant-loop-cube l = AddsFirst l.fn.ctor l.fn.set l.cubes l.initial.entries.items l.entries.items l.cube-index
