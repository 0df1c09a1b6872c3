use Rattle.sl_decode_choices.specs.Choosers.{AreFirst}
use Rattle.sl_decode_choices.proofs.choosers.Choosers.new.Given as goal

abbrev pub invariant-tables : goal.invariant-tables
invariant-tables l = AreFirst l.tables l.choosers.items l.index
