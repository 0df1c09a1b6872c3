use Rattle.std.proofs.Common.{◌≡◌, ◌++◌, drop}
use Rattle.std.specs.Prelude.{filter}
use Rattle.sl_explain_notes.specs.Lines.{is_told_of}
use Rattle.sl_explain_notes.proofs.lines.told_of.Given as goal

-- those so far and those among the notes that are left are all
abbrev pub invariant-told : goal.invariant-told
invariant-told l =
    l.chosen.items ++ filter (is_told_of l.subject) (drop l.at l.told) ≡ filter (is_told_of l.subject) l.told
