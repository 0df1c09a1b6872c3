use Rattle.std.proofs.Common.{◌≡◌, ◌++◌, drop}
use Rattle.sl_explain_notes.specs.Lines.{all_lines}
use Rattle.sl_lex.specs.Views.{views}
use Rattle.sl_preproc.specs.Expanded.{seen}
use Rattle.sl_explain_notes.proofs.lines.push_all.Given as goal

-- the lines so far and those of the notes that are left are all
abbrev pub invariant-told : goal.invariant-told
invariant-told l =
    l.out.items ++ all_lines (seen l.text) (views l.tokens) (drop l.at l.told)
    ≡ l.initial.out.items ++ all_lines (seen l.text) (views l.tokens) l.told
