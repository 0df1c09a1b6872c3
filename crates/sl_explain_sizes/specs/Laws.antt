-- law: what is said of the sizes of a part of a section is whole lines, whatever bytes the text has.
use Rattle.std.specs.Prelude.{List}
use Rattle.sl_explain_lines.specs.Laws.{AreLines}
use Rattle.sl_explain_sizes.specs.FaultWords.{advice_line, fault_line}
use Rattle.sl_explain_sizes.specs.declared.faults.Culprit.{Culprit}
use Rattle.sl_lex.specs.Reading.{Token}
use Rattle.sl_preproc.specs.Expanded as expanded

-- What is wrong with it, and what to write instead.
abbrev pub SizesAreLines : Type 0
SizesAreLines = (t : expanded.Text) (ts : List Token) (c : Culprit) → AreLines (fault_line t ts c) × AreLines (advice_line t c)
