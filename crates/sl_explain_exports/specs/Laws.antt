-- law: what is said of a culprit is whole lines, whatever bytes the text has.
use Rattle.std.specs.Prelude.{List}
use Rattle.sl_explain_exports.specs.FaultWords.{advice_line, fault_line}
use Rattle.sl_explain_exports.specs.declared.findings.Culprit.{Culprit}
use Rattle.sl_explain_lines.specs.Laws.{AreLines}
use Rattle.sl_lex.specs.Reading.{Token}
use Rattle.sl_preproc.specs.Expanded.{Text}

-- What is wrong with it, and what to write instead.
abbrev pub CulpritsAreLines : Type 0
CulpritsAreLines = (t : Text) (ts : List Token) (c : Culprit) → AreLines (fault_line t ts c) × AreLines (advice_line ts c)
