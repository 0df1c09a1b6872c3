-- law: what is said of a part of a pattern is whole lines, whatever bytes the text has.
use Rattle.std.specs.Prelude.{List}
use Rattle.sl_explain_lines.specs.Laws.{AreLines}
use Rattle.sl_explain_patterns.specs.FaultWords.{advice_line, fault_line}
use Rattle.sl_explain_patterns.specs.declared.findings.Culprit.{Culprit}
use Rattle.sl_lex.specs.Reading.{Token}

-- What is wrong with it, and what to write instead.
abbrev pub PartsAreLines : Type 0
PartsAreLines = (ts : List Token) (c : Culprit) → AreLines (fault_line ts c) × AreLines (advice_line c.finding)
