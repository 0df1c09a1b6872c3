-- law: what is said of a culprit is whole lines, whatever bytes the text has.
use Rattle.std.specs.Prelude.{ℕ, List}
use Rattle.sl_explain_lines.specs.Laws.{AreLines}
use Rattle.sl_explain_names.specs.FaultWords.{advice_line, fault_line}
use Rattle.sl_explain_names.specs.declared.culprits.Culprit.{Culprit}
use Rattle.sl_lex.specs.Reading.{Token}

-- What is wrong with it, and what to write instead.
abbrev pub CulpritsAreLines : Type 0
CulpritsAreLines = (ts : List Token) (start rule : ℕ) (c : Culprit) → AreLines (fault_line ts start c) × AreLines (advice_line ts rule c)
