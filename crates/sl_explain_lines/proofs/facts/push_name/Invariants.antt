use Rattle.std.proofs.Common.{◌≡◌, ◌++◌, map, take}
use Rattle.sl_explain_lines.specs.FactLines.{shown_in_name}
use Rattle.sl_explain_lines.proofs.facts.push_name.Given as goal

abbrev pub invariant-bytes : goal.invariant-bytes
invariant-bytes l = l.out.items ≡ l.initial.out.items ++ map shown_in_name (take l.byte-index l.name)
