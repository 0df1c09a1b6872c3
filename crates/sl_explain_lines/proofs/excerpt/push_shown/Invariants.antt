use Rattle.std.proofs.Common.{◌≡◌, ◌++◌, map, take}
use Rattle.sl_explain_lines.specs.Excerpts.{shown_byte}
use Rattle.sl_explain_lines.proofs.excerpt.push_shown.Given as goal

abbrev pub invariant-bytes : goal.invariant-bytes
invariant-bytes l = l.out.items ≡ l.initial.out.items ++ map shown_byte (take l.byte-index l.bytes)
