use Rattle.std.proofs.Common.{map, take}
use Rattle.sl_lex.specs.Found.{IsLongestMark}
use Rattle.sl_lex.proofs.marks.longest_of.Given as goal

abbrev pub invariant-loop-mark : goal.invariant-loop-mark
invariant-loop-mark l = IsLongestMark (map (λ m. m.now) (take l.mark-index l.marks)) l.text l.longest
