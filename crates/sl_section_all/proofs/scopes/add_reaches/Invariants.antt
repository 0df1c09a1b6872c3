use Rattle.std.proofs.Common.{◌≡◌, ◌++◌, replicate}
use Rattle.sl_section_all.proofs.scopes.add_reaches.Given as goal

abbrev pub invariant-reaches : goal.invariant-reaches
invariant-reaches l = l.reaches.items ≡ l.initial.reaches.items ++ replicate l._index l.reach
