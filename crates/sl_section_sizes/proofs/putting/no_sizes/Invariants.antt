use Rattle.std.proofs.Common.{◌≡◌, [], replicate}
use Rattle.sl_section_sizes.specs.Sizings.{lists_of}
use Rattle.sl_section_sizes.proofs.putting.no_sizes.Given as goal

abbrev pub invariant-all : goal.invariant-all
invariant-all l = lists_of l.all.items ≡ replicate l._index []
