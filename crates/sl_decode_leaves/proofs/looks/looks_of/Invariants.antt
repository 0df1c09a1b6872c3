use Rattle.std.proofs.Common.{drop}
use Rattle.sl_decode_meaning.specs.Actions.{look}
use Rattle.sl_decode_meaning.specs.Values.{Site}
use Rattle.sl_decode_leaves.specs.Extents.{leaves_at}
use Rattle.sl_decode_leaves.specs.Looks.{look_step}
use Rattle.sl_decode_leaves.proofs.RunLemmas.{IsFront}
use Rattle.sl_decode_leaves.proofs.looks.looks_of.Given as goal

abbrev pub invariant-leaves : goal.invariant-leaves
invariant-leaves l = (s : Site) → IsFront (look l.t l.operands s) (look_step l.t s) (leaves_at s.lengths l.leaves) (leaves_at s.lengths (drop l.leaf-index l.leaves)) l.all.items
