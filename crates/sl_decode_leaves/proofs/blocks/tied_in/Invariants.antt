use Rattle.std.specs.Prelude.{List}
use Rattle.std.specs.List.{AllByRecursion}
use Rattle.sl_decode_leaves.specs.Blocks.{ArePlain, IsSame, StandAsBefore}
use Rattle.sl_decode_leaves.proofs.TiedLemmas.{IsLeft}
use Rattle.sl_spec.specs.Tables.{Operand}
use Rattle.sl_decode_leaves.proofs.blocks.tied_in.Given as goal

abbrev pub invariant-leaves : goal.invariant-leaves
invariant-leaves l = StandAsBefore l.t l.operands l.all.items
    × ((those : List Operand) → ArePlain l.t those → StandAsBefore l.t those l.all.items
    → IsLeft (λ x. IsSame l.t l.operands those x.name.now) l.leaves (AllByRecursion (λ x. IsSame l.t l.operands those x.name.now) l.leaves) l.index)
