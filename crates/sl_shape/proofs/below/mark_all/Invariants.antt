use Rattle.std.proofs.Common.{ℕ, take}
use Rattle.std.specs.List.{AllByRecursion}
use Rattle.sl_shape.specs.HeadsMade.{IsMarked}
use Rattle.sl_shape.proofs.below.mark_all.Given as goal

abbrev pub invariant-tables : goal.invariant-tables
invariant-tables l = record {
  marked : AllByRecursion (IsMarked l.marks.items) (take l.index l.tables);
  still : (w : ℕ) → IsMarked l.initial.marks.items w → IsMarked l.marks.items w;
}
