use Rattle.std.proofs.Common.{length, take}
use Rattle.sl_shape.specs.Next.{IsKept, IsRight}
use Rattle.sl_shape.specs.Ordered.{AreKnown}
use Rattle.sl_spec.specs.Unfolded.{all_placed}
use Rattle.sl_shape.proofs.shaping.shape_tables.Given as goal

abbrev pub invariant-order : goal.invariant-order
invariant-order l = record {
  right : IsRight l.t (length l.constructors) l.known;
  kept : IsKept l.t l.constructors l.known;
  are : AreKnown l.t (all_placed l.constructors) l.order l.known (take l.index l.order);
}
