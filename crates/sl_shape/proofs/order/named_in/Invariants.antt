use Rattle.std.proofs.Common.{[]}
use Rattle.sl_spec_rules.proofs.Gathers.{IsGathered}
use Rattle.sl_shape.specs.HeadsMade.{AreHeadTables, AreMadeOf}
use Rattle.sl_shape.specs.Tables.{named_by, pattern_at}
use Rattle.sl_spec.specs.Unfolded.{all_placed}
use Rattle.sl_shape.proofs.order.named_in.Given as goal

abbrev pub invariant-ctors : goal.invariant-ctors
invariant-ctors l = record {
  named : IsGathered (λ i. named_by l.t (pattern_at (all_placed l.constructors) i)) [] l.ctors l.all.items l.index;
  kept : AreMadeOf (AreHeadTables l.t) l.constructors l.made;
}
