use Rattle.std.proofs.Common.{◌≡◌, length, take}
use Rattle.sl_shape.specs.Adding.{AreAdded}
use Rattle.sl_shape.specs.Below.{AreSized, Shows}
use Rattle.sl_shape.specs.HeadsMade.{AreRightOf}
use Rattle.sl_shape.specs.PatternShapes.{Shapes}
use Rattle.sl_spec.specs.Unfolded.{all_placed}
use Rattle.sl_shape.proofs.below.Below.add_constructors.Given as goal

abbrev pub invariant-ctors : goal.invariant-ctors
invariant-ctors l = record {
  sized : AreSized l.fn.self l.lists;
  right : AreRightOf l.fn.self l.lists l.constructors l.made;
  marks : l.made.marks.items ≡ l.initial.made.marks.items;
  counted : length l.sets.items ≡ length l.constructors;
  added : (shapes : Shapes) → Shows l.fn.self l.initial.lists shapes
      → AreAdded l.fn.self (all_placed l.constructors) shapes l.initial.lists l.lists l.initial.sets.items l.sets.items (take l.index l.ctors) l.found.items;
}
