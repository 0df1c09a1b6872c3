use Rattle.std.proofs.Common.{◌≡◌, fold, map, take}
use Rattle.sl_shape_tokens.specs.Lists.{IsThere, Keeps, seen}
use Rattle.sl_shape_tokens.specs.Meets.{met, start}
use Rattle.sl_shape_tokens.proofs.lists.Lists.of_constructors.Given as goal

abbrev pub invariant-constructors : goal.invariant-constructors
invariant-constructors l = record {
  keeps : Keeps l.initial.self l.self;
  there : IsThere l.self l.shape;
  shape : seen l.self l.shape ≡ fold met (start (seen l.initial.self l.fn.first)) (map (seen l.initial.self) (take l.constructor-index l.rest));
}
