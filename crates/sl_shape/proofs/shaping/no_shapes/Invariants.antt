use Rattle.std.proofs.Common.{◌≡◌, ℕ, List, length}
use Rattle.std.specs.List.{AllByRecursion}
use Rattle.sl_shape_tokens.specs.Lists.{IsThere}
use Rattle.sl_shape.proofs.shaping.no_shapes.Given as goal

abbrev pub invariant-shapes : goal.invariant-shapes
invariant-shapes l = record {
  counted : length l.shapes.items ≡ l._index;
  there : (lists : List (List ℕ)) → AllByRecursion (IsThere lists) l.shapes.items;
}
