use Rattle.std.proofs.Common.{◌≡◌, ℕ, List, map, take}
use Rattle.sl_shape_tokens.specs.Bytes.{Knows, bytes_of}
use Rattle.sl_shape_tokens.specs.Lists.{Keeps}
use Rattle.sl_shape_tokens.proofs.bytes.ListBytes.grow.Given as goal

abbrev pub invariant-nodes : goal.invariant-nodes
invariant-nodes l = record {
  sizes : l.self.sizes.items ≡ l.initial.self.sizes.items;
  knows : (old : List (List ℕ)) → Knows l.initial.self old → Keeps old l.lists → l.self.known.items ≡ map (bytes_of l.self.sizes.items) (take l.index l.lists);
}
