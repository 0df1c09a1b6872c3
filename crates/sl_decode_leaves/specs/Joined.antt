-- view: the names of patterns, one pattern behind the other.
use Rattle.std.specs.Prelude.{List}
use Rattle.std.specs.List.{flat_map}
use Rattle.std.specs.declared.alloc.Global.{Global}
use Rattle.std.specs.declared.rc.Rc.{Rc}
use Rattle.sl_decode_leaves.specs.declared.leaves.Leaf as l
use Rattle.sl_decode_leaves.specs.declared.pattern_leaves.PatternLeaves.{PatternLeaves}

abbrev pub all_leaves : List (Rc PatternLeaves Global) → List l.Leaf
all_leaves patterns = flat_map (λ p. p.value.leaves.items) patterns
