-- view: a graph as the program keeps it.
use Rattle.std.specs.declared.alloc.Global.{Global}
use Rattle.std.specs.Prelude.{ℕ, List, Vec, map}
use Rattle.sl_base_graphs.specs.Reaching.{Graph}

abbrev pub graph_of : List (Vec ℕ Global) → Graph
graph_of lists = map (λ l. l.items) lists
