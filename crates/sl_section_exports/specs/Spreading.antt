-- meaning: the nodes of a graph that some nodes reach.
use Rattle.std.specs.Prelude.{ℕ, ◌==◌, ◌||◌, Bool, List, length}
use Rattle.std.specs.List.{list_any}
use Rattle.sl_base_graphs.specs.Reaching.{Graph, reaches_over}

-- whether a number is one of some
abbrev pub is_one_of : List ℕ → ℕ → Bool
is_one_of ns v = list_any (λ n. n == v) ns

-- whether a node is one of some nodes or one of them reaches it
abbrev pub is_reached : Graph → List ℕ → ℕ → Bool
is_reached graph starts v = list_any (λ s. (s == v) || reaches_over graph (length graph) s v) starts
