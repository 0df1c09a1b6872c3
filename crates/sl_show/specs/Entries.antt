-- step: trees as a row of their nodes, parents first, each with its values and the number of nodes
-- below it.
use Rattle.std.specs.Prelude.{ℕ, zero, suc, ◌-◌, ℤ, List, [], ◌∷◌, ◌++◌, drop, length, map, take}
use Rattle.sl_decode_meaning.specs.Trees.{Node, Trees, none, tree}
use Rattle.sl_decode_meaning.specs.declared.entries.Entry.{Entry}

-- a node, and how many nodes are below it
pub record Row : Type 0 where
  pub node : Node
  pub below : ℕ

unfoldable pub rows : Trees Node → List Row
rows none = []
rows (tree n below behind) =
    record { node = n; below = length (rows below) } ∷ (rows below ++ rows behind)

-- an entry, where these are the values of all nodes
abbrev pub row_of : List ℤ → Entry → Row
row_of values e = record {
  node = record {
    ctor = e.ctor;
    at = e.at;
    length = e.length;
    context = e.context;
    values = take (e.end - e.first) (drop e.first values);
  };
  below = e.below;
}

abbrev pub rows_of : List ℤ → List Entry → List Row
rows_of values entries = map (row_of values) entries

-- the trees from one of them on
abbrev pub from_tree : ℕ → Trees Node → Trees Node
from_tree zero f = f
from_tree (suc k) none = none
from_tree (suc k) (tree n below behind) = from_tree k behind
