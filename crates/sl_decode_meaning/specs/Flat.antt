-- law: trees as a program keeps them: nodes in a row, depth first, each before those below it, and
-- the values of their action names in the same order.
use Rattle.std.specs.Prelude.{ℕ, ◌+◌, ℤ, List, [], ◌∷◌, ◌++◌, length}
use Rattle.sl_decode_meaning.specs.Trees.{Node, Trees, none, tree}
use Rattle.sl_decode_meaning.specs.declared.entries.Entry.{Entry}
use Rattle.sl_decode_meaning.specs.TreeCounts.{count}

abbrev pub all_values : Trees Node → List ℤ
all_values none = []
all_values (tree n below behind) = n.values ++ (all_values below ++ all_values behind)

-- a node with so many below it, where so many values stand before its own
abbrev pub entry_of : ℕ → Node → ℕ → Entry
entry_of first n below = record {
  ctor = n.ctor;
  at = n.at;
  length = n.length;
  context = n.context;
  first = first;
  end = first + length n.values;
  below = below;
}

-- trees where so many values stand before theirs
abbrev pub entries : ℕ → Trees Node → List Entry
entries first none = []
entries first (tree n below behind) = entry_of first n (count below)
    ∷ (entries (first + length n.values) below
    ++ entries (first + length n.values + length (all_values below)) behind)
