-- law: that the nodes of an instruction have numbers of their own, and that the tables among
-- the operands of a decoded node are the nodes below it.
use Rattle.std.specs.Prelude.{◌≡◌, ℕ, ◌+◌, ◌<◌, ◌≤◌, ⊤, List, [], ◌∷◌, length}
use Rattle.std.specs.Prelude.{Option, None, Some, Ok, slice_get}
use Rattle.sl_ast.specs.Trees.{Constructor}
use Rattle.sl_ast.specs.Unfolding.{Placed}
use Rattle.sl_cube.specs.declared.Point.{Point}
use Rattle.sl_decode_meaning.specs.Decoding.{Decoded, decoded}
use Rattle.sl_decode_meaning.specs.TreeCounts.{count}
use Rattle.sl_decode_meaning.specs.Places.{table_operands}
use Rattle.sl_decode_meaning.specs.Trees.{Node, Trees, none, tree}
use Rattle.sl_meaning_instruction.specs.Instructions.{Specification, instruction, nodes_by}
use Rattle.sl_meaning_sections.specs.Nodes as m
use Rattle.sl_meaning_sections.specs.Nodes.{Operands, child, given, no_operands, node}
use Rattle.sl_meaning_sections.specs.References.{Reference}
use Rattle.sl_spec.specs.Tables.{Ctor}
use Rattle.sl_spec.specs.declared.tables.Tables.{Tables}

-- Of the number of a node, and of those of all nodes below it.
module _ (P : ℕ → Type 0) where
  abbrev mutual
    pub EachNumber : m.Node → Type 0
    EachNumber (node k sec os) = P k × EachNumberBelow os

    pub EachNumberBelow : Operands → Type 0
    EachNumberBelow no_operands = ⊤
    EachNumberBelow (given r os) = EachNumberBelow os
    EachNumberBelow (child n os) = EachNumber n × EachNumberBelow os

  abbrev pub EachNumberOf : List m.Node → Type 0
  EachNumberOf [] = ⊤
  EachNumberOf (n ∷ ns) = EachNumber n × EachNumberOf ns

abbrev pub IsWithin : (from count : ℕ) → ℕ → Type 0
IsWithin from count k = (from ≤ k) × (k < from + count)

-- Trees whose nodes are numbered from k on have as many numbers as nodes, so that no two trees side
-- by side have a number in common, and no tree has that of the node above it.
abbrev pub NumbersAreWithin : Type 0
NumbersAreWithin = (section : ℕ → m.Section)
    (gives : Node → List ℕ → List (Option Reference)) (f : Trees Node) (k : ℕ)
    → EachNumberOf (IsWithin k (count f)) (nodes_by section gives k f)

-- Each number of an instruction is below that of its nodes, of which there are some.
abbrev pub NumbersAreBelow : Type 0
NumbersAreBelow = (s : Specification) (bytes : List ℕ) (f : Trees Node) → 1 ≤ count f
    → EachNumber (λ k. k < count f) (instruction s bytes f)

-- ---- operands

-- how many trees stand side by side
abbrev pub roots : {N : Type 0} → Trees N → ℕ
roots none = 0
roots (tree n below behind) = 1 + roots behind

-- There are as many nodes as tables among the operands of a constructor.
abbrev pub AreTablesOf : Option Ctor → (nodes : ℕ) → Type 0
AreTablesOf None nodes = ⊤
AreTablesOf (Some c) nodes = nodes ≡ length (table_operands c.operands)

abbrev pub HaveTables : Tables → Trees Node → Type 0
HaveTables t none = ⊤
HaveTables t (tree n below behind) = AreTablesOf (slice_get t.constructors n.ctor) (roots below)
    × HaveTables t below × HaveTables t behind

-- In a decoded instruction each operand that is a table is a node.
abbrev pub DecodesHaveTables : Type 0
DecodesHaveTables = (t : Tables) (cs : List (Placed Constructor))
    (choose : ℕ → Point → Option ℕ) (bytes : List ℕ) (address context : ℕ) (d : Decoded)
    → decoded t cs choose bytes address context ≡ Ok d → HaveTables t d.tree
