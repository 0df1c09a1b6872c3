-- law: the lists of operations of instructions are well formed.
use Rattle.std.specs.Prelude.{◌≡◌, ℕ, ◌^◌, ◌<◌, ◌≤◌, List, length, map}
use Rattle.sl_faithful_code.specs.Nodes.{LocalOf, NodeFits, node_code, top_of}
use Rattle.sl_faithful_code.specs.Operations.{operation_of}
use Rattle.sl_meaning_sections.specs.Nodes.{Node}
use Rattle.sl_meaning_sections.specs.References.{Setting}
use Rattle.sl_pcode.specs.WellFormed.{IsWellFormed}
use Rattle.sl_pcode.specs.declared.operation.Op.{Op}
use Rattle.sl_faithful_formed.specs.Formed.{IsMachine, NodeIsFormed}
use Rattle.sl_faithful_formed.specs.Lengths.{node_parts}

-- The operations of an instruction are a well-formed list, where names have the size of their
-- readers, what they name lies in its space, and operations have sizes that they take.
abbrev pub ListsAreWellFormed : Type 0
ListsAreWellFormed = (g : Setting) (root : Node) (nodes : ℕ) (sizes : ℕ → ℕ → ℕ) (ops : List Op)
    → IsMachine g → NodeFits (LocalOf nodes sizes) g root → NodeIsFormed g root → nodes ≤ 1024
    → node_parts root ≤ 131072 → map operation_of ops ≡ node_code (top_of nodes) g root
    → length ops < 2 ^ 31 → IsWellFormed g.sizes ops
