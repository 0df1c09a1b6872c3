-- law: the operations of an instruction whose tree keeps the rules are well formed, and do what
-- the instruction does.
use Rattle.std.specs.Prelude.{◌≡◌, ℕ, ◌≤◌, false, List, None, map}
use Rattle.sl_faithful_code.specs.Nodes.{LocalOf, NodeFits, node_code, top_of}
use Rattle.sl_faithful_code.specs.Operations.{operation_of}
use Rattle.sl_faithful_keeping.specs.Keeping.{IsSetting, NodeKeeps}
use Rattle.sl_meaning_sections.specs.Nodes.{Node}
use Rattle.sl_meaning_sections.specs.References.{Setting}
use Rattle.sl_pcode.specs.declared.operation.Op.{Op}
use Rattle.sl_faithful_formed.specs.Formed.{NodeIsFormed}
use Rattle.sl_faithful_formed.specs.Lengths.{node_count, node_parts}
use Rattle.sl_faithful_keeping.specs.Translations.{IsTranslation}

-- Names have the size of their readers; what they name lies in its space, and operations have sizes
-- that they take.
pub record TreeFits (g : Setting) (nodes : ℕ) (sizes : ℕ → ℕ → ℕ) (root : Node) : Type 0 where
  pub names : NodeFits (LocalOf nodes sizes) g root
  pub operations : NodeIsFormed g root

-- So it is in a tree whose nodes keep the rules.
abbrev pub TreesFit : Type 0
TreesFit = (g : Setting) (root : Node) (nodes : ℕ) (sizes : ℕ → ℕ → ℕ) → IsSetting g
    → NodeKeeps nodes sizes g None false false root → TreeFits g nodes sizes root

-- The operations of an instruction whose nodes keep the rules, and which has at most 1,024 of them,
-- with 131,072 parts at most, are a translation of it.
abbrev pub TreesAreTranslated : Type 0
TreesAreTranslated = (g : Setting) (root : Node) (nodes : ℕ) (sizes : ℕ → ℕ → ℕ) (ops : List Op)
    → IsSetting g → NodeKeeps nodes sizes g None false false root → nodes ≤ 1024
    → node_count root ≤ 1024 → node_parts root ≤ 131072
    → map operation_of ops ≡ node_code (top_of nodes) g root → IsTranslation g root ops
