-- law: the operations of an instruction, by its tree of nodes, and when they do what it does.
use Rattle.std.specs.Prelude.{◌≡◌, ℕ, ◌*◌, ◌^◌, ◌<◌, ◌≤◌, ⊤, List, [], ◌∷◌, length, map}
use Rattle.std.specs.Prelude.{slice_index}
use Rattle.std.specs.List.{All}
use Rattle.sl_faithful_code.specs.Fits.{StepsFit}
use Rattle.sl_faithful_code.specs.Operations.{Operation, operation_of}
use Rattle.sl_faithful_code.specs.Statements.{section_code}
use Rattle.sl_meaning_sections.specs.Nodes.{Node, Operands, child, frame_of, given, no_operands}
use Rattle.sl_meaning_sections.specs.Nodes.{node, references_of}
use Rattle.sl_meaning_sections.specs.References.{Setting}
use Rattle.sl_pcode.specs.WellFormed.{IsWellFormedOp}
use Rattle.sl_pcode.specs.declared.operation.Op.{Op}
use Rattle.sl_faithful_code.specs.Faithful.{IsFaithful}

module _ (top : ℕ) (g : Setting) where
  abbrev mutual
    -- temporary values lie from `top` on, above all locals
    pub node_code : Node → List Operation
    node_code (node k sec os) = section_code top g (frame_of k sec (references_of g os))
        (children_code os) sec.steps

    pub children_code : Operands → List (List Operation)
    children_code no_operands = []
    children_code (given r os) = [] ∷ children_code os
    children_code (child n os) = node_code n ∷ children_code os

-- temporary bytes of an instruction of so many nodes begin behind its locals
abbrev pub top_of : (nodes : ℕ) → ℕ
top_of nodes = nodes * 65536 * 16

-- a node has at most 65,536 locals, of at most 16 bytes
abbrev pub LocalOf : (nodes : ℕ) → (sizes : ℕ → ℕ → ℕ) → (node x n : ℕ) → Type 0
LocalOf nodes sizes k x n = (k < nodes) × (x < 65536) × (n ≡ sizes k x) × (n ≤ 16)

module _ (Local : (node x n : ℕ) → Type 0) (g : Setting) where
  abbrev mutual
    pub NodeFits : Node → Type 0
    NodeFits (node k sec os) =
        StepsFit Local g (frame_of k sec (references_of g os)) sec.steps × OperandsFit os

    pub OperandsFit : Operands → Type 0
    OperandsFit no_operands = ⊤
    OperandsFit (given r os) = OperandsFit os
    OperandsFit (child n os) = NodeFits n × OperandsFit os

-- A list of well-formed operations that are those of an instruction does what the instruction does,
-- where names have the size of their readers.
abbrev pub CodeIsFaithful : Type 0
CodeIsFaithful = (g : Setting) (root : Node) (nodes : ℕ) (sizes : ℕ → ℕ → ℕ) (ops : List Op)
    → NodeFits (LocalOf nodes sizes) g root → slice_index g.sizes g.default ≤ 8
    → map operation_of ops ≡ node_code (top_of nodes) g root → All (IsWellFormedOp g.sizes) ops
    → length ops < 2 ^ 31 → IsFaithful g root ops
