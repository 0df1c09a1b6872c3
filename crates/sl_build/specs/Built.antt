-- step: what an instruction is built to.
use Rattle.std.specs.Prelude.{◌≡◌, ℕ, ◌<◌, ◌^◌, true, false, List, length, map}
use Rattle.sl_build.specs.declared.built.Built.{Built}
use Rattle.sl_build.specs.declared.built.Built.TheVariants.{Ops, Unimplemented}
use Rattle.sl_faithful_code.specs.Nodes.{LocalOf, NodeFits, node_code, top_of}
use Rattle.sl_faithful_code.specs.Faithful.{IsFaithful}
use Rattle.sl_faithful_code.specs.Operations.{operation_of}
use Rattle.sl_decode_meaning.specs.TreeCounts.{count}
use Rattle.sl_decode_meaning.specs.Trees.{Node, Trees}
use Rattle.sl_meaning_instruction.specs.Instructions.{Specification, instruction, is_unimplemented}
use Rattle.sl_meaning_sections.specs.Nodes as m
use Rattle.sl_meaning_sections.specs.References.{Setting}
use Rattle.sl_pcode.specs.Operations.{operations}
use Rattle.sl_pcode.specs.WellFormed.{IsWellFormed}
use Rattle.sl_pcode.specs.declared.operation.Op.{Op}

-- The list of an instruction of so many nodes. It does what the instruction does, where names have
-- the size of their readers.
pub record IsListOf (g : Setting) (nodes : ℕ) (root : m.Node) (ops : List Op) : Type 0 where
  pub code : map operation_of ops ≡ node_code (top_of nodes) g root
  pub well_formed : IsWellFormed g.sizes ops
  pub short : length ops < 2 ^ 31
  pub faithful : (sizes : ℕ → ℕ → ℕ) → NodeFits (LocalOf nodes sizes) g root
      → IsFaithful g root ops

-- A decoded instruction is unimplemented, or it has a list.
abbrev pub IsBuilt : Specification → Setting → (bytes : List ℕ) → Trees Node → Built → Type 0
IsBuilt s g bytes f Unimplemented = is_unimplemented s.constructors f ≡ true
IsBuilt s g bytes f (Ops list) = (is_unimplemented s.constructors f ≡ false)
    × IsListOf g (count f) (instruction s bytes f) (operations list)
