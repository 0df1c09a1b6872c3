-- law: the operations of an instruction lead to the default space alone, and call user
-- operations of the text.
use Rattle.std.specs.Prelude.{◌≡◌, ℕ, ⊤, false, List, length, map, Some, slice_get}
use Rattle.sl_faithful_code.specs.Nodes.{node_code}
use Rattle.sl_faithful_code.specs.Operations.{operation_of}
use Rattle.sl_decode_meaning.specs.Decoding.{Decoded}
use Rattle.sl_faithful_lists.specs.Faithful.{IsFaithfulList}
use Rattle.sl_faithful_lists.specs.Targets.{AllCallUserOps, AllLeadToDefault}
use Rattle.sl_faithful_keeping.specs.Kinds.{Kind}
use Rattle.sl_faithful_keeping.specs.Translations.{IsTranslation}
use Rattle.sl_faithful_keeping.specs.Names.{IsNamedSo, StepsName}
use Rattle.sl_section_all.specs.FlatSections.{Flat}
use Rattle.sl_meaning_instruction.specs.Instructions.{Specification, instruction, is_unimplemented}
use Rattle.sl_meaning_instruction.specs.Instructions.{setting_of}
use Rattle.sl_meaning_sections.specs.Nodes.{Node, Operands, child, given, no_operands, node}
use Rattle.sl_meaning_sections.specs.References.{Setting}
use Rattle.sl_pcode.specs.declared.operation.Op.{Op}
use Rattle.sl_section_flat.specs.Sections.{Step}

-- by the machine and the number of user operations
module _ (g : Setting) (userops : ℕ) where
  -- A section names what there is, by some kinds of operands: its user operations are below
  -- `userops`.
  abbrev pub SectionNames : List Step → Type 0
  SectionNames ss =
      (kinds : List Kind) × StepsName (IsNamedSo g kinds) (length g.sizes) userops ss

  -- So does that of each node.
  abbrev mutual
    pub NodeNames : Node → Type 0
    NodeNames (node k sec os) = SectionNames sec.steps × OperandsName os

    pub OperandsName : Operands → Type 0
    OperandsName no_operands = ⊤
    OperandsName (given r os) = OperandsName os
    OperandsName (child n os) = NodeNames n × OperandsName os

-- Operations that are those of such a node lead to the default space, and call user operations
-- below `userops`.
abbrev pub NodesLeadToDefault : Type 0
NodesLeadToDefault = (g : Setting) (userops top : ℕ) (root : Node) (ops : List Op)
    → NodeNames g userops root → map operation_of ops ≡ node_code top g root
    → AllLeadToDefault g.default ops × AllCallUserOps userops ops

-- ---- instructions

-- The sections of a specification name what there is.
abbrev pub AllSectionsName : Specification → Setting → Type 0
AllSectionsName s g = (number : ℕ) (f : Flat) → slice_get s.sections number ≡ Some f
    → SectionNames g (length s.tables.userops) f.steps

-- Then the operations of a decoded instruction are faithful to it, where they are a translation of
-- it and no node is `unimpl`.
abbrev pub TranslationsAreFaithful : Type 0
TranslationsAreFaithful = (s : Specification) (bytes : List ℕ) (address top : ℕ) (d : Decoded)
    (ops : List Op) → AllSectionsName s (setting_of s.tables address d.after)
    → is_unimplemented s.constructors d.tree ≡ false
    → IsTranslation (setting_of s.tables address d.after) (instruction s bytes d.tree) ops
    → map operation_of ops
    ≡ node_code top (setting_of s.tables address d.after) (instruction s bytes d.tree)
    → IsFaithfulList s bytes address d ops
