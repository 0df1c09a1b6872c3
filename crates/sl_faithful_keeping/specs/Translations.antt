-- meaning: lists of operations that are well formed and do what an instruction does.
use Rattle.std.specs.Prelude.{List}
use Rattle.sl_faithful_code.specs.Faithful.{IsFaithful}
use Rattle.sl_meaning_sections.specs.Nodes.{Node}
use Rattle.sl_meaning_sections.specs.References.{Setting}
use Rattle.sl_pcode.specs.WellFormed.{IsWellFormed}
use Rattle.sl_pcode.specs.declared.operation.Op.{Op}

-- The list is well formed, and does what the instruction does.
pub record IsTranslation (g : Setting) (root : Node) (ops : List Op) : Type 0 where
  pub well_formed : IsWellFormed g.sizes ops
  pub faithful : IsFaithful g root ops
