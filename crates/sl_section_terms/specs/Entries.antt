-- meaning: names with what they stand for.
use Rattle.sl_spec.specs.Tables.{Name}
use Rattle.sl_section_flat.specs.Sections.{Symbol}

-- a name with what it stands for
pub record Entry : Type 0 where
  pub name : Name
  pub symbol : Symbol
