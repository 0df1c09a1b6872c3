-- meaning: macros with what is defined before them.
use Rattle.sl_ast.specs.Trees.{Macro}
use Rattle.sl_section_terms.specs.declared.reach.Reach.{Reach}

-- A macro as it is written, with what is defined before it.
pub record Body : Type 0 where
  pub of : Macro
  pub reach : Reach
