-- meaning: constructors with their flat sections.
use Rattle.std.specs.Prelude.{ℕ, List, Option}
use Rattle.sl_section_flat.specs.Sections.{Step}

-- A constructor by the number of its table, with the tables that its operands are and the
-- statements of its section, which has so many size variables. `unimpl` has none of them.
pub record Constructor : Type 0 where
  pub table : ℕ
  pub operands : List (Option ℕ)
  pub steps : List Step
  pub variables : ℕ
