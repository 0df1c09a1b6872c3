-- law: a flat section has no more parts, and no more size variables, than it weighs.
use Rattle.std.specs.Prelude.{ℕ, ◌≤◌, List}
use Rattle.sl_ast.specs.Trees.{Statement}
use Rattle.sl_section_resolve.specs.Macros.{Body}
use Rattle.sl_section_resolve.specs.Steps.{section_steps, section_variables}
use Rattle.sl_section_terms.specs.declared.reach.Reach.{Reach}
use Rattle.sl_spec.specs.Tables as tables
use Rattle.sl_spec.specs.declared.tables.Tables.{Tables}
use Rattle.sl_section_weights.specs.Weights.{body_weight, macro_weights}
use Rattle.sl_faithful_formed.specs.Lengths.{steps_parts}

-- what stands between a section's braces weighs so much, by rule 38
abbrev pub weight : List Body → List Statement → ℕ
weight macros body = body_weight macros (macro_weights macros) body

-- A section has no more parts, and no more size variables, than it weighs.
pub record IsWithin (t : Tables) (macros : List Body) (reach : Reach) (os : List tables.Operand)
    (body : List Statement) : Type 0 where
  pub parts : steps_parts (section_steps t macros reach os body) ≤ weight macros body
  pub variables : section_variables t macros reach os body ≤ weight macros body

-- Each part of a section takes a token of its own, macros taken out call by call, and so does each
-- size variable.
abbrev pub PartsTakeTokens : Type 0
PartsTakeTokens = (t : Tables) (macros : List Body) (reach : Reach) (os : List tables.Operand)
    (body : List Statement) → IsWithin t macros reach os body
