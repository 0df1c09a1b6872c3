-- meaning: the flat sections of all constructors of a text, and rules 38 and 39 over them.
use Rattle.std.specs.Prelude.{ℕ, List, [], Option, Some, None, map, take}
use Rattle.std.specs.List.{zip}
use Rattle.sl_ast.specs.Trees.{Constructor, Section, statements, unimplemented}
use Rattle.sl_ast.specs.Unfolding.{Placed}
use Rattle.sl_section_exports.specs.Exports.{section_fault}
use Rattle.sl_section_resolve.specs.Macros.{Body}
use Rattle.sl_section_resolve.specs.Steps.{section_steps, section_variables}
use Rattle.sl_section_terms.specs.declared.reach.Reach.{Reach}
use Rattle.sl_section_flat.specs.Sections.{Step}
use Rattle.sl_spec.specs.Tables.{Operand}
use Rattle.sl_spec.specs.declared.tables.Tables.{Tables}
use Rattle.sl_spec_tables.specs.Rows.{Row, rows}
use Rattle.sl_spec_tables.specs.declared.faults.LateFault.{LateFault}
use Rattle.sl_section_weights.specs.Weights.{first_heavy}
use Rattle.sl_section_all.specs.Scopes.{Scopes}

-- A section's statements without names and macros, and how many size variables they have.
pub record Flat : Type 0 where
  pub steps : List Step
  pub variables : ℕ

-- the flat section of a constructor, by what is defined before it and its operands; `unimpl` has no
-- statements
abbrev pub flat_section : Tables → List Body → Reach → List Operand → Section → Flat
flat_section t macros reach os (statements body) = record {
  steps = section_steps t macros reach os body;
  variables = section_variables t macros reach os body;
}
flat_section t macros reach os unimplemented = record { steps = []; variables = 0 }

abbrev pub row_section : Tables → List Body → Row × Reach → Flat
row_section t macros r = flat_section t macros r.1 r.0.0.operands r.0.1.1.section

-- the flat sections of constructors, as far as it is told what is defined before each
abbrev pub sections_by : Tables → List Body → List (Placed Constructor) → List Reach → List Flat
sections_by t macros cs reaches = map (row_section t macros) (zip (rows t cs) reaches)

-- the flat sections of all constructors
unfoldable pub flat_sections : Tables → Scopes → List (Placed Constructor) → List Flat
flat_sections t s cs = sections_by t s.macros cs s.reaches

-- what stands before an index, where there is one
abbrev pub up_to : {A : Type 0} → Option ℕ → List A → List A
up_to None xs = xs
up_to (Some i) xs = take i xs

-- the first broken one of rules 38 and 39, where rules 32 to 37 hold; of constructors from the
-- first on that weighs too much there are no flat sections
unfoldable pub sections_fault : Tables → Scopes → List (Placed Constructor) → Option LateFault
sections_fault t s cs =
    let heavy = first_heavy t s.macros cs in
    section_fault t cs
    (map (λ f. f.steps) (sections_by t s.macros cs (up_to heavy s.reaches))) heavy
