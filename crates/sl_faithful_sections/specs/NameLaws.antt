-- law: each name of a flat section stands for what translations count on, and each size
-- variable is below the number of them.
use Rattle.std.specs.Prelude.{◌≡◌, ℕ, List, Some, length, slice_get}
use Rattle.sl_ast.specs.Trees.{Constructor, Statement}
use Rattle.sl_ast.specs.Unfolding.{Placed}
use Rattle.sl_faithful_places.specs.Defined.{AreDefined}
use Rattle.sl_faithful_keeping.specs.Names.{IsNamedSo, StepsName}
use Rattle.sl_section_all.specs.FlatSections.{Flat, flat_sections}
use Rattle.sl_section_all.specs.Scopes.{Scopes}
use Rattle.sl_meaning_instruction.specs.Instructions.{setting_of}
use Rattle.sl_meaning_sections.specs.References.{Setting}
use Rattle.sl_section_resolve.specs.Macros.{Body}
use Rattle.sl_section_resolve.specs.Steps.{section_steps, section_variables}
use Rattle.sl_section_terms.specs.declared.reach.Reach.{Reach}
use Rattle.sl_section_flat.specs.Numbered.{StepsBelow}
use Rattle.sl_spec.specs.Tables.{Ctor, Operand}
use Rattle.sl_spec.specs.declared.tables.Tables.{Tables}
use Rattle.sl_faithful_instructions.specs.Sound.{Uses, kinds_of}

-- ---- statements of a section, macros taken out

-- Each size variable is below the number of them.
abbrev pub SectionsNumber : Type 0
SectionsNumber = (t : Tables) (macros : List Body) (reach : Reach) (os : List Operand)
    (body : List Statement)
    → StepsBelow (section_variables t macros reach os body) (section_steps t macros reach os body)

-- Where what is defined lies where it can be, registers and bit ranges that are named lie in spaces
-- of the machine, and an operand that is named is of its kind.
abbrev pub SectionsName : Type 0
SectionsName = (t : Tables) (u : Uses) (address after : ℕ) (macros : List Body) (reach : Reach)
    (c : Ctor) (body : List Statement) → AreDefined t
    → StepsName (IsNamedSo (setting_of t address after) (kinds_of t u c)) (length t.spaces)
    (length t.userops) (section_steps t macros reach c.operands body)

-- ---- flat sections of all constructors

-- What is known of the size variables and the names of a constructor's flat section.
pub record IsNamed (t : Tables) (u : Uses) (g : Setting) (c : Ctor) (f : Flat) : Type 0 where
  pub below : StepsBelow f.variables f.steps
  pub names : StepsName (IsNamedSo g (kinds_of t u c)) (length g.sizes) (length t.userops) f.steps

-- It is known of each of them, whatever is known of tables.
abbrev pub FlatsAreNamed : Type 0
FlatsAreNamed = (t : Tables) (s : Scopes) (constructors : List (Placed Constructor)) (u : Uses)
    (address after number : ℕ) (c : Ctor) (f : Flat) → AreDefined t
    → slice_get t.constructors number ≡ Some c
    → slice_get (flat_sections t s constructors) number ≡ Some f
    → IsNamed t u (setting_of t address after) c f
