-- law: each name of a flat section is a local, a number, one of the operands, or a register or
-- a bit range of the text.
use Rattle.std.specs.Prelude.{◌≡◌, ℕ, List, Some, length, slice_get}
use Rattle.sl_ast.specs.Trees.{Statement}
use Rattle.sl_faithful_keeping.specs.Kinds.{Kind}
use Rattle.sl_faithful_keeping.specs.Names.{IsNamedSo, StepsName}
use Rattle.sl_meaning_sections.specs.References.{Setting}
use Rattle.sl_section_resolve.specs.Macros.{Body}
use Rattle.sl_section_terms.specs.Scopes.{operand_symbol, range_at, register_at}
use Rattle.sl_section_resolve.specs.Steps.{section_steps}
use Rattle.sl_section_terms.specs.declared.reach.Reach.{Reach}
use Rattle.sl_section_flat.specs.Sections as s
use Rattle.sl_section_flat.specs.Sections.{Symbol}
use Rattle.sl_spec.specs.Tables as tables
use Rattle.sl_spec.specs.declared.tables.Tables.{Tables}

-- What is so of all names that a section may have, by the operands of its constructor.
pub record IsSoOfAll (t : Tables) (os : List tables.Operand) (IsSo : Symbol → Type 0) : Type 0 where
  pub local : (x : ℕ) → IsSo (s.local x)
  pub integer : (v : ℕ) → IsSo (s.integer v)
  pub start : IsSo s.start
  pub next : IsSo s.next
  pub register : (i : ℕ) (a : Symbol) → register_at t i ≡ Some a → IsSo a
  pub bits : (i : ℕ) (a : Symbol) → range_at t i ≡ Some a → IsSo a
  pub operand : (i : ℕ) (o : tables.Operand) → slice_get os i ≡ Some o
      → IsSo (operand_symbol t i o.means)

-- It is so of the names that the flat section of a constructor has; each space and each user
-- operation is one of the text.
abbrev pub NamesAreKnown : Type 0
NamesAreKnown = (g : Setting) (kinds : List Kind) (t : Tables) (macros : List Body) (reach : Reach)
    (os : List tables.Operand) (body : List Statement) → IsSoOfAll t os (IsNamedSo g kinds)
    → StepsName (IsNamedSo g kinds) (length t.spaces) (length t.userops)
    (section_steps t macros reach os body)
