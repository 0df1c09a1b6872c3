-- law: the sections of a specification are sound, by what is known of tables, of sizes, and of
-- each constructor by itself.
use Rattle.std.specs.Prelude.{◌≡◌, ℕ, ◌^◌, ◌≤◌, false, List, length, map, Option, Some, slice_get}
use Rattle.sl_section_equations.specs.SizesIn.{size_in}
use Rattle.sl_section_exports.specs.Exports.{rows}
use Rattle.sl_faithful_keeping.specs.Keeping.{first_export}
use Rattle.sl_faithful_keeping.specs.Names.{IsNamedSo, StepsName}
use Rattle.sl_section_all.specs.FlatSections.{Flat}
use Rattle.sl_meaning_instruction.specs.Instructions.{Specification, is_unimpl_by}
use Rattle.sl_faithful_keeping.specs.KeepingLaws.{ExportsAreBare}
use Rattle.sl_meaning_sections.specs.References.{Setting}
use Rattle.sl_section_flat.specs.Numbered.{StepsBelow}
use Rattle.sl_section_flat.specs.Sections.{Export, Step}
use Rattle.sl_spec.specs.Tables.{Ctor}
use Rattle.sl_faithful_sections.specs.UseLaws.{KeepUses, uses_of}
use Rattle.sl_faithful_instructions.specs.Sound.{IsSound, Uses, kinds_of}
use Rattle.sl_faithful_formed.specs.Formed.{IsMachine}
use Rattle.sl_faithful_formed.specs.Lengths.{AreDistinct, built}
use Rattle.sl_faithful_sections.specs.SizeLaws.{FitTheWhole}

-- the statements of all sections
abbrev pub steps_of : Specification → List (List Step)
steps_of s = map (λ f. f.steps) s.sections

-- what is known of tables, by the sizes that they export
abbrev pub uses_in : Specification → (last : List (Option ℕ)) → Uses
uses_in s last = uses_of s.tables (rows s.tables s.constructors (steps_of s)) last

-- The section exports.
pub record HasExport (ss : List Step) : Type 0 where
  pub what : Export
  pub is : first_export ss ≡ Some what

-- The section of a constructor names what there is, builds each operand once at most, exports
-- constants that are bare, and exports where its table does.
pub record IsStated (s : Specification) (g : Setting) (last : List (Option ℕ)) (c : Ctor)
    (f : Flat) : Type 0 where
  pub few : f.variables ≤ 65536
  pub below : StepsBelow f.variables f.steps
  pub once : AreDistinct (built f.steps)
  pub names : StepsName (IsNamedSo g (kinds_of s.tables (uses_in s last) c)) (length g.sizes)
      (length s.tables.userops) f.steps
  pub bare : ExportsAreBare f.steps
  pub exports : (size : ℕ) → size_in last c.table ≡ Some size → HasExport f.steps

-- What is known of a specification: each constructor has a text and a section, sections have
-- sizes, rules 38 and 39 hold, and each section that isn't `unimpl` is stated so.
pub record IsKnown (s : Specification) (g : Setting) : Type 0 where
  pub machine : IsMachine g
  pub userops : length s.tables.userops ≤ 2 ^ 32
  pub texts : length s.tables.constructors ≤ length s.constructors
  pub flats : length s.tables.constructors ≤ length s.sections
  pub whole : FitTheWhole s.tables s.sections s.sizes
  pub keep : KeepUses s.tables s.constructors (steps_of s) whole.last
  pub stated : (number : ℕ) (c : Ctor) (f : Flat) → slice_get s.tables.constructors number ≡ Some c
      → slice_get s.sections number ≡ Some f
      → is_unimpl_by (slice_get s.constructors number) ≡ false → IsStated s g whole.last c f

-- Then its sections are sound.
abbrev pub SectionsAreSound : Type 0
SectionsAreSound = (s : Specification) (g : Setting) (known : IsKnown s g)
    → IsSound s (uses_in s known.whole.last) g
