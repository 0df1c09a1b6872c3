-- law: what rules 29 to 31 and 38 say of sections as they are written holds of flat sections.
use Rattle.std.specs.Prelude.{◌≡◌, ℕ, false, List, map, None, Ok, Some, slice_get}
use Rattle.sl_ast.specs.Trees.{Item}
use Rattle.sl_bind.specs.Binding.{constructors_of}
use Rattle.sl_bind.specs.Verdict.{taken}
use Rattle.sl_section_equations.specs.SizesIn.{size_in}
use Rattle.sl_section_exports.specs.Exports.{unexported_place}
use Rattle.sl_faithful_keeping.specs.Keeping.{first_export}
use Rattle.sl_section_all.specs.FlatSections.{Flat, flat_sections}
use Rattle.sl_section_all.specs.Scopes.{scopes_of}
use Rattle.sl_meaning_instruction.specs.Instructions.{is_unimpl_by}
use Rattle.sl_faithful_keeping.specs.KeepingLaws.{ExportsAreBare}
use Rattle.sl_section_flat.specs.Sections.{Export}
use Rattle.sl_faithful_sections.specs.SoundLaws.{HasExport}
use Rattle.sl_spec.specs.Tables.{Ctor}
use Rattle.sl_spec.specs.declared.tables.Tables.{Tables}
use Rattle.sl_faithful_sections.specs.UseLaws.{NamesPlace}
use Rattle.sl_faithful_formed.specs.Lengths.{AreDistinct, built}
use Rattle.sl_faithful_sections.specs.SizeLaws.{FitTheWhole}
use Rattle.sl_word.specs.declared.word.Size.{Size}

-- the flat sections of a text that has these tables
abbrev pub sections_of : List Item → Tables → List Flat
sections_of items t = flat_sections t (scopes_of items) (constructors_of items)

-- Of a text that keeps rules 1 to 37, each section builds each operand once at most.
abbrev pub BuildsAreOnce : Type 0
BuildsAreOnce = (items : List Item) (t : Tables) (number : ℕ) (f : Flat) → taken items ≡ Ok t
    → slice_get (sections_of items t) number ≡ Some f → AreDistinct (built f.steps)

-- Each constant that a section exports is a number by itself.
abbrev pub ConstantsAreBare : Type 0
ConstantsAreBare = (items : List Item) (t : Tables) (number : ℕ) (f : Flat) → taken items ≡ Ok t
    → slice_get (sections_of items t) number ≡ Some f → ExportsAreBare f.steps

-- Each name that a section exports is that of a register, a local, a field with registers or a
-- table.
abbrev pub ExportsArePlaces : Type 0
ExportsArePlaces = (items : List Item) (t : Tables) (number : ℕ) (f : Flat) (what : Export)
    → taken items ≡ Ok t → slice_get (sections_of items t) number ≡ Some f
    → first_export f.steps ≡ Some what → NamesPlace what

-- Where rule 38 holds too, each section that isn't `unimpl` exports where its table has a size.
abbrev pub TablesExportAlike : Type 0
TablesExportAlike = (items : List Item) (t : Tables) (sizes : List (List Size)) (number : ℕ)
    (c : Ctor) (f : Flat) (size : ℕ) → taken items ≡ Ok t
    → unexported_place t (constructors_of items) (map (λ f. f.steps) (sections_of items t)) ≡ None
    → (whole : FitTheWhole t (sections_of items t) sizes)
    → slice_get t.constructors number ≡ Some c → slice_get (sections_of items t) number ≡ Some f
    → is_unimpl_by (slice_get (constructors_of items) number) ≡ false
    → size_in whole.last c.table ≡ Some size → HasExport f.steps
