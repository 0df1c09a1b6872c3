-- law: what is judged of flat sections, and what is handed on of a text.
use Rattle.std.specs.Prelude.{◌≡◌, List, None, Some, Ok, Err}
use Rattle.sl_ast.specs.Trees.{Constructor, Item}
use Rattle.sl_ast.specs.Unfolding.{Placed}
use Rattle.sl_bind.specs.Binding.{Binds, EndsIn, constructors_of, fault_of}
use Rattle.sl_bind.specs.Verdict.{taken, unless_late}
use Rattle.sl_bind.specs.declared.fault.BindFault.TheVariants as fault
use Rattle.sl_bind.specs.declared.fault.Refusal.{Refusal}
use Rattle.sl_bind.specs.declared.fault.Refusal.TheVariants.{At, NoMemory}
use Rattle.sl_bind.specs.declared.stop.Stop.{Stop}
use Rattle.sl_bind.specs.declared.stop.Stop.TheVariants as stop
use Rattle.sl_section_all.specs.FlatSections.{flat_sections, sections_fault}
use Rattle.sl_section_all.specs.Scopes.{Scopes, scopes_of}
use Rattle.sl_section_sizes.specs.SectionSizes.{AreSizes}
use Rattle.sl_section_sizes.specs.declared.faults.SizesError.{SizesError}
use Rattle.sl_section_sizes.specs.declared.faults.SizesError.TheVariants as sizes
use Rattle.sl_spec.specs.declared.tables.Tables.{Tables}
use Rattle.sl_word.specs.declared.word.Size.{Size}

-- Rules 38 and 39 hold, and these are the sizes of the sections.
pub record AreKept (t : Tables) (s : Scopes) (cs : List (Placed Constructor)) (sizes : List (List Size)) : Type 0 where
  pub holds : sections_fault t s cs ≡ None
  pub sized : AreSizes t (flat_sections t s cs) sizes

-- The refusal is what the sections end in, unless memory ran out.
abbrev pub StopsAt : Tables → Scopes → List (Placed Constructor) → Refusal → Type 0
StopsAt t s cs (At fault item) = EndsIn s cs (unless_late (sections_fault t s cs) t) (Err (fault, item))
StopsAt t s cs NoMemory = Unit {0}

-- These are the tables of the items, and the sizes of their sections.
pub record AreParts (items : List Item) (t : Tables) (sizes : List (List Size)) : Type 0 where
  pub stands : taken items ≡ Ok t
  pub kept : AreKept t (scopes_of items) (constructors_of items) sizes

-- The refusal is the verdict on the items, unless memory ran out.
abbrev pub IsRefusal : List Item → Refusal → Type 0
IsRefusal items (At fault item) = Binds items (Err (fault, item))
IsRefusal items NoMemory = Unit {0}

-- what is told of sizes that aren't found
abbrev pub TellsSizes : SizesError → Refusal → Type 0
TellsSizes (sizes.Fault item fault) refusal = refusal ≡ At (fault_of fault) (Some item)
TellsSizes sizes.NoMemory refusal = refusal ≡ NoMemory

-- what is told of a stop
abbrev pub TellsStop : Stop → Refusal → Type 0
TellsStop (stop.Rule rule item) refusal = refusal ≡ At (fault.Rule rule) item
TellsStop stop.NoMemory refusal = refusal ≡ NoMemory
