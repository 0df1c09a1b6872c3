-- meaning: what a specification is bound to: its tables and the sizes of its sections, or its first fault.
use Rattle.std.specs.Prelude.{◌≡◌, ℕ, List, Option, Some, None, Result, Ok, Err}
use Rattle.sl_ast.specs.Trees.{Constructor, Item}
use Rattle.sl_ast.specs.Unfolding.{Placed, unfolded}
use Rattle.sl_bind.specs.Verdict.{Broken, taken, unless_late}
use Rattle.sl_bind.specs.declared.fault.BindFault.{BindFault}
use Rattle.sl_bind.specs.declared.fault.BindFault.TheVariants.{Rule, SizeClash, SizeUnfixed}
use Rattle.sl_section_all.specs.FlatSections.{flat_sections, sections_fault}
use Rattle.sl_section_all.specs.Scopes.{Scopes, scopes_of}
use Rattle.sl_spec_rules.specs.Demands.{◌>>=◌}
use Rattle.sl_section_sizes.specs.Laws.{ComesTo, SizingOutcome}
use Rattle.sl_section_sizes.specs.declared.faults.SizeFault.{SizeFault}
use Rattle.sl_section_sizes.specs.declared.faults.SizeFault.TheVariants as sizes
use Rattle.sl_spec.specs.ConstructorItems.{constructors_in}
use Rattle.sl_spec.specs.declared.tables.Tables.{Tables}
use Rattle.sl_word.specs.declared.word.Size.{Size}

-- the constructors of a text, with the blocks round them unfolded
abbrev pub constructors_of : List Item → List (Placed Constructor)
constructors_of items = constructors_in (unfolded items)

-- the tables with the sizes of all sections, in the order of the text; or what is wrong and the
-- item where it is, none being the text's end
abbrev pub Verdict : Type 0
Verdict = Result (Tables × List (List Size)) (BindFault × Option ℕ)

-- the tables where rules 1 to 39 hold, or the first broken one and the item that breaks it
unfoldable pub judged_tables : List Item → Result Tables Broken
judged_tables items = taken items
    >>= λ t. unless_late (sections_fault t (scopes_of items) (constructors_of items)) t

abbrev pub fault_of : SizeFault → BindFault
fault_of sizes.Clash = SizeClash
fault_of sizes.Unfixed = SizeUnfixed
fault_of sizes.Rule = Rule 40

-- what sections come to, beside the tables
abbrev pub with_tables : Tables → SizingOutcome → Verdict
with_tables t (Ok sizes) = Ok (t, sizes)
with_tables t (Err (item, fault)) = Err (fault_of fault, Some item)

-- Where rules 1 to 39 hold, the flat sections decide: all have sizes, or the first one that has none
-- or breaks rule 40, in the order in which constructors are shaped.
abbrev pub EndsIn : Scopes → List (Placed Constructor) → Result Tables Broken → Verdict → Type 0
EndsIn s cs (Err (rule, item)) verdict = verdict ≡ Err (Rule rule, item)
EndsIn s cs (Ok t) verdict = (outcome : SizingOutcome) × ComesTo t (flat_sections t s cs) outcome
    × (verdict ≡ with_tables t outcome)

-- The items of a specification come to this verdict.
abbrev pub Binds : List Item → Verdict → Type 0
Binds items verdict = EndsIn (scopes_of items) (constructors_of items) (judged_tables items) verdict
