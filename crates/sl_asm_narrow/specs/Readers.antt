-- view: what a reader of texts has of a specification.
use Rattle.std.specs.Prelude.{◌≡◌, ℕ, List, Option, Some, slice_get}
use Rattle.std.specs.List.{flat_map}
use Rattle.sl_asm_narrow.specs.declared.reader.Reader.{Reader}
use Rattle.sl_ast.specs.Trees.{Constructor}
use Rattle.sl_ast.specs.Unfolding.{Placed}
use Rattle.sl_ast.specs.Views.{items_of}
use Rattle.sl_bind_compile.specs.Compiled.{IsCompiled}
use Rattle.sl_bind_compile.specs.Outcomes.{all_constructors}
use Rattle.sl_decode_meaning.specs.Meanings.{says}
use Rattle.sl_decode_plan.specs.Plans.{done_by}
use Rattle.sl_list_instructions.specs.Disassemblies.{StandsFor}
use Rattle.sl_asm_print.specs.Splits.{KeepsTexts}
use Rattle.sl_show.specs.Templates.{parts_of}
use Rattle.sl_show.specs.declared.templates.Part.{Part}
use Rattle.sl_show.specs.declared.templates.Template.{Template}
use Rattle.sl_spec.specs.declared.tables.Tables.{Tables}

abbrev pub tables_of : Reader → Tables
tables_of r = r.compiled.now.bound.tables

abbrev pub written_of : Reader → List (Placed Constructor)
written_of r = all_constructors (items_of r.compiled.now.bound.spec)

-- the parts of the text of a constructor's nodes
abbrev pub parts_at : Reader → ℕ → List Part
parts_at r number = parts_of (slice_get r.disassembly.now.templates.items number)

-- All texts that the parts show begin with the byte.
abbrev pub HasHead : List Part → ℕ → Type 0
HasHead parts head = (shows : Part → List ℕ) → KeepsTexts shows → slice_get (flat_map shows parts) 0 ≡ Some head

-- Each byte is the head of the template at its index.
abbrev pub AreHeads : List Template → List (Option ℕ) → Type 0
AreHeads templates heads = (number head : ℕ) → slice_get heads number ≡ Some (Some head)
    → HasHead (parts_of (slice_get templates number)) head

-- Its plans and templates are those of the constructors of the specification, which is sound.
pub record IsReader (r : Reader) : Type 0 where
  pub compiled : IsCompiled r.compiled.now
  pub stands : StandsFor r.disassembly.now (tables_of r) (written_of r)
  pub heads : AreHeads r.disassembly.now.templates.items r.heads.items
  pub plans : (number : ℕ) → done_by (tables_of r) r.plans.items number ≡ says (tables_of r) (written_of r) number
