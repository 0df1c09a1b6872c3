-- law: the operations of each instruction of an accepted text are a list that is faithful to it.
use Rattle.std.specs.Prelude.{◌≡◌, ℕ, ◌^◌, ◌≤◌, false, List, length, map, Ok, Some, slice_get}
use Rattle.sl_ast.specs.Spelling.{spell}
use Rattle.sl_ast.specs.Trees.{Constructor, Item}
use Rattle.sl_ast.specs.Unfolding.{Placed}
use Rattle.sl_bind.specs.Binding.{Binds, constructors_of}
use Rattle.sl_bind.specs.Sections.{AreParts}
use Rattle.sl_decode_choices.specs.Choices.{IsChoiceOf}
use Rattle.sl_faithful_code.specs.Nodes.{node_code, top_of}
use Rattle.sl_faithful_code.specs.Operations.{operation_of}
use Rattle.sl_decode_meaning.specs.Decoding.{Decoded, decoded}
use Rattle.sl_decode_meaning.specs.TreeCounts.{count}
use Rattle.sl_decode_meaning.specs.Choices.{Choice}
use Rattle.sl_section_exports.specs.Exports.{Row, rows}
use Rattle.sl_faithful_lists.specs.Faithful.{IsFaithfulList}
use Rattle.sl_faithful_keeping.specs.Keeping.{first_export}
use Rattle.sl_section_all.specs.FlatSections.{Flat, flat_sections}
use Rattle.sl_section_all.specs.Scopes.{scopes_of}
use Rattle.sl_meaning_instruction.specs.Instructions.{instruction, is_unimplemented}
use Rattle.sl_meaning_instruction.specs.Instructions.{setting_of, specification_of}
use Rattle.sl_pcode.specs.declared.operation.Op.{Op}
use Rattle.sl_section_flat.specs.Numbered.{StepsBelow}
use Rattle.sl_section_flat.specs.Sections.{Export}
use Rattle.sl_spec.specs.Tables.{Ctor}
use Rattle.sl_spec.specs.declared.tables.Tables.{Tables}
use Rattle.sl_faithful_sections.specs.UseLaws.{KeepUses, NamesPlace}
use Rattle.sl_faithful_instructions.specs.Shaped.{ChoosesOf}
use Rattle.sl_faithful_limits.specs.TreeLaws.{KeepLimits}
use Rattle.sl_faithful_sections.specs.SizeLaws.{FitTheWhole}
use Rattle.sl_word.specs.declared.word.Size.{Size}

-- A text has at most 2^32 tokens: one of a file's size has far fewer.
abbrev pub IsShort : List Item → Type 0
IsShort items = length (spell items) ≤ 2 ^ 32

-- Operations that are those of a decoded instruction of an accepted text, none of whose nodes is
-- `unimpl`, are faithful to it.
abbrev pub BoundAreTranslated : Type 0
BoundAreTranslated = (items : List Item) (t : Tables) (sizes : List (List Size)) (choose : Choice)
    (bytes : List ℕ) (address context : ℕ) (d : Decoded) (ops : List Op)
    → IsShort items → Binds items (Ok (t, sizes)) → IsChoiceOf t (constructors_of items) choose
    → decoded t (constructors_of items) choose bytes address context ≡ Ok d
    → is_unimplemented (constructors_of items) d.tree ≡ false
    → map operation_of ops ≡ node_code (top_of (count d.tree)) (setting_of t address d.after)
    (instruction (specification_of items t sizes) bytes d.tree)
    → IsFaithfulList (specification_of items t sizes) bytes address d ops

-- Each decoded instruction of an accepted text, none of whose nodes is `unimpl`, has such a list.
abbrev pub BoundHaveTranslations : Type 0
BoundHaveTranslations = (items : List Item) (t : Tables) (sizes : List (List Size))
    (choose : Choice) (bytes : List ℕ) (address context : ℕ) (d : Decoded)
    → IsShort items → Binds items (Ok (t, sizes)) → IsChoiceOf t (constructors_of items) choose
    → decoded t (constructors_of items) choose bytes address context ≡ Ok d
    → is_unimplemented (constructors_of items) d.tree ≡ false
    → (ops : List Op) × IsFaithfulList (specification_of items t sizes) bytes address d ops

-- ---- what is known of an accepted text

-- Its tables keep rules 1 to 37, its sections rules 38 and 39, and these are their sizes.
abbrev pub BoundAreParts : Type 0
BoundAreParts = (items : List Item) (t : Tables) (sizes : List (List Size))
    → Binds items (Ok (t, sizes)) → AreParts items t sizes

-- Nodes and weights are within the limits of rules 36 and 38.
abbrev pub BoundKeepLimits : Type 0
BoundKeepLimits = (items : List Item) (t : Tables) (sizes : List (List Size))
    → Binds items (Ok (t, sizes))
    → KeepLimits t (constructors_of items) (scopes_of items).macros

-- the flat sections of a text
abbrev pub flats_of : List Item → Tables → List Flat
flats_of items t = flat_sections t (scopes_of items) (constructors_of items)

-- Size variables of these sections are below their number.
abbrev pub AreNumbered : Tables → List Flat → Type 0
AreNumbered t flats = (number : ℕ) (c : Ctor) (f : Flat)
    → slice_get t.constructors number ≡ Some c → slice_get flats number ≡ Some f
    → StepsBelow f.variables f.steps

-- What is exported by name is a register, a local, a field with registers or a table.
abbrev pub ArePlaced : Tables → List (Placed Constructor) → List Flat → Type 0
ArePlaced t cs flats = (k : ℕ) (r : Row) (what : Export)
    → slice_get (rows t cs (map (λ f. f.steps) flats)) k ≡ Some r
    → first_export r.1 ≡ Some what → NamesPlace what

-- Tables are used as rules 38 and 39 say, by the sizes that they export in the end.
abbrev pub BoundKeepUses : Type 0
BoundKeepUses = (items : List Item) (t : Tables) (sizes : List (List Size))
    → AreParts items t sizes → (whole : FitTheWhole t (flats_of items t) sizes)
    → AreNumbered t (flats_of items t) → ArePlaced t (constructors_of items) (flats_of items t)
    → KeepUses t (constructors_of items) (map (λ f. f.steps) (flats_of items t)) whole.last

-- What is chosen in a table is a constructor of it.
abbrev pub ChoicesAreOwn : Type 0
ChoicesAreOwn = (t : Tables) (cs : List (Placed Constructor)) (choose : Choice)
    → IsChoiceOf t cs choose → ChoosesOf t choose
