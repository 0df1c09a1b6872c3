-- view: what the program keeps of operands, and trees as it makes them.
use Rattle.std.specs.Prelude.{ℕ, Bool, false, List, [], Vec, Option, None, Some, map, slice_get}
use Rattle.std.specs.Prelude.{◌≡◌, unwrap_or}
use Rattle.std.specs.declared.alloc.Global.{Global}
use Rattle.sl_ast.specs.Trees.{Constructor}
use Rattle.sl_ast.specs.Unfolding.{Placed}
use Rattle.sl_build.specs.Pieces.{Making, Piece}
use Rattle.sl_build.specs.declared.slots.Slot.{Slot}
use Rattle.sl_build.specs.declared.slots.Slot.TheVariants as v
use Rattle.sl_build.specs.declared.trees.Tree.{Tree}
use Rattle.sl_build.specs.declared.work.Work.{Work}
use Rattle.sl_decode_meaning.specs.Trees.{Node}
use Rattle.sl_decode_meaning.specs.declared.entries.Entry.{Entry}
use Rattle.sl_build_emit.specs.Views.{number_of, operations_of, reference_of}
use Rattle.sl_section_all.specs.FlatSections.{Flat}
use Rattle.sl_section_all.specs.Views.{flats_of}
use Rattle.sl_meaning_instruction.specs.Instructions.{section_by}
use Rattle.sl_meaning_instruction.specs.Operands.{action_reference, field_at, given_by}
use Rattle.sl_meaning_sections.specs.Nodes.{Section, frame_of}
use Rattle.sl_meaning_sections.specs.References.{Reference, Setting}
use Rattle.sl_decode_leaves.specs.Extents.{extent}
use Rattle.sl_show.specs.Entries.{Row, rows_of}
use Rattle.sl_section_sizes.specs.Sizings.{lists_of}
use Rattle.sl_spec.specs.declared.tables.Tables.{Tables}
use Rattle.sl_build_template.specs.Pieces as t
use Rattle.sl_build_template.specs.Placed.{placed}
use Rattle.sl_build_template.specs.Views.{IsTemplateOf, parts_of, size_in}
use Rattle.sl_build_template.specs.declared.piece.Part.{Part}
use Rattle.sl_word.specs.Sizes.{byte_counts}
use Rattle.sl_word.specs.declared.word.Size.{Size}

-- ---- operands

-- what an operand stands for at a node, by the lengths of the nodes below; none for a table
abbrev pub slot_reference : Tables → (bytes : List ℕ) → Node → (lengths : List ℕ) → Slot
    → Option Reference
slot_reference t bytes n lengths v.Table = None
slot_reference t bytes n lengths (v.Field id place) =
    Some (field_at t bytes n id (extent place lengths))
slot_reference t bytes n lengths (v.Action k) = Some (action_reference n k)

abbrev pub slots_in : Option (Vec Slot Global) → List Slot
slots_in None = []
slots_in (Some slots) = slots.items

-- what is given to a node by the operands of its constructor
abbrev pub gives_by : Tables → List (Vec Slot Global) → (bytes : List ℕ) → Node
    → (lengths : List ℕ) → List (Option Reference)
gives_by t slots bytes n lengths =
    map (slot_reference t bytes n lengths) (slots_in (slice_get slots n.ctor))

-- They are the operands of all constructors.
abbrev pub AreSlots : Tables → List (Placed Constructor) → List (Vec Slot Global) → Type 0
AreSlots t cs slots = (bytes : List ℕ) (n : Node) (lengths : List ℕ)
    → gives_by t slots bytes n lengths ≡ given_by t bytes n
    (slice_get t.constructors n.ctor) (slice_get cs n.ctor) lengths

-- ---- marks

abbrev pub is_marked : List Bool → (ctor : ℕ) → Bool
is_marked marks ctor = unwrap_or (slice_get marks ctor) false

-- ---- templates

abbrev pub templates_of : List (Vec Part Global) → List (List t.Part)
templates_of ts = map (λ v. parts_of v.items) ts

-- the template of a constructor
abbrev pub template_at : List (List t.Part) → (ctor : ℕ) → List t.Part
template_at ts ctor = unwrap_or (slice_get ts ctor) []

abbrev pub form_by : (sizes : List ℕ) → (default : ℕ) → Section → t.Form
form_by sizes default section = record { sizes = sizes; default = default; size = section.size }

abbrev pub form_of_sizes : (sizes : List ℕ) → (default : ℕ) → List Size → t.Form
form_of_sizes sizes default ns =
    record { sizes = sizes; default = default; size = size_in ns }

-- They are the templates of all sections.
abbrev pub AreTemplates : (sizes : List ℕ) → (default : ℕ) → List Flat → List (List Size)
    → List (List t.Part) → Type 0
AreTemplates sizes default sections lists ts = (ctor : ℕ)
    → IsTemplateOf (form_by sizes default (section_by sections lists ctor))
    (section_by sections lists ctor).steps (template_at ts ctor)

-- ---- trees

abbrev pub piece_of : Tree → Piece
piece_of x = record {
  nodes = x.nodes;
  length = x.length;
  reference = reference_of x.reference;
  code = operations_of x.list.items;
}

abbrev pub pieces_of : List Tree → List Piece
pieces_of xs = map piece_of xs

-- ---- an instruction whose list is made

abbrev pub section_in : Work → (ctor : ℕ) → Section
section_in w = section_by (flats_of w.of.now.sections.items) (lists_of w.of.now.sizes.now)

abbrev pub gives_in : Work → Node → (lengths : List ℕ) → List (Option Reference)
gives_in w = gives_by w.of.now.tables.now w.of.now.slots.items w.bytes.now

abbrev pub setting_in : Work → Setting
setting_in w = record {
  endian = w.of.now.tables.now.endian;
  sizes = byte_counts w.of.now.spaces.items;
  default = w.of.now.default.0;
  start = number_of w.start;
  next = number_of w.next;
}

abbrev pub template_in : Work → (ctor : ℕ) → List t.Part
template_in w = template_at (templates_of w.of.now.templates.items)

-- the list of a node, by its constructor's template
abbrev pub list_in : Work → Making
list_in w ctor k refs lists =
    placed w.top (setting_in w) (frame_of k (section_in w ctor) refs) lists (template_in w ctor)

abbrev pub rows_in : Work → List Entry → List Row
rows_in w nodes = rows_of w.values.now nodes
