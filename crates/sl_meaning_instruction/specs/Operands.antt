-- meaning: what the operands of a decoded node stand for (SLEIGH manual, "The Semantic Section",
-- "Attaching Registers", "Attaching Other Integers").
use Rattle.std.specs.Prelude.{ℕ, ◌+◌, ℤ, List, [], map, slice_get}
use Rattle.std.specs.Prelude.{Option, None, Some, option_and_then}
use Rattle.sl_ast.specs.Trees.{Constructor}
use Rattle.sl_ast.specs.Unfolding.{Placed}
use Rattle.sl_decode_meaning.specs.Lookups.{entry_at, number_at}
use Rattle.sl_decode_meaning.specs.Meanings.{leaves_by}
use Rattle.sl_decode_meaning.specs.Places.{Leaf, bare_place, or_start}
use Rattle.sl_decode_meaning.specs.Trees.{Node}
use Rattle.sl_decode_meaning.specs.Values.{value_or_zero}
use Rattle.sl_section_equations.specs.Equations.{size_at}
use Rattle.sl_meaning_sections.specs.Nodes.{nothing}
use Rattle.sl_meaning_sections.specs.References.{Reference, number, storage}
use Rattle.sl_spec.specs.Attachments.{attached_to}
use Rattle.sl_spec.specs.FieldValues.{bits_of, value_of}
use Rattle.sl_spec.specs.Tables.{Attached, Ctor, Entries, Field, Name, Operand, Register}
use Rattle.sl_spec.specs.Tables as spec
use Rattle.sl_spec.specs.declared.constructors.Means.{Means}
use Rattle.sl_spec.specs.declared.constructors.Means.TheVariants as means
use Rattle.sl_spec.specs.declared.tables.Tables.{Tables}

-- ---- fields

abbrev pub register_reference : Option Register → Reference
register_reference None = nothing
register_reference (Some r) = storage r.space r.offset (size_at r.size)

-- what is attached at an index: a register or a number; a text leaves a field its own value
abbrev pub entry_reference : Tables → Entries → (index : ℕ) → (own : ℤ) → Reference
entry_reference t (spec.registers ids) index own =
    register_reference (option_and_then (λ id. slice_get t.registers id) (entry_at ids index))
entry_reference t (spec.texts names) index own = number own
entry_reference t (spec.values numbers) index own =
    number (value_or_zero (entry_at numbers index))

-- a field that is read from a number: what is attached to its bits, or else its value
abbrev pub field_reference_by : Tables → Field → Option Attached → ℕ → Reference
field_reference_by t f None n = number (value_of f n)
field_reference_by t f (Some a) n =
    entry_reference t a.entries (bits_of f.low f.high n) (value_of f n)

abbrev pub field_reference_if : Tables → (id : ℕ) → Option Field → List ℕ
    → (at context : ℕ) → Reference
field_reference_if t id None bytes at context = nothing
field_reference_if t id (Some f) bytes at context =
    field_reference_by t f (attached_to id t.attached) (number_at t f bytes at context)

-- the same, by the field's number and the place of its token
abbrev pub field_reference : Tables → (id : ℕ) → List ℕ → (at context : ℕ) → Reference
field_reference t id bytes at context =
    field_reference_if t id (slice_get t.fields id) bytes at context

-- ---- operands

abbrev pub action_reference : Node → (k : ℕ) → Reference
action_reference n k = number (value_or_zero (slice_get n.values k))

-- at a node of an instruction of these bytes
module _ (t : Tables) (bytes : List ℕ) (n : Node) where
  -- a field whose token begins at a place in bytes from the node's own
  abbrev pub field_at : (id place : ℕ) → Reference
  field_at id place = field_reference t id bytes (n.at + place) n.context

  -- what an operand stands for; none for a table, which is a node of its own. A field is read where
  -- it stands alone.
  abbrev pub given_reference : List Leaf → Name → Means → Option Reference
  given_reference ls name (means.Field id) = Some (field_at id (or_start (bare_place name ls)))
  given_reference ls name (means.Action k) = Some (action_reference n k)
  given_reference ls name (means.Table id) = None

  -- what the operands of a constructor stand for, by the lengths of the nodes below
  abbrev pub given_by : Option Ctor → Option (Placed Constructor) → (lengths : List ℕ)
      → List (Option Reference)
  given_by (Some c) (Some written) lengths = map
      (λ o. given_reference (leaves_by t c.operands written.1.pattern lengths) o.name o.means)
      c.operands
  given_by (Some c) None lengths = []
  given_by None written lengths = []
