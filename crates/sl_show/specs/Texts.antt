-- meaning: the text of an instruction, by its decode (SLEIGH manual, "The Display Section").
use Rattle.std.specs.Prelude.{ℕ, ◌+◌, ◌==◌, ℤ, Bool, false, List, [], ◌∷◌}
use Rattle.std.specs.Prelude.{Option, None, Some, option_and_then, get_or, slice_get}
use Rattle.sl_ast.specs.Trees.{Constructor}
use Rattle.sl_ast.specs.Unfolding.{Placed}
use Rattle.sl_decode_meaning.specs.Lookups.{entry_at, number_at}
use Rattle.sl_decode_meaning.specs.Meanings.{leaves_by}
use Rattle.sl_decode_meaning.specs.Places.{Leaf, bare_place, or_start, slot_from}
use Rattle.sl_decode_meaning.specs.Trees.{Node, Trees, none, tree}
use Rattle.sl_decode_meaning.specs.Values.{value_or_zero}
use Rattle.sl_show.specs.Numbers.{number_text}
use Rattle.sl_show.specs.Pieces.{display_text}
use Rattle.sl_spec.specs.Attachments.{attached_to}
use Rattle.sl_spec.specs.FieldValues.{bits_of, value_of}
use Rattle.sl_spec.specs.Named.{named}
use Rattle.sl_spec.specs.Tables.{Attached, Ctor, Entries, Field, Name, Operand, Register}
use Rattle.sl_spec.specs.Tables as spec
use Rattle.sl_spec.specs.declared.constructors.Means.{Means}
use Rattle.sl_spec.specs.declared.constructors.Means.TheVariants as means
use Rattle.sl_spec.specs.declared.tables.Tables.{Tables}

-- what the text of a node hangs on: the instruction's bytes and the node's place among them, its
-- context, the values of its action names, and the lengths and the texts of its table operands
pub record Spot : Type 0 where
  pub bytes : List ℕ
  pub at : ℕ
  pub context : ℕ
  pub values : List ℤ
  pub lengths : List ℕ
  pub operands : List (List ℕ)

abbrev pub or_nothing : Option (List ℕ) → List ℕ
or_nothing None = []
or_nothing (Some text) = text

abbrev pub register_name : Option Register → List ℕ
register_name None = []
register_name (Some r) = r.name

-- ---- operands

-- the entry at an index: a register's name, a text, or a number
abbrev pub entry_text : Tables → Bool → Entries → ℕ → List ℕ
entry_text t dec (spec.registers ids) index =
    register_name (option_and_then (λ id. slice_get t.registers id) (entry_at ids index))
entry_text t dec (spec.texts names) index = or_nothing (entry_at names index)
entry_text t dec (spec.values numbers) index =
    number_text dec (value_or_zero (entry_at numbers index))

-- a field that is read from a number: what is attached to its bits, or else its value
abbrev pub field_text_by : Tables → Field → Option Attached → ℕ → List ℕ
field_text_by t f None number = number_text f.dec (value_of f number)
field_text_by t f (Some a) number =
    entry_text t f.dec a.entries (bits_of f.low f.high number)

abbrev pub field_text_if : Tables → ℕ → Option Field → List ℕ → ℕ → ℕ → List ℕ
field_text_if t id None bytes at context = []
field_text_if t id (Some f) bytes at context =
    field_text_by t f (attached_to id t.attached) (number_at t f bytes at context)

-- the same, by the field's number
abbrev pub field_text : Tables → ℕ → List ℕ → ℕ → ℕ → List ℕ
field_text t id bytes at context = field_text_if t id (slice_get t.fields id) bytes at context

-- a field whose token begins at a place in bytes from the node's own
abbrev pub field_text_at : Tables → ℕ → Spot → ℕ → List ℕ
field_text_at t id s place = field_text t id s.bytes (s.at + place) s.context

abbrev pub operand_at : List (List ℕ) → Option ℕ → List ℕ
operand_at operands None = []
operand_at operands (Some number) = get_or operands number []

-- the value of an action name, in hexadecimal
abbrev pub action_text : ℕ → Spot → List ℕ
action_text n s = number_text false (value_or_zero (slice_get s.values n))

module _ (t : Tables) (os : List Operand) (ls : List Leaf) (s : Spot) where
  -- a field is read where it stands alone
  abbrev pub operand_text : Name → Means → List ℕ
  operand_text name (means.Field id) = field_text_at t id s (or_start (bare_place name ls))
  operand_text name (means.Table id) = operand_at s.operands (slot_from 0 os name)
  operand_text name (means.Action n) = action_text n s

  abbrev pub word_text_by : Name → Option Operand → List ℕ
  word_text_by name None = name
  word_text_by name (Some o) = operand_text name o.means

  -- a word that is no operand is a register, and stands for its own name
  abbrev pub word_text : Name → List ℕ
  word_text name = word_text_by name (named (λ o. o.name) name os)

-- ---- nodes

-- constructors of `instruction`, the first table, have mnemonics
abbrev pub has_mnemonic : Ctor → Bool
has_mnemonic c = c.table == 0

abbrev pub node_text_by : Tables → Option Ctor → Option (Placed Constructor) → Spot → List ℕ
node_text_by t (Some c) (Some written) s = display_text (has_mnemonic c)
    (word_text t c.operands (leaves_by t c.operands written.1.pattern s.lengths) s)
    written.1.display
node_text_by t (Some c) None s = []
node_text_by t None written s = []

-- the text of a node of a constructor
abbrev pub node_text : Tables → List (Placed Constructor) → ℕ → Spot → List ℕ
node_text t constructors number s =
    node_text_by t (slice_get t.constructors number) (slice_get constructors number) s

abbrev pub lengths_of : Trees Node → List ℕ
lengths_of none = []
lengths_of (tree n below behind) = n.length ∷ lengths_of behind

abbrev pub spot : List ℕ → Node → List ℕ → List (List ℕ) → Spot
spot bytes n lengths operands = record {
  bytes = bytes;
  at = n.at;
  context = n.context;
  values = n.values;
  lengths = lengths;
  operands = operands;
}

-- the texts of trees side by side, by how nodes are shown
abbrev pub texts_by : (ℕ → Spot → List ℕ) → List ℕ → Trees Node → List (List ℕ)
texts_by shows bytes none = []
texts_by shows bytes (tree n below behind) =
    shows n.ctor (spot bytes n (lengths_of below) (texts_by shows bytes below))
    ∷ texts_by shows bytes behind

abbrev pub first_text : List (List ℕ) → List ℕ
first_text [] = []
first_text (text ∷ rest) = text

-- the text of the first of some trees: that of the whole instruction, where it is one tree
unfoldable pub shown_text : Tables → List (Placed Constructor) → List ℕ → Trees Node → List ℕ
shown_text t constructors bytes trees =
    first_text (texts_by (node_text t constructors) bytes trees)
