-- meaning: what the names of a section stand for (SLEIGH manual, "The Semantic Section").
use Rattle.std.specs.Prelude.{ℕ, ◌+◌, nat_lt, codes, List, [], ◌∷◌, ◌++◌, length, slice_get}
use Rattle.std.specs.Prelude.{Option, Some, None, option_map, option_and_then, unwrap_or}
use Rattle.std.specs.Prelude.{if◌then◌else◌}
use Rattle.std.specs.Str.{bytes_eq}
use Rattle.sl_spec.specs.Attachments.{attached_to}
use Rattle.sl_spec.specs.Named.{named, has_name, index_named}
use Rattle.sl_spec.specs.Tables.{Name, Register, BitRange, Operand}
use Rattle.sl_spec.specs.Tables.{Entries, registers, texts, values}
use Rattle.sl_spec.specs.declared.constructors.Means.{Means}
use Rattle.sl_spec.specs.declared.constructors.Means.TheVariants as means
use Rattle.sl_spec.specs.declared.tables.Tables.{Tables}
use Rattle.sl_section_flat.specs.Sections as s
use Rattle.sl_section_flat.specs.Sections.{Symbol, span_count}
use Rattle.sl_section_terms.specs.Entries.{Entry}
use Rattle.sl_section_terms.specs.declared.names.Names.{Names}
use Rattle.sl_section_terms.specs.declared.reach.Reach.{Reach}

-- ---- names of the whole text, of which those count that are defined before an item

-- how many definitions there are of each kind: what is defined before the next item
abbrev pub reach_of : Tables → Reach
reach_of t = record {
  spaces = length t.spaces;
  registers = length t.registers;
  bit_ranges = length t.bitranges;
  userops = length t.userops;
  macros = length t.macros;
}

-- an index, where it is below n
abbrev pub if_below : ℕ → Option ℕ → Option ℕ
if_below n None = None
if_below n (Some i) = if nat_lt i n then Some i else None

-- the first of two answers that there is
abbrev pub first_of : {A : Type 0} → Option A → Option A → Option A
first_of None b = b
first_of (Some a) b = Some a

abbrev pub register_symbol : Register → Symbol
register_symbol r = s.register r.space r.offset r.size

-- the register of this number
abbrev pub register_at : Tables → ℕ → Option Symbol
register_at t i = option_map register_symbol (slice_get t.registers i)

abbrev pub bits_symbol : BitRange → Register → Symbol
bits_symbol b r = s.bit_range r.space r.offset r.size b.low (span_count b.count)

abbrev pub range_symbol : Tables → BitRange → Option Symbol
range_symbol t b = option_map (bits_symbol b) (slice_get t.registers b.register)

-- the bit range of this number
abbrev pub range_at : Tables → ℕ → Option Symbol
range_at t i = option_and_then (range_symbol t) (slice_get t.bitranges i)

abbrev pub register_named : Tables → Reach → Name → Option Symbol
register_named t reach w = option_and_then (register_at t)
    (if_below reach.registers (index_named (λ r. r.name) w t.registers))

abbrev pub range_named : Tables → Reach → Name → Option Symbol
range_named t reach w = option_and_then (range_at t)
    (if_below reach.bit_ranges (index_named (λ b. b.name) w t.bitranges))

abbrev pub built_in : Name → Option Symbol
built_in w = if bytes_eq w (codes "inst_start") then Some s.start
    else if bytes_eq w (codes "inst_next") then Some s.next else None

-- a register, a bit range, `inst_start` or `inst_next`
abbrev pub global_symbol : Tables → Reach → Name → Option Symbol
global_symbol t reach w =
    first_of (register_named t reach w) (first_of (range_named t reach w) (built_in w))

-- the number of a space
abbrev pub space_named : Tables → Reach → Option Name → Option ℕ
space_named t reach None = None
space_named t reach (Some w) = if_below reach.spaces (index_named (λ z. z.name) w t.spaces)

-- the number of a user operation
abbrev pub userop_named : Tables → Reach → Name → Option ℕ
userop_named t reach w = if_below reach.userops (index_named (λ u. u.name) w t.userops)

-- ---- names of the section or of the macro's call

-- the names with one more, if it isn't there
abbrev pub with_symbol : List Entry → Name → Symbol → List Entry
with_symbol own w a = if has_name (λ e. e.name) w own then own
    else own ++ record { name = w; symbol = a } ∷ []

abbrev pub own_symbol : List Entry → Name → Option Symbol
own_symbol own w = option_map (λ e. e.symbol) (named (λ e. e.name) w own)

-- What a name stands for: a parameter, an operand or a local that is declared earlier in the text,
-- and else a name of the whole text.
abbrev pub symbol_named : Tables → Names → Name → Option Symbol
symbol_named t names w = first_of (own_symbol names.own w) (global_symbol t names.reach w)

-- a name that stands for nothing counts as 0; rule 26 excludes it
abbrev pub known_symbol : Tables → Names → Name → Symbol
known_symbol t names w = unwrap_or (symbol_named t names w) (s.integer 0)

-- ---- operands

abbrev pub first_register : List (Option ℕ) → Option ℕ
first_register [] = None
first_register (None ∷ ids) = first_register ids
first_register (Some id ∷ ids) = Some id

-- the size of the registers of an attached list; they have one size
abbrev pub list_size : Tables → Entries → Option ℕ
list_size t (registers ids) =
    option_and_then (λ id. option_map (λ r. r.size) (slice_get t.registers id))
    (first_register ids)
list_size t (texts names) = None
list_size t (values numbers) = None

-- the size of the registers that are attached to a field anywhere in the text
abbrev pub attached_size : Tables → ℕ → Option ℕ
attached_size t field = option_and_then (λ a. list_size t a.entries) (attached_to field t.attached)

-- a field is a number where no registers are attached to it
abbrev pub field_symbol : (i : ℕ) → (size : Option ℕ) → Symbol
field_symbol i None = s.value i
field_symbol i (Some n) = s.attached i n

-- the operand of number i
abbrev pub operand_symbol : Tables → (i : ℕ) → Means → Symbol
operand_symbol t i (means.Field field) = field_symbol i (attached_size t field)
operand_symbol t i (means.Table table) = s.table i
operand_symbol t i (means.Action k) = s.value i

-- with the operands from number i on
abbrev pub with_operands : Tables → List Entry → (i : ℕ) → List Operand → List Entry
with_operands t own i [] = own
with_operands t own i (o ∷ os) =
    with_operands t (with_symbol own o.name (operand_symbol t i o.means)) (i + 1) os
