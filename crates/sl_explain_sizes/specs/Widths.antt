-- meaning: what the tokens of a text say of the size of a name in a section.
use Rattle.std.specs.Prelude.{ℕ, ◌+◌, ◌/◌, ◌==◌, ◌&&◌, ◌||◌, List, [], ◌∷◌, codes, drop, find, min, nat_lt}
use Rattle.std.specs.Prelude.{Bool, true, false, not, Option, Some, None, if◌then◌else◌}
use Rattle.std.specs.Str.{bytes_eq}
use Rattle.sl_explain_heads.specs.Words.{text_at}
use Rattle.sl_explain_names.specs.Definitions.{size_of}
use Rattle.sl_explain_names.specs.Items.{Item, is_action_name, is_address_name, is_bare, is_bit_range, is_field, is_register, is_table, kind_of}
use Rattle.sl_explain_names.specs.Names.{is_known, kind_by, steps_to}
use Rattle.sl_explain_names.specs.Sections.{attaches_registers, is_table_operand}
use Rattle.sl_explain_names.specs.TokenKinds.{has_after, has_before, has_here, number_after}
use Rattle.sl_explain_names.specs.declared.names.Mention.{Mention}
use Rattle.sl_explain_sizes.specs.Slices.{beyond, up_to}
use Rattle.sl_explain_sizes.specs.declared.widths.NamedWidth.{NamedWidth}
use Rattle.sl_explain_sizes.specs.declared.widths.Width.{Width}
use Rattle.sl_explain_sizes.specs.declared.widths.Width.TheVariants as width
use Rattle.sl_lex.specs.Reading.{Token}

-- Where a section is read: its item, and the names whose size is known besides, the first of a name counting: parameters and locals.
pub record Scope : Type 0 where
  pub item : Item
  pub known : List NamedWidth

abbrev pub is_bytes : Width → Bool
is_bytes (width.Bytes size) = true
is_bytes width.Number = false
is_bytes width.Open = false
is_bytes width.Untold = false

abbrev pub is_untold : Width → Bool
is_untold width.Untold = true
is_untold (width.Bytes size) = false
is_untold width.Number = false
is_untold width.Open = false

-- so many bytes, where 0 says that the tokens don't tell it
abbrev pub told : (size : ℕ) → Width
told size = if size == 0 then width.Untold else width.Bytes size

-- as many bytes as so many bits take
abbrev pub bit_bytes : (count : ℕ) → ℕ
bit_bytes count = (min count 128 + 7) / 8

-- ---- registers, bit ranges, and fields with registers

abbrev pub range_bytes : List Token → Option Mention → ℕ
range_bytes ts None = 0
range_bytes ts (Some m) = bit_bytes (number_after ts m.index 6)

-- the first name of a list of members that isn't `_`
abbrev pub first_member : List Token → List ℕ
first_member [] = []
first_member (t ∷ ts) = if bytes_eq t.text (codes "_") then first_member ts else t.text

-- the members of an `attach`, whose tokens these are from its first one on
abbrev pub members : List Token → List Token
members ts = if has_after ts 0 2 (codes "[") then drop 2 (drop (steps_to (codes "]") ts) ts) else drop 4 ts

abbrev pub attached_bytes : Item → Option Mention → ℕ
attached_bytes i None = 0
attached_bytes i (Some m) = size_of i (first_member (members (drop m.head i.tokens)))

-- the size of what the name stores, or 0
abbrev pub stored_bytes : Item → (name : List ℕ) → ℕ
stored_bytes i name =
    if is_register (kind_of i name) then size_of i name
    else if is_bit_range (kind_of i name) then range_bytes i.tokens (find (is_known i.tokens i.start name) i.names)
    else if is_field (kind_of i name) then attached_bytes i (find (attaches_registers i name) i.names)
    else 0

-- ---- tables

-- the size that is written in the star form which begins these tokens, or 0
abbrev pub star_size : List Token → ℕ
star_size ts =
    if has_after ts 0 1 (codes ":") then number_after ts 0 2
    else if has_after ts 0 1 (codes "[") then (if has_after ts 0 4 (codes ":") then number_after ts 0 5 else 0)
    else 0

-- the section of the constructor that begins these tokens, behind its first brace; `unimpl` has none
abbrev pub braced : List Token → List Token
braced ts =
    if nat_lt (steps_to (codes "unimpl") ts) (steps_to (codes "{") ts) then [] else up_to (codes "}") (beyond (steps_to (codes "{") ts) ts)

abbrev pub section_of : List Token → List Token
section_of ts = braced (beyond (steps_to (codes "is") ts) ts)

-- what it exports
abbrev pub exported : List Token → List Token
exported ts = beyond (steps_to (codes "export") ts) ts

-- the size of what is exported here, or 0
abbrev pub export_bytes : Item → List Token → ℕ
export_bytes i ts = if has_here ts 0 (codes "*") then star_size ts else stored_bytes i (text_at ts 0)

-- a constructor with this table's name begins here
abbrev pub begins_with : Item → (table : List ℕ) → Mention → Bool
begins_with i table m =
    is_table (kind_by m.role) && (has_here i.tokens m.index table && not (has_before i.tokens m.index 1 (codes "with")))

abbrev pub bytes_if : Item → (table : List ℕ) → Mention → ℕ
bytes_if i table m =
    if begins_with i table m then export_bytes i (exported (section_of (drop m.index i.tokens))) else 0

-- the size of what a table exports, by the first of its constructors whose tokens tell it, or 0
abbrev pub table_bytes : Item → (table : List ℕ) → List Mention → ℕ
table_bytes i table [] = 0
table_bytes i table (m ∷ ms) = if bytes_if i table m == 0 then table_bytes i table ms else bytes_if i table m

-- ---- names

-- A field is a number, or has the size of the registers that are attached to it.
abbrev pub field_width : Item → (attached : Option Mention) → Width
field_width i None = width.Number
field_width i (Some m) = told (attached_bytes i (Some m))

-- what the name has in the item that isn't among those that are known besides
abbrev pub own_width : Item → (name : List ℕ) → Width
own_width i name =
    if is_address_name name || is_action_name i name then width.Number
    else if is_table_operand i name then told (table_bytes i name i.names)
    else if is_bare i name && is_field (kind_of i name) then field_width i (find (attaches_registers i name) i.names)
    else told (stored_bytes i name)

abbrev pub is_of : List Token → (name : List ℕ) → NamedWidth → Bool
is_of ts name n = has_here ts n.index name

abbrev pub width_or : Option NamedWidth → Width → Width
width_or None own = own
width_or (Some n) own = n.width

-- the width of a name
abbrev pub named : Scope → (name : List ℕ) → Width
named s name = width_or (find (is_of s.item.tokens name) s.known) (own_width s.item name)
