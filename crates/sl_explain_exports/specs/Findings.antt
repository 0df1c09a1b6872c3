-- meaning: what is wrong with the exports of tables: rules 38, 39 and 40, as far as the tokens of a text tell.
use Rattle.std.specs.Prelude.{ℕ, ◌+◌, ◌-◌, ◌*◌, ◌^◌, ◌==◌, ◌&&◌, ◌||◌, List, [], ◌∷◌, codes, find, min, nat_lt}
use Rattle.std.specs.Prelude.{Bool, true, false, not, Option, Some, None, if◌then◌else◌, slice_get}
use Rattle.std.specs.Str.{bytes_eq}
use Rattle.sl_explain_exports.specs.Constructors.{Constructor, constructors, export_of, first_exporter, first_silent, full_name, is_body, is_top}
use Rattle.sl_explain_exports.specs.declared.constructors.Export.{Export}
use Rattle.sl_explain_exports.specs.declared.constructors.Export.TheVariants as export
use Rattle.sl_explain_exports.specs.declared.findings.Culprit.{Culprit}
use Rattle.sl_explain_exports.specs.declared.findings.Finding.{Finding}
use Rattle.sl_explain_exports.specs.declared.findings.Finding.TheVariants as finding
use Rattle.sl_explain_heads.specs.Heads.{table_of}
use Rattle.sl_explain_heads.specs.Words.{text_at, text_before}
use Rattle.sl_explain_names.specs.Culprits.{item_at}
use Rattle.sl_explain_names.specs.Definitions.{size_of}
use Rattle.sl_explain_names.specs.Items.{Item, begins_at, is_assigned, is_bit_range, is_register, is_section, kind_of, name_at}
use Rattle.sl_explain_names.specs.Sections.{is_called, is_table_operand, is_value_name}
use Rattle.sl_explain_names.specs.TokenKinds.{has_after, has_before, has_here, has_kind, is_integer, number_after}
use Rattle.sl_explain_names.specs.declared.names.Kind.{Kind}
use Rattle.sl_explain_names.specs.declared.places.Place.{Place}
use Rattle.sl_lex.specs.Modes.{next_mode}
use Rattle.sl_lex.specs.Reading.{Token}
use Rattle.sl_lex.specs.declared.mode.Mode.{Mode}
use Rattle.sl_lex.specs.declared.mode.Mode.TheVariants as mode

abbrev pub or_else : Option Culprit → Option Culprit → Option Culprit
or_else None later = later
or_else (Some c) later = Some c

abbrev pub culprit_at : (start index : ℕ) → Finding → Culprit
culprit_at start index f = record { start = start; index = index; finding = f }

-- ---- 38: all constructors of a table that aren't `unimpl` export, or none does

abbrev pub silent_by : Option Constructor → Option Constructor → Option Culprit
silent_by None exporter = None
silent_by (Some c) None = None
silent_by (Some c) (Some exporter) = Some (culprit_at c.start c.start (finding.Silent exporter.start))

abbrev pub silent_culprit : (table : List ℕ) → List Constructor → Option Culprit
silent_culprit table cs = silent_by (first_silent table cs) (first_exporter table cs)

-- ---- 38: a table that is read, assigned, jumped to or exported has a constructor that exports

-- a name in a section that stands for what a table exports
abbrev pub is_use : Item → Place → Bool
is_use i p =
    (is_value_name i p || (is_called i p || is_assigned i p)) && not (has_before i.tokens p.index 1 (codes "build"))

abbrev pub is_none : Option Constructor → Bool
is_none None = true
is_none (Some c) = false

abbrev pub uses_silent : Item → List Constructor → (name : List ℕ) → Bool
uses_silent i cs name = is_table_operand i name && is_none (first_exporter name cs)

abbrev pub is_used_silent : Item → List Constructor → Place → Bool
is_used_silent i cs p = is_use i p && uses_silent i cs (name_at i p)

-- the first of these places at which such a table is used
abbrev pub used_in : Item → List Constructor → List Place → Option Culprit
used_in i cs [] = None
used_in i cs (p ∷ ps) =
    if is_used_silent i cs p then Some (culprit_at i.start p.index finding.NoExport) else used_in i cs ps

-- ---- 39: a table that is assigned exports no constant

-- a constant is exported from this index on
abbrev pub is_constant : List Token → (index : ℕ) → Bool
is_constant ts index = has_here ts index (codes "*") && (has_after ts index 1 (codes "[") && has_after ts index 2 (codes "const"))

abbrev pub exports_constant : List Token → Export → Bool
exports_constant ts (export.At index) = is_constant ts index
exports_constant ts export.Nothing = false
exports_constant ts export.Unimplemented = false

abbrev pub is_constant_of : List Token → (table : List ℕ) → Constructor → Bool
is_constant_of ts table c = bytes_eq c.table table && exports_constant ts c.exports

-- a statement gives this name a value, or bits of it
abbrev pub assigns : List Token → (table : List ℕ) → (index : ℕ) → (text : List ℕ) → Bool
assigns ts table index text =
    bytes_eq text table && (begins_at ts index && (has_after ts index 1 (codes "=") || has_after ts index 1 (codes "[")))

-- the tokens behind one in this mode are those of a macro
abbrev pub is_macro_after : Mode → (is_macro : Bool) → (text : List ℕ) → Bool
is_macro_after m is_macro text = if is_top m then bytes_eq text (codes "macro") else is_macro

-- a token in this mode does so in a constructor
abbrev pub assigns_in : List Token → (table : List ℕ) → Mode → (is_macro : Bool) → (index : ℕ) → (text : List ℕ) → Bool
assigns_in ts table m is_macro index text = is_body m && (not is_macro && assigns ts table index text)

-- the first one from this index on, where these tokens are left of all
abbrev pub assigner_from : List Token → (table : List ℕ) → Mode → (is_macro : Bool) → (index : ℕ) → List Token → Option ℕ
assigner_from ts table m is_macro index [] = None
assigner_from ts table m is_macro index (t ∷ left) =
    if assigns_in ts table m is_macro index t.text then Some index
    else assigner_from ts table (next_mode m t.text) (is_macro_after m is_macro t.text) (index + 1) left

abbrev pub assigner : List Token → (table : List ℕ) → Option ℕ
assigner ts table = assigner_from ts table mode.Top false 0 ts

abbrev pub assigned_by : Option Constructor → Option ℕ → Option Culprit
assigned_by None assigner = None
assigned_by (Some c) None = None
assigned_by (Some c) (Some index) = Some (culprit_at c.start c.start (finding.AssignedAt index))

abbrev pub assigned_culprit : List Token → (table : List ℕ) → List Constructor → Option Culprit
assigned_culprit ts table cs = assigned_by (find (is_constant_of ts table) cs) (assigner ts table)

-- ---- 39: a jump without brackets goes to no register

abbrev pub is_target : Item → Place → Bool
is_target i p = is_value_name i p && (has_before i.tokens p.index 1 (codes "goto") || has_before i.tokens p.index 1 (codes "call"))

abbrev pub is_storage : Kind → Bool
is_storage k = is_register k || is_bit_range k

abbrev pub jumps_to_storage : Item → Place → Bool
jumps_to_storage i p = is_target i p && is_storage (kind_of i (name_at i p))

abbrev pub target_in : Item → List Place → Option Culprit
target_in i [] = None
target_in i (p ∷ ps) =
    if jumps_to_storage i p then Some (culprit_at i.start p.index (finding.Target (kind_of i (name_at i p)))) else target_in i ps

-- ---- 40: all exports of a table have one size

-- the size that a star form writes behind its mark or behind its space, or 0
abbrev pub star_size : List Token → (index : ℕ) → ℕ
star_size ts index =
    if has_after ts index 1 (codes ":") then number_after ts index 2
    else if has_after ts index 4 (codes ":") then number_after ts index 5
    else 0

abbrev pub named_size : Item → (name : List ℕ) → ℕ
named_size i name = if is_register (kind_of i name) then size_of i name else 0

-- the size of what is exported from this index on, or 0 where the tokens don't tell it
abbrev pub size_at : Item → (index : ℕ) → ℕ
size_at i index =
    if has_here i.tokens index (codes "*") then star_size i.tokens index else named_size i (text_at i.tokens index)

abbrev pub exported_size : Item → Export → ℕ
exported_size i (export.At index) = size_at i index
exported_size i export.Nothing = 0
exported_size i export.Unimplemented = 0

abbrev pub are_apart : (size other : ℕ) → Bool
are_apart size other = not (size == 0) && (not (other == 0) && not (size == other))

abbrev pub sizes_by : Item → (index : ℕ) → Option Constructor → Option Culprit
sizes_by i index None = None
sizes_by i index (Some c) =
    if are_apart (size_at i index) (exported_size i c.exports)
    then Some (culprit_at i.start index (finding.SizesDiffer (size_at i index) c.start (exported_size i c.exports))) else None

abbrev pub sizes_culprit : Item → Export → Option Constructor → Option Culprit
sizes_culprit i (export.At index) first = sizes_by i index first
sizes_culprit i export.Nothing first = None
sizes_culprit i export.Unimplemented first = None

-- ---- 40: what is taken of a register is within it

-- the name so many tokens before a place
abbrev pub name_before : Item → Place → (back : ℕ) → List ℕ
name_before i p back = text_before i.tokens p.index back

-- the number at a place
abbrev pub number_at : Item → Place → ℕ
number_at i p = number_after i.tokens p.index 0

abbrev pub is_integer_in : Item → Place → Bool
is_integer_in i p = is_section p.part && has_kind is_integer (slice_get i.tokens p.index)

-- `x:n`: n is at most the size of x
abbrev pub kept_finding : (size number : ℕ) → Option Finding
kept_finding size number = if not (size == 0) && nat_lt size number then Some (finding.KeptPast size) else None

-- `x(n)`: n is below it
abbrev pub cut_finding : (size number : ℕ) → Option Finding
cut_finding size number = if not (size == 0) && not (nat_lt number size) then Some (finding.CutPast size) else None

-- a register has 16 bytes at most
abbrev pub bits_in : (size : ℕ) → ℕ
bits_in size = 8 * min size 16

abbrev pub end_of : (low count : ℕ) → ℕ
end_of low count = min (low + count) (2 ^ 64 - 1)

-- `x[l,c]`: the last bit is one of x
abbrev pub bits_finding : (size low count : ℕ) → Option Finding
bits_finding size low count =
    if not (size == 0) && nat_lt (bits_in size) (end_of low count) then Some (finding.BitsPast low (end_of low count) (bits_in size)) else None

abbrev pub number_finding : Item → Place → Option Finding
number_finding i p =
    if has_before i.tokens p.index 1 (codes ":") then kept_finding (named_size i (name_before i p 2)) (number_at i p)
    else if has_before i.tokens p.index 1 (codes "(") && has_after i.tokens p.index 1 (codes ")")
    then cut_finding (named_size i (name_before i p 2)) (number_at i p)
    else None

abbrev pub has_bits : Item → Place → Bool
has_bits i p = is_section p.part && (has_after i.tokens p.index 1 (codes "[") && has_after i.tokens p.index 3 (codes ","))

abbrev pub taken_finding : Item → Place → Option Finding
taken_finding i p =
    bits_finding (named_size i (name_at i p)) (number_after i.tokens p.index 2) (number_after i.tokens p.index 4)

abbrev pub part_finding : Item → Place → Option Finding
part_finding i p =
    if is_integer_in i p then number_finding i p
    else if has_bits i p then taken_finding i p
    else None

abbrev pub culprit_by : Item → Place → Option Finding → (later : Option Culprit) → Option Culprit
culprit_by i p None later = later
culprit_by i p (Some f) later = Some (culprit_at i.start p.index f)

-- the first of these places at which more is taken of a register than there is
abbrev pub parts_in : Item → List Place → Option Culprit
parts_in i [] = None
parts_in i (p ∷ ps) = culprit_by i p (part_finding i p) (parts_in i ps)

-- ---- the culprit

abbrev pub culprit_38 : Item → (table : List ℕ) → List Constructor → Option Culprit
culprit_38 i table cs = or_else (silent_culprit table cs) (used_in i cs i.places)

abbrev pub culprit_39 : Item → (table : List ℕ) → List Constructor → Option Culprit
culprit_39 i table cs = or_else (assigned_culprit i.tokens table cs) (target_in i i.places)

abbrev pub culprit_40 : Item → (table : List ℕ) → List Constructor → Option Culprit
culprit_40 i table cs =
    or_else (parts_in i i.places) (sizes_culprit i (export_of i.tokens i.start) (first_exporter table cs))

abbrev pub culprit_of : (rule : ℕ) → Item → (table : List ℕ) → List Constructor → Option Culprit
culprit_of rule i table cs =
    if rule == 38 then culprit_38 i table cs
    else if rule == 39 then culprit_39 i table cs
    else if rule == 40 then culprit_40 i table cs
    else None

-- The constructor and the word that break the rule of this number, where the item whose first token has this index is
-- refused and one can be told.
unfoldable pub export_culprit : List Token → (start rule : ℕ) → Option Culprit
export_culprit ts start rule = culprit_of rule (item_at ts start) (full_name (table_of ts start)) (constructors ts)
