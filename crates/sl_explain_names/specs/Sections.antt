-- meaning: what is wrong with a word of a section or of a macro: rules 26 to 31.
use Rattle.std.specs.Prelude.{ℕ, ◌+◌, ◌-◌, ◌==◌, ◌&&◌, ◌||◌, List, [], ◌∷◌, codes, drop, find, nat_lt}
use Rattle.std.specs.Prelude.{Bool, true, false, not, Option, Some, None, if◌then◌else◌, slice_get}
use Rattle.std.specs.List.{list_any}
use Rattle.std.specs.Str.{bytes_eq}
use Rattle.sl_explain_names.specs.Items.{Item, begins_statement, is_action_name, is_address_name, is_assigned, is_bare}
use Rattle.sl_explain_names.specs.Items.{is_context_register, is_declared, is_field, is_local_before, is_macro, is_named, is_operation}
use Rattle.sl_explain_names.specs.Items.{has_parameter_name, is_parameter, is_parameter_place, is_register, is_section, is_space, is_table, is_word_in}
use Rattle.sl_explain_names.specs.Items.{kind_of, name_at, stands_for}
use Rattle.sl_explain_names.specs.Names.{count_up_to, is_known}
use Rattle.sl_explain_names.specs.Patterns.{found, is_global}
use Rattle.sl_explain_names.specs.TokenKinds.{has_after, has_before, has_here, has_kind, is_integer, number_after}
use Rattle.sl_explain_names.specs.declared.findings.Finding.{Finding}
use Rattle.sl_explain_names.specs.declared.findings.Finding.TheVariants as finding
use Rattle.sl_explain_names.specs.declared.names.Kind.{Kind}
use Rattle.sl_explain_names.specs.declared.names.Kind.TheVariants as kind
use Rattle.sl_explain_names.specs.declared.names.Mention.{Mention}
use Rattle.sl_explain_names.specs.declared.names.Role.{Role}
use Rattle.sl_explain_names.specs.declared.names.Role.TheVariants as role
use Rattle.sl_explain_names.specs.declared.places.Place.{Place}
use Rattle.sl_lex.specs.Reading.{Token}

-- ---- words of sections

abbrev pub is_keyword : (name : List ℕ) → Bool
is_keyword name =
    bytes_eq name (codes "local") || (bytes_eq name (codes "goto") || (bytes_eq name (codes "if") || (bytes_eq name (codes "call")
    || (bytes_eq name (codes "return") || (bytes_eq name (codes "build") || bytes_eq name (codes "export"))))))

-- a word of a section that is no keyword
abbrev pub is_name : Item → Place → Bool
is_name i p = is_section p.part && (is_word_in i p && not (is_keyword (name_at i p)))

-- the name of a label, where it stands or where a jump names it
abbrev pub is_label : Item → Place → Bool
is_label i p = is_name i p && (has_before i.tokens p.index 1 (codes "<") && has_after i.tokens p.index 1 (codes ">"))

abbrev pub is_placed_label : Item → Place → Bool
is_placed_label i p = is_label i p && not (has_before i.tokens p.index 2 (codes "goto"))

-- the name of a call, or of a value of which bytes are dropped
abbrev pub is_called : Item → Place → Bool
is_called i p = is_name i p && has_after i.tokens p.index 1 (codes "(")

-- bytes of a value are dropped: one integer in the brackets
abbrev pub drops_bytes : Item → Place → (name : List ℕ) → Bool
drops_bytes i p name =
    has_kind is_integer (slice_get (drop p.index i.tokens) 2) && (has_after i.tokens p.index 3 (codes ")") && stands_for i p name)

-- the space of a star form
abbrev pub is_space_name : Item → Place → Bool
is_space_name i p = is_name i p && (has_before i.tokens p.index 1 (codes "[") && has_before i.tokens p.index 2 (codes "*"))

-- one on the left of an assignment
abbrev pub is_assigned_space : Item → Place → Bool
is_assigned_space i p =
    is_space_name i p && (has_before i.tokens p.index 3 (codes ";") || (has_before i.tokens p.index 3 (codes "{")
    || (has_before i.tokens p.index 3 (codes ">") && has_before i.tokens p.index 5 (codes "<"))))

abbrev pub is_exported_space : Item → Place → Bool
is_exported_space i p = is_space_name i p && has_before i.tokens p.index 3 (codes "export")

abbrev pub is_read_space : Item → Place → Bool
is_read_space i p = is_space_name i p && (not (is_assigned_space i p) && not (is_exported_space i p))

-- a name that is to stand for something
abbrev pub is_value_name : Item → Place → Bool
is_value_name i p =
    is_name i p && (not (is_label i p) && (not (is_called i p) && (not (is_space_name i p)
    && (not (is_declared i p) && not (is_assigned i p)))))

-- ---- 26

-- the parameters of a macro differ
abbrev pub has_parameter_before : Item → (at : Place) → (name : List ℕ) → Place → Bool
has_parameter_before i at name p = nat_lt p.index at.index && has_parameter_name i name p

abbrev pub is_parameter_before : Item → (at : Place) → (name : List ℕ) → Bool
is_parameter_before i at name = list_any (has_parameter_before i at name) i.places

abbrev pub parameter_finding : Item → Place → Option Finding
parameter_finding i p = found (is_parameter_place i p && is_parameter_before i p (name_at i p)) finding.ParameterTwice

-- a written size is at least 1, and a count of bits is 1 to 128
abbrev pub is_size : Item → Place → Bool
is_size i p = is_section p.part && (has_kind is_integer (slice_get i.tokens p.index) && has_before i.tokens p.index 1 (codes ":"))

abbrev pub is_count : Item → Place → Bool
is_count i p =
    is_section p.part && (has_kind is_integer (slice_get i.tokens p.index) && (has_before i.tokens p.index 1 (codes ",")
    && (has_before i.tokens p.index 3 (codes "[") && has_after i.tokens p.index 1 (codes "]"))))

-- a number of this range
abbrev pub range_finding : (least most : ℕ) → (number : ℕ) → Option Finding
range_finding least most number =
    if nat_lt number least then Some (finding.Below least) else found (nat_lt most number) (finding.Above most)

abbrev pub most_counted : ℕ
most_counted = 128

abbrev pub size_finding : Item → Place → Option Finding
size_finding i p =
    if is_size i p then found (number_after i.tokens p.index 0 == 0) (finding.Below 1)
    else if is_count i p then range_finding 1 most_counted (number_after i.tokens p.index 0)
    else None

-- a local is no operand, no parameter and no global name, and is declared once
abbrev pub declared_finding : Item → Place → (name : List ℕ) → Option Finding
declared_finding i p name =
    if is_global i name then Some (finding.LocalIs (kind_of i name))
    else if is_parameter i name then Some finding.LocalIsParameter
    else if is_action_name i name then Some finding.LocalIsOperand
    else found (is_local_before i p name) finding.DeclaredTwice

-- a name that is assigned stands for something other than the context's register, or is a new local
abbrev pub assigned_finding : Item → Place → (name : List ℕ) → Option Finding
assigned_finding i p name =
    if stands_for i p name then found (is_context_register i name) (finding.Is kind.ContextRegister)
    else found (is_global i name) (finding.LocalIs (kind_of i name))

abbrev pub missing_finding : Kind → Finding
missing_finding k = if is_field k || is_table k then finding.NoOperand k else finding.Is k

-- any other name stands for something other than the context's register
abbrev pub value_finding : Item → Place → (name : List ℕ) → Option Finding
value_finding i p name =
    if stands_for i p name then found (is_context_register i name) (finding.Is kind.ContextRegister)
    else Some (missing_finding (kind_of i name))

abbrev pub drops_context : Item → Place → (name : List ℕ) → Bool
drops_context i p name = is_called i p && (drops_bytes i p name && is_context_register i name)

abbrev pub name_finding : Item → Place → (name : List ℕ) → Option Finding
name_finding i p name =
    if is_declared i p then declared_finding i p name
    else if is_assigned i p then assigned_finding i p name
    else if is_read_space i p then found (not (is_space (kind_of i name))) finding.NoSpace
    else if is_value_name i p then value_finding i p name
    else found (drops_context i p name) (finding.Is kind.ContextRegister)

abbrev pub section_finding : Item → Place → Option Finding
section_finding i p = name_finding i p (name_at i p)

-- ---- 27

abbrev pub is_register_role : Role → Bool
is_register_role role.AttachedToRegisters = true
is_register_role _ = false

-- registers are attached to the field somewhere in the text
abbrev pub attaches_registers : Item → (name : List ℕ) → Mention → Bool
attaches_registers i name m = is_register_role m.role && has_here i.tokens m.index name

abbrev pub has_registers : Item → (name : List ℕ) → Bool
has_registers i name = list_any (attaches_registers i name) i.names

-- a field by itself that has no registers
abbrev pub is_plain_field : Item → (name : List ℕ) → Bool
is_plain_field i name = is_bare i name && (is_field (kind_of i name) && not (has_registers i name))

-- the name stands for a number
abbrev pub is_number : Item → (name : List ℕ) → Bool
is_number i name = is_address_name name || (is_action_name i name || is_plain_field i name)

-- a name whose bits a statement assigns
abbrev pub is_assigned_bits : Item → Place → Bool
is_assigned_bits i p = is_name i p && (begins_statement i p && has_after i.tokens p.index 1 (codes "["))

-- no number is assigned, and nothing outside of defined spaces
abbrev pub left_finding : Item → Place → Option Finding
left_finding i p =
    if is_assigned i p || is_assigned_bits i p then found (is_number i (name_at i p)) finding.Number
    else if is_assigned_space i p then found (not (is_space (kind_of i (name_at i p)))) finding.NoSpace
    else None

-- ---- 28

abbrev pub places_label : Item → (name : List ℕ) → Place → Bool
places_label i name p = is_placed_label i p && is_named i name p

abbrev pub is_placed : Item → (name : List ℕ) → Bool
is_placed i name = list_any (places_label i name) i.places

abbrev pub places_label_before : Item → (at : Place) → (name : List ℕ) → Place → Bool
places_label_before i at name p = nat_lt p.index at.index && places_label i name p

abbrev pub is_placed_before : Item → (at : Place) → (name : List ℕ) → Bool
is_placed_before i at name = list_any (places_label_before i at name) i.places

-- each label stands once in its section or macro, and each that is used stands there
abbrev pub label_finding : Item → Place → Option Finding
label_finding i p =
    if is_placed_label i p then found (is_placed_before i p (name_at i p)) finding.LabelTwice
    else if is_label i p then found (not (is_placed i (name_at i p))) finding.NoLabel
    else None

-- ---- 29

abbrev pub is_built : Item → Place → Bool
is_built i p = is_name i p && has_before i.tokens p.index 1 (codes "build")

abbrev pub builds_before : Item → (at : Place) → (name : List ℕ) → Place → Bool
builds_before i at name p = nat_lt p.index at.index && (is_built i p && is_named i name p)

abbrev pub is_built_before : Item → (at : Place) → (name : List ℕ) → Bool
is_built_before i at name = list_any (builds_before i at name) i.places

abbrev pub built_finding : Item → Place → Option Finding
built_finding i p = found (is_built i p && is_built_before i p (name_at i p)) finding.BuiltTwice

abbrev pub number_or_kind : Item → (name : List ℕ) → Finding
number_or_kind i name = if is_number i name then finding.Number else finding.Is (kind_of i name)

-- the name is that of an operand that is a table
abbrev pub is_table_operand : Item → (name : List ℕ) → Bool
is_table_operand i name = is_bare i name && is_table (kind_of i name)

abbrev pub build_finding : Item → Place → Option Finding
build_finding i p = found (is_built i p && not (is_table_operand i (name_at i p))) (number_or_kind i (name_at i p))

-- ---- 30

abbrev pub is_export : Item → Place → Bool
is_export i p = is_section p.part && is_named i (codes "export") p

-- the section ends behind the statement of this place
abbrev pub is_last : Item → Place → Bool
is_last i p = has_after (drop p.index i.tokens) (count_up_to i.tokens p.index (codes ";")) 1 (codes "}")

abbrev pub last_finding : Item → Place → Option Finding
last_finding i p = found (is_export i p && not (is_last i p)) finding.StatementAfter

abbrev pub is_of_root : (table : List ℕ) → Bool
is_of_root table = bytes_eq table (codes "") || bytes_eq table (codes "instruction")

abbrev pub root_finding : Item → Place → Option Finding
root_finding i p = found (is_export i p && is_of_root i.table) finding.OfRoot

-- what may be handed on by itself: a local, a register, a field with registers, a table
abbrev pub is_handed_on : Item → Place → (name : List ℕ) → Bool
is_handed_on i p name =
    is_register (kind_of i name) || (is_local_before i p name || (is_table_operand i name
    || (is_bare i name && has_registers i name)))

abbrev pub is_exported : Item → Place → Bool
is_exported i p = is_name i p && has_before i.tokens p.index 1 (codes "export")

abbrev pub export_finding : Item → Place → Option Finding
export_finding i p = found (is_exported i p && not (is_handed_on i p (name_at i p))) (number_or_kind i (name_at i p))

-- the mark of a star form that is exported
abbrev pub is_exported_star : Item → Place → Bool
is_exported_star i p = is_section p.part && (is_named i (codes "*") p && has_before i.tokens p.index 1 (codes "export"))

-- a size is written, behind the mark or behind its space
abbrev pub has_size : Item → Place → Bool
has_size i p = has_after i.tokens p.index 1 (codes ":") || has_after i.tokens p.index 4 (codes ":")

-- the pointer of a star form that is exported, without a space and with one
abbrev pub is_pointer : Item → Place → Bool
is_pointer i p = is_name i p && (has_before i.tokens p.index 3 (codes "*") && has_before i.tokens p.index 4 (codes "export"))

abbrev pub is_space_pointer : Item → Place → Bool
is_space_pointer i p = is_name i p && (has_before i.tokens p.index 6 (codes "*") && has_before i.tokens p.index 7 (codes "export"))

-- what may be a place's pointer: what may be handed on by itself, and a number
abbrev pub points : Item → Place → (name : List ℕ) → Bool
points i p name = is_handed_on i p name || is_number i name

abbrev pub pointer_finding : Item → Place → (name : List ℕ) → Option Finding
pointer_finding i p name = found (not (points i p name)) (finding.Is (kind_of i name))

abbrev pub space_pointer_finding : Item → Place → (name : List ℕ) → Option Finding
space_pointer_finding i p name =
    if has_before i.tokens p.index 4 (codes "const") then found (not (is_number i name)) finding.NoNumber
    else pointer_finding i p name

abbrev pub is_exported_from : (name : List ℕ) → Kind → Bool
is_exported_from name k = bytes_eq name (codes "const") || is_space k

abbrev pub handed_finding : Item → Place → (name : List ℕ) → Option Finding
handed_finding i p name =
    if is_exported_star i p then found (not (has_size i p)) finding.NoWrittenSize
    else if is_exported_space i p then found (not (is_exported_from name (kind_of i name))) finding.NoSpace
    else if is_space_pointer i p then space_pointer_finding i p name
    else if is_pointer i p then pointer_finding i p name
    else None

-- a star form that is exported has a written size; it is a number as `*[const]:n`, or a place in a defined space
abbrev pub star_finding : Item → Place → Option Finding
star_finding i p = handed_finding i p (name_at i p)

-- ---- 31

-- `build` and `export` in a macro
abbrev pub is_in_macro : Item → Place → Bool
is_in_macro i p = is_section p.part && has_here i.tokens i.start (codes "macro")

abbrev pub macro_finding : Item → Place → Option Finding
macro_finding i p = found (is_in_macro i p && (is_named i (codes "build") p || is_named i (codes "export") p)) finding.InMacro

abbrev pub is_opening : (text : List ℕ) → Bool
is_opening text = bytes_eq text (codes "(") || bytes_eq text (codes "[")

abbrev pub is_closing : (text : List ℕ) → Bool
is_closing text = bytes_eq text (codes ")") || bytes_eq text (codes "]")

-- the commas from here up to the bracket that closes so many, those within further brackets left out
abbrev pub commas : (depth : ℕ) → List Token → ℕ
commas depth [] = 0
commas depth (t ∷ ts) =
    if is_opening t.text then commas (depth + 1) ts
    else if is_closing t.text then (if depth == 0 then 0 else commas (depth - 1) ts)
    else if bytes_eq t.text (codes ",") && depth == 0 then 1 + commas depth ts
    else commas depth ts

-- how many of the brackets that open in these tokens are open behind them
abbrev pub depths : (depth : ℕ) → List Token → ℕ
depths depth [] = depth
depths depth (t ∷ ts) =
    if is_opening t.text then depths (depth + 1) ts
    else if is_closing t.text then depths (depth - 1) ts
    else depths depth ts

-- how many arguments or parameters stand behind the name of this index
abbrev pub arguments : List Token → (index : ℕ) → ℕ
arguments ts index = if has_after ts index 2 (codes ")") then 0 else 1 + commas 0 (drop 2 (drop index ts))

abbrev pub counted_finding : (given taken : ℕ) → Option Finding
counted_finding given taken = found (not (given == taken)) (finding.Arguments given taken)

abbrev pub parameters_of : List Token → Option Mention → ℕ
parameters_of ts None = 0
parameters_of ts (Some m) = arguments ts m.index

-- the parameters of the macro of this name
abbrev pub macro_parameters : Item → (name : List ℕ) → ℕ
macro_parameters i name = parameters_of i.tokens (find (is_known i.tokens i.start name) i.names)

-- a call that is a statement names an earlier macro with as many arguments, or a user operation
abbrev pub statement_finding : Item → Place → (name : List ℕ) → Option Finding
statement_finding i p name =
    if is_macro (kind_of i name) then counted_finding (arguments i.tokens p.index) (macro_parameters i name)
    else found (not (is_operation (kind_of i name))) (finding.Is (kind_of i name))

abbrev pub is_unary : (name : List ℕ) → Bool
is_unary name =
    bytes_eq name (codes "zext") || (bytes_eq name (codes "sext") || (bytes_eq name (codes "popcount") || bytes_eq name (codes "lzcount")))

abbrev pub is_binary : (name : List ℕ) → Bool
is_binary name = bytes_eq name (codes "carry") || (bytes_eq name (codes "scarry") || bytes_eq name (codes "sborrow"))

abbrev pub function_finding : Item → Place → (name : List ℕ) → Option Finding
function_finding i p name =
    if is_unary name then counted_finding (arguments i.tokens p.index) 1
    else if is_binary name then counted_finding (arguments i.tokens p.index) 2
    else Some (finding.Is (kind_of i name))

-- any other call names a user operation, or a function with as many arguments as it takes
abbrev pub expression_finding : Item → Place → (name : List ℕ) → Option Finding
expression_finding i p name =
    if is_operation (kind_of i name) || drops_bytes i p name then None else function_finding i p name

abbrev pub call_finding : Item → Place → Option Finding
call_finding i p =
    if not (is_called i p) then None
    else if begins_statement i p then statement_finding i p (name_at i p)
    else expression_finding i p (name_at i p)
