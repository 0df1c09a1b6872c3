-- meaning: what is wrong with a word of a definition: rules 1 to 6 and 9 to 15.
use Rattle.std.specs.Prelude.{ℕ, ◌+◌, ◌*◌, ◌-◌, ◌^◌, ◌%◌, ◌==◌, ◌&&◌, ◌||◌, List, [], ◌∷◌, codes, drop, find, length, filter, min, nat_lt}
use Rattle.std.specs.Prelude.{Bool, true, false, not, Option, Some, None, if◌then◌else◌, slice_get}
use Rattle.std.specs.List.{list_any}
use Rattle.std.specs.Str.{bytes_eq}
use Rattle.sl_explain_names.specs.Items.{Item, is_begin, is_context_role, is_defining, is_field, is_named, is_register, is_space}
use Rattle.sl_explain_names.specs.Items.{is_word_in, kind_of, name_at}
use Rattle.sl_explain_names.specs.Names.{begins_field, is_attached, is_definition, is_known, is_reserved, is_table_role, kind_by}
use Rattle.sl_explain_names.specs.Patterns.{found}
use Rattle.sl_explain_names.specs.Sections.{range_finding}
use Rattle.sl_explain_names.specs.TokenKinds.{has_after, has_before, has_here, has_kind, is_integer, is_text, number_after, text_after}
use Rattle.sl_explain_names.specs.declared.findings.Finding.{Finding}
use Rattle.sl_explain_names.specs.declared.findings.Finding.TheVariants as finding
use Rattle.sl_explain_names.specs.declared.names.Kind.TheVariants as kind
use Rattle.sl_explain_names.specs.declared.names.Mention.{Mention}
use Rattle.sl_explain_names.specs.declared.names.Role.{Role}
use Rattle.sl_explain_names.specs.declared.names.Role.TheVariants as role
use Rattle.sl_explain_names.specs.declared.places.Place.{Place}
use Rattle.sl_lex.specs.Reading.{Token}

-- a word of a definition
abbrev pub is_in : Item → Place → (word : List ℕ) → Bool
is_in i p word = is_defining p.part && is_named i word p

-- a word of a definition that stands so many behind this one
abbrev pub is_after : Item → Place → (back : ℕ) → (word : List ℕ) → Bool
is_after i p back word = is_defining p.part && has_before i.tokens p.index back word

-- the number that a place has
abbrev pub number_at : Item → Place → ℕ
number_at i p = number_after i.tokens p.index 0

-- ---- 1

abbrev pub begins_text : Item → Bool
begins_text i = has_here i.tokens i.start (codes "define") && has_after i.tokens i.start 1 (codes "endian")

-- `define endian` is the first item, and no later one
abbrev pub order_finding : Item → Place → Option Finding
order_finding i p =
    if begins_text i then found (is_in i p (codes "endian") && (is_after i p 1 (codes "define") && nat_lt 0 i.start)) finding.SecondEndian
    else found (p.index == i.start) finding.FirstItem

-- ---- 2

abbrev pub is_alignment_role : Role → Bool
is_alignment_role role.Alignment = true
is_alignment_role _ = false

abbrev pub aligns_before : Place → Mention → Bool
aligns_before p m = is_alignment_role m.role && nat_lt m.index p.index

abbrev pub is_aligned_before : Item → Place → Bool
is_aligned_before i p = list_any (aligns_before p) i.names

-- `alignment` comes at most once, and is 1 to 16 bytes
abbrev pub alignment_finding : Item → Place → Option Finding
alignment_finding i p =
    if is_after i p 2 (codes "alignment") then range_finding 1 16 (number_at i p)
    else found (is_in i p (codes "alignment") && is_aligned_before i p) finding.SecondAlignment

-- ---- 3

-- the first definition of a name before an index
abbrev pub defines_before : List Token → (index : ℕ) → (name : List ℕ) → Mention → Bool
defines_before ts index name m = is_definition m.role && (has_here ts m.index name && nat_lt m.index index)

abbrev pub definition_before : Item → Place → (name : List ℕ) → Option Mention
definition_before i p name = find (defines_before i.tokens p.index name) i.names

-- a place defines its name
abbrev pub defines_here : Place → Mention → Bool
defines_here p m = is_definition m.role && (m.index == p.index)

abbrev pub is_defined_here : Item → Place → Bool
is_defined_here i p = list_any (defines_here p) i.names

abbrev pub clash : (start : ℕ) → Option Mention → Option Finding
clash start None = None
clash start (Some m) = Some (if nat_lt m.index start then finding.Is (kind_by m.role) else finding.Twice)

abbrev pub new_name_finding : Item → Place → (name : List ℕ) → Option Finding
new_name_finding i p name =
    if is_reserved name then Some (finding.Is kind.Reserved) else clash i.start (definition_before i p name)

abbrev pub table_clash : Option Mention → Option Finding
table_clash None = None
table_clash (Some m) = found (not (is_table_role m.role)) (finding.Is (kind_by m.role))

-- a table's name may be that of a table before
abbrev pub new_table_finding : Item → Place → (name : List ℕ) → Option Finding
new_table_finding i p name =
    if bytes_eq name (codes "instruction") then None
    else if is_reserved name then Some (finding.Is kind.Reserved)
    else table_clash (definition_before i p name)

abbrev pub named_finding : Item → Place → (name : List ℕ) → Option Finding
named_finding i p name =
    if not (is_begin p.part) then new_name_finding i p name
    else if is_named i i.table p then new_table_finding i p name
    else None

-- a name that is defined is new in the text, and no reserved one
abbrev pub new_finding : Item → Place → Option Finding
new_finding i p = if is_defined_here i p then named_finding i p (name_at i p) else None

-- ---- 4

abbrev pub has_word : Item → (word : List ℕ) → Bool
has_word i word = list_any (λ p. is_in i p word) i.places

abbrev pub is_in_before : Item → (at : Place) → (word : List ℕ) → Place → Bool
is_in_before i at word p = nat_lt p.index at.index && is_in i p word

abbrev pub has_word_before : Item → (at : Place) → (word : List ℕ) → Bool
has_word_before i at word = list_any (is_in_before i at word) i.places

abbrev pub is_space_type : (name : List ℕ) → Bool
is_space_type name =
    bytes_eq name (codes "ram_space") || (bytes_eq name (codes "rom_space") || bytes_eq name (codes "register_space"))

abbrev pub lacking_finding : Item → Option Finding
lacking_finding i =
    if not (has_word i (codes "type")) then Some finding.NoType
    else found (not (has_word i (codes "size"))) finding.NoSize

abbrev pub is_attribute_again : Item → Place → Bool
is_attribute_again i p =
    (is_in i p (codes "type") && has_word_before i p (codes "type")) || (is_in i p (codes "size") && has_word_before i p (codes "size"))

-- a space has size and type once each: 1 to 8, and one of three words
abbrev pub space_finding : Item → Place → Option Finding
space_finding i p =
    if is_after i p 1 (codes "space") then lacking_finding i
    else if is_after i p 2 (codes "size") then range_finding 1 8 (number_at i p)
    else if is_after i p 2 (codes "type") then found (not (is_space_type (name_at i p))) finding.IsNoType
    else found (is_attribute_again i p) finding.SecondAttribute

-- ---- 5

abbrev pub is_default_role : Role → Bool
is_default_role role.Default = true
is_default_role _ = false

abbrev pub is_default_before : Place → Mention → Bool
is_default_before p m = is_default_role m.role && nat_lt m.index p.index

abbrev pub default_before : Item → Place → Option Mention
default_before i p = find (is_default_before p) i.names

abbrev pub default_by : Option Mention → Option Finding
default_by None = None
default_by (Some m) = Some (finding.DefaultIs m.head)

-- no second space is `default`
abbrev pub default_finding : Item → Place → Option Finding
default_finding i p = if is_in i p (codes "default") then default_by (default_before i p) else None

-- ---- 6

-- registers lie in a space that is defined before, and have 1 to 16 bytes
abbrev pub registers_finding : Item → Place → Option Finding
registers_finding i p =
    if is_after i p 1 (codes "define") then found (not (is_space (kind_of i (name_at i p)))) (finding.Is (kind_of i (name_at i p)))
    else if is_after i p 2 (codes "size") then range_finding 1 16 (number_at i p)
    else None

-- ---- 9

abbrev pub width_finding : (bits : ℕ) → Option Finding
width_finding bits =
    if nat_lt bits 8 then Some (finding.Below 8)
    else if nat_lt 64 bits then Some (finding.Above 64)
    else found (not (bits % 8 == 0)) finding.NoMultiple

-- a token has 8 to 64 bits, a multiple of 8
abbrev pub token_finding : Item → Place → Option Finding
token_finding i p =
    if is_after i p 1 (codes "(") && has_before i.tokens p.index 3 (codes "token") then width_finding (number_at i p) else None

-- ---- 10, 12

abbrev pub is_attribute : (text : List ℕ) → Bool
is_attribute text =
    bytes_eq text (codes "signed") || (bytes_eq text (codes "hex") || (bytes_eq text (codes "dec") || bytes_eq text (codes "noflow")))

-- how often an attribute is among those with which these tokens begin
abbrev pub times_in : (attribute : List ℕ) → List Token → ℕ
times_in attribute [] = 0
times_in attribute (t ∷ ts) =
    if is_attribute t.text then (if bytes_eq t.text attribute then 1 else 0) + times_in attribute ts else 0

-- how often the field at a place has it: behind its name, `=` and its bits in brackets
abbrev pub times : Item → Place → (attribute : List ℕ) → ℕ
times i p attribute = times_in attribute (drop 7 (drop p.index i.tokens))

abbrev pub has : Item → Place → (attribute : List ℕ) → Bool
has i p attribute = nat_lt 0 (times i p attribute)

abbrev pub has_twice : Item → Place → (attribute : List ℕ) → Bool
has_twice i p attribute = nat_lt 1 (times i p attribute)

abbrev pub is_field_here : Item → Place → Bool
is_field_here i p = is_defining p.part && begins_field i.tokens p.index

-- the low bit is at most the high bit, which is below so many
abbrev pub bits_finding : Item → Place → (bits : ℕ) → Option Finding
bits_finding i p bits =
    if nat_lt (number_after i.tokens p.index 5) (number_after i.tokens p.index 3) then Some finding.LowAbove
    else found (not (nat_lt (number_after i.tokens p.index 5) bits)) (finding.HighNotBelow bits)

abbrev pub token_field_finding : Item → Place → Option Finding
token_field_finding i p =
    if has i p (codes "noflow") then Some finding.HasNoflow else bits_finding i p (number_after i.tokens i.start 4)

-- a field's bits are among its token's; a field of a token has no `noflow`
abbrev pub field_finding : Item → Place → Option Finding
field_finding i p = if is_field_here i p then token_field_finding i p else None

abbrev pub is_attribute_twice : Item → Place → Bool
is_attribute_twice i p =
    has_twice i p (codes "signed") || (has_twice i p (codes "hex") || (has_twice i p (codes "dec") || has_twice i p (codes "noflow")))

abbrev pub field_attributes_finding : Item → Place → Option Finding
field_attributes_finding i p =
    if has i p (codes "hex") && has i p (codes "dec") then Some finding.HexAndDec
    else found (is_attribute_twice i p) finding.AttributeTwice

-- no field has both `hex` and `dec`, nor an attribute twice
abbrev pub attributes_finding : Item → Place → Option Finding
attributes_finding i p = if is_field_here i p then field_attributes_finding i p else None

-- ---- 11

abbrev pub size_at : List Token → Option Mention → ℕ
size_at ts None = 0
size_at ts (Some m) = number_after ts m.head 7

-- the size in bytes of the register of this name
abbrev pub size_of : Item → (name : List ℕ) → ℕ
size_of i name = size_at i.tokens (find (is_known i.tokens i.start name) i.names)

abbrev pub is_context_before : Place → Mention → Bool
is_context_before p m = is_context_role m.role && nat_lt m.index p.index

abbrev pub has_context_before : Item → Place → Bool
has_context_before i p = list_any (is_context_before p) i.names

abbrev pub context_register_finding : Item → (name : List ℕ) → Option Finding
context_register_finding i name =
    if is_register (kind_of i name) then found (nat_lt 8 (size_of i name)) (finding.SizeIs (size_of i name))
    else Some (finding.Is (kind_of i name))

-- the bits of the register that the definition of the context names, 64 at most
abbrev pub context_bits : Item → ℕ
context_bits i = 8 * min (size_of i (text_after i.tokens i.start 2)) 8

-- one `define context` at most, of a register defined before, with at most 8 bytes; high bits are below its bits
abbrev pub context_finding : Item → Place → Option Finding
context_finding i p =
    if is_in i p (codes "context") then found (has_context_before i p) finding.SecondContext
    else if is_after i p 1 (codes "context") then context_register_finding i (name_at i p)
    else if is_field_here i p then bits_finding i p (context_bits i)
    else None

-- ---- 13

abbrev pub is_attached_role : Role → Bool
is_attached_role role.Attached = true
is_attached_role role.AttachedToRegisters = true
is_attached_role _ = false

abbrev pub attaches_before : List Token → (index : ℕ) → (name : List ℕ) → Mention → Bool
attaches_before ts index name m = is_attached_role m.role && (has_here ts m.index name && nat_lt m.index index)

-- the first token before a place by which something is attached to the name
abbrev pub attached_before : Item → Place → (name : List ℕ) → Option Mention
attached_before i p name = find (attaches_before i.tokens p.index name) i.names

abbrev pub attached_by : (start : ℕ) → Option Mention → Option Finding
attached_by start None = None
attached_by start (Some m) = Some (if nat_lt m.index start then finding.AttachedBefore else finding.Twice)

abbrev pub is_attached_here : Item → Place → Bool
is_attached_here i p = is_defining p.part && is_attached i.tokens i.start p.index

abbrev pub attached_name_finding : Item → Place → (name : List ℕ) → Option Finding
attached_name_finding i p name =
    if is_field (kind_of i name) then attached_by i.start (attached_before i p name)
    else Some (finding.Is (kind_of i name))

-- each attached field is defined before, and attached once
abbrev pub attached_finding : Item → Place → Option Finding
attached_finding i p = if is_attached_here i p then attached_name_finding i p (name_at i p) else None

-- ---- 14, 15

-- a member of the list that is attached, and a word among them that isn't `_`
abbrev pub is_member_word : Item → Place → Bool
is_member_word i p =
    is_defining p.part && (is_word_in i p && (not (has_before i.tokens p.index 1 (codes "attach")) && not (is_attached i.tokens i.start p.index)))

abbrev pub is_member_integer : Item → Place → Bool
is_member_integer i p = is_defining p.part && has_kind is_integer (slice_get i.tokens p.index)

abbrev pub is_member_text : Item → Place → Bool
is_member_text i p = is_defining p.part && has_kind is_text (slice_get i.tokens p.index)

abbrev pub is_member : Item → Place → Bool
is_member i p = is_member_word i p || (is_member_integer i p || is_member_text i p)

abbrev pub is_register_member : Item → Place → Bool
is_register_member i p = is_member_word i p && is_register (kind_of i (name_at i p))

-- the first register of the list
abbrev pub first_register : Item → Option Place
first_register i = find (is_register_member i) i.places

abbrev pub size_differs : Item → (name : List ℕ) → Option Place → Option Finding
size_differs i name None = None
size_differs i name (Some q) =
    found (not (size_of i name == size_of i (name_at i q)))
    (finding.SizesDiffer (size_of i name) q.index (size_of i (name_at i q)))

abbrev pub register_finding : Item → (name : List ℕ) → Option Finding
register_finding i name =
    if bytes_eq name (codes "_") then None
    else if is_register (kind_of i name) then size_differs i name (first_register i)
    else Some (finding.Is (kind_of i name))

abbrev pub other_member_finding : Item → Place → Option Finding
other_member_finding i p =
    if is_member_integer i p then Some finding.IsInteger else found (is_member_text i p) finding.IsText

-- a member other than `_`
abbrev pub is_given : Item → Place → Bool
is_given i p = is_member i p && not (is_named i (codes "_") p)

abbrev pub has_given : Item → Bool
has_given i = list_any (is_given i) i.places

-- members of `variables` are registers of one size or `_`, and at least one is a register
abbrev pub variables_finding : Item → Place → Option Finding
variables_finding i p =
    if is_in i p (codes "variables") then found (not (has_given i)) finding.NoRegister
    else if is_member_word i p then register_finding i (name_at i p)
    else other_member_finding i p

-- members of `values` are integers from -2^63 to 2^63 - 1 or `_`
abbrev pub most_value : Item → Place → ℕ
most_value i p = if has_before i.tokens p.index 1 (codes "-") then 2 ^ 63 else 2 ^ 63 - 1

abbrev pub values_finding : Item → Place → Option Finding
values_finding i p =
    if is_member_word i p then found (not (is_named i (codes "_") p)) finding.IsWord
    else if is_member_text i p then Some finding.IsText
    else found (is_member_integer i p && nat_lt (most_value i p) (number_at i p)) finding.PastValues

abbrev pub attaches : Item → (word : List ℕ) → Bool
attaches i word = has_after i.tokens i.start 1 word

-- members of `names` are texts or words
abbrev pub members_finding : Item → Place → Option Finding
members_finding i p =
    if attaches i (codes "variables") then variables_finding i p
    else if attaches i (codes "values") then values_finding i p
    else found (is_member_integer i p) finding.IsInteger

abbrev pub count_members : Item → ℕ
count_members i = length (filter (is_member i) i.places)

abbrev pub width_at : List Token → Option Mention → ℕ
width_at ts None = 63
width_at ts (Some m) = number_after ts m.index 5 - number_after ts m.index 3

-- the width in bits of the field of this name, less 1
abbrev pub width_of : Item → (name : List ℕ) → ℕ
width_of i name = width_at i.tokens (find (is_known i.tokens i.start name) i.names)

-- more members than values
abbrev pub many_finding : (members width : ℕ) → Option Finding
many_finding members width =
    if nat_lt width 32 then found (nat_lt (2 * 2 ^ width) members) (finding.ManyMembers members (2 * 2 ^ width)) else None

-- a list has 1 to 2^width members, the skipped ones counted, for the width of each of its fields
abbrev pub count_finding : Item → Place → Option Finding
count_finding i p =
    if not (is_attached_here i p) then None
    else if count_members i == 0 then Some finding.NoMembers
    else many_finding (count_members i) (width_of i (name_at i p))
