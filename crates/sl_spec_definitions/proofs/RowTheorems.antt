-- The rules on small definitions, at each limit and one past it.
use Rattle.std.proofs.Common.{◌≡◌, ℕ, true, false, List, [], ◌∷◌, map, Option, Some, None, Ok, Err, refl}
use Rattle.std.specs.Prelude.{codes, pos, negsuc}
use Rattle.sl_ast.specs.Symbols.{keyword_of, word_of}
use Rattle.sl_ast.specs.Trees as tree
use Rattle.sl_ast.specs.Trees.{SpaceAttribute, of_type, of_size, of_word_size, is_default}
use Rattle.sl_ast.specs.declared.definitions.AttachKind.{AttachKind}
use Rattle.sl_ast.specs.declared.definitions.AttachKind.TheVariants.{Variables, Names, Values}
use Rattle.sl_ast.specs.declared.definitions.ByteOrder.TheVariants.{Big}
use Rattle.sl_ast.specs.declared.definitions.FieldAttribute.{FieldAttribute}
use Rattle.sl_ast.specs.declared.definitions.FieldAttribute.TheVariants as attribute
use Rattle.sl_spec_rules.specs.Names.{Name, are_distinct}
use Rattle.sl_spec.specs.Tables.{Entries, Register, Space, registers, texts, values}
use Rattle.sl_spec.specs.declared.definitions.SpaceKind.TheVariants.{Ram}
use Rattle.sl_spec.specs.declared.tables.Tables.{Tables}
use Rattle.sl_spec_registers.specs.RegisterRules.{ends_within, given_names, laid, lies_in}
use Rattle.sl_spec_registers.specs.SpaceRules.{has_size_and_type}
use Rattle.sl_spec_definitions.specs.AttachRules.{are_members, attach_step, attachment, given_entries, is_length, with_attached}
use Rattle.sl_spec_definitions.specs.Beginning.{alignment_step, begin, no_tables, opening, with_alignment, with_endian}
use Rattle.sl_spec_definitions.specs.FieldRules.{field_of, has_attributes_once, holds_fields, is_in_order, is_token_field, is_width}
use Rattle.sl_spec_definitions.specs.Items.{definition_step}
use Rattle.sl_spec_definitions.specs.Words.{word_bytes}
use Rattle.sl_spec_definitions.specs.declared.known.Known.{Known}

abbrev ram : SpaceAttribute
ram = of_type (codes "ram_space")

-- ---- rule 4

size_1 : has_size_and_type (ram ∷ of_size 1 ∷ []) ≡ true
unfolding has_size_and_type
size_1 = refl

size_8 : has_size_and_type (of_word_size 1 ∷ of_size 8 ∷ of_type (codes "rom_space") ∷ is_default ∷ is_default ∷ []) ≡ true
unfolding has_size_and_type
size_8 = refl

size_0 : has_size_and_type (ram ∷ of_size 0 ∷ []) ≡ false
unfolding has_size_and_type
size_0 = refl

size_9 : has_size_and_type (ram ∷ of_size 9 ∷ []) ≡ false
unfolding has_size_and_type
size_9 = refl

size_twice : has_size_and_type (of_size 2 ∷ ram ∷ of_size 2 ∷ []) ≡ false
unfolding has_size_and_type
size_twice = refl

no_attribute : has_size_and_type [] ≡ false
unfolding has_size_and_type
no_attribute = refl

another_type : has_size_and_type (of_type (codes "io_space") ∷ of_size 2 ∷ []) ≡ false
unfolding has_size_and_type
another_type = refl

-- ---- rule 7

abbrev space_of_bytes : ℕ → Option Space
space_of_bytes n = Some (record { name = codes "r"; kind = Ram; size = n; default = false })

last_byte : ends_within (space_of_bytes 2) 65535 1 1 ≡ true
last_byte = refl

past_last_byte : ends_within (space_of_bytes 2) 65535 2 1 ≡ false
past_last_byte = refl

skipped_place_counts : ends_within (space_of_bytes 2) 65535 1 2 ≡ false
skipped_place_counts = refl

last_byte_of_64_bits : ends_within (space_of_bytes 8) 0xfffffffffffffff0 16 1 ≡ true
last_byte_of_64_bits = refl

past_64_bits : ends_within (space_of_bytes 8) 0xfffffffffffffff1 16 1 ≡ false
past_64_bits = refl

abbrev register : Name → ℕ → Register
register name offset = record { name = name; space = 1; offset = offset; size = 2 }

places : laid 1 4 2 (codes "A" ∷ codes "_" ∷ codes "B" ∷ []) ≡ register (codes "A") 4 ∷ register (codes "B") 8 ∷ []
unfolding laid
places = refl

blanks_give_no_name : are_distinct (given_names (codes "_" ∷ codes "A" ∷ codes "_" ∷ [])) ≡ true
blanks_give_no_name = refl

-- ---- rule 8

whole_register : lies_in (Some (register (codes "A") 0)) 0 16 ≡ true
whole_register = refl

past_register : lies_in (Some (register (codes "A") 0)) 1 16 ≡ false
past_register = refl

no_bits : lies_in (Some (register (codes "A") 0)) 0 0 ≡ false
no_bits = refl

-- ---- rules 9 to 12

width_64 : is_width 64 ≡ true
width_64 = refl

width_0 : is_width 0 ≡ false
width_0 = refl

width_12 : is_width 12 ≡ false
width_12 = refl

width_72 : is_width 72 ≡ false
width_72 = refl

abbrev field : ℕ → ℕ → List FieldAttribute → tree.Field
field low high given = record { name = codes "z"; low = low; high = high; attributes = given }

whole_token : is_token_field 8 (field 0 7 []) ≡ true
whole_token = refl

high_at_bits : is_token_field 8 (field 0 8 []) ≡ false
high_at_bits = refl

noflow_in_token : is_token_field 8 (field 0 7 (attribute.NoFlow ∷ [])) ≡ false
noflow_in_token = refl

low_above_high : is_in_order (field 3 2 []) ≡ false
low_above_high = refl

context_bit_63 : holds_fields (Some (record { name = codes "Q"; space = 0; offset = 0; size = 8 })) (field 0 63 [] ∷ []) ≡ true
context_bit_63 = refl

context_bit_64 : holds_fields (Some (record { name = codes "Q"; space = 0; offset = 0; size = 8 })) (field 0 64 [] ∷ []) ≡ false
context_bit_64 = refl

context_of_9_bytes : holds_fields (Some (record { name = codes "Q"; space = 0; offset = 0; size = 9 })) [] ≡ false
context_of_9_bytes = refl

all_attributes : has_attributes_once (field 0 1 (attribute.NoFlow ∷ attribute.Signed ∷ attribute.Dec ∷ [])) ≡ true
all_attributes = refl

dec_and_hex : has_attributes_once (field 0 7 (attribute.Dec ∷ attribute.Signed ∷ attribute.Hex ∷ [])) ≡ false
dec_and_hex = refl

signed_twice : has_attributes_once (field 0 7 (attribute.Signed ∷ attribute.Signed ∷ [])) ≡ false
signed_twice = refl

-- ---- rules 1 and 2

no_endian_first : begin opening false ≡ Err 1
no_endian_first = refl

abbrev begun : Known
begun = record { tables = no_tables; begun = true; alignment_stands = false }

endian_first : definition_step opening (tree.define (tree.endian Big)) ≡ Ok (record { tables = with_endian no_tables Big; begun = true; alignment_stands = false })
unfolding definition_step
endian_first = refl

endian_twice : definition_step begun (tree.define (tree.endian Big)) ≡ Err 1
unfolding definition_step
endian_twice = refl

rule_1_before_2 : definition_step opening (tree.define (tree.alignment 0)) ≡ Err 1
unfolding definition_step
rule_1_before_2 = refl

alignment_16 : alignment_step begun 16 ≡ Ok (with_alignment begun 16)
alignment_16 = refl

alignment_0 : alignment_step begun 0 ≡ Err 2
alignment_0 = refl

alignment_17 : alignment_step begun 17 ≡ Err 2
alignment_17 = refl

alignment_twice : alignment_step (with_alignment begun 4) 4 ≡ Err 2
alignment_twice = refl

-- ---- rules 13 to 15, over the fields x of 2 bits and l of 1, and registers of two sizes

abbrev fields_x_l : Tables
fields_x_l = record no_tables {
  registers = register (codes "A") 0 ∷ register (codes "B") 2 ∷ record { name = codes "Q"; space = 1; offset = 4; size = 1 } ∷ [];
  fields = field_of (Some 0) (record { name = codes "x"; low = 0; high = 1; attributes = [] })
      ∷ field_of (Some 0) (record { name = codes "l"; low = 0; high = 0; attributes = [] }) ∷ [];
}

abbrev refuses : AttachKind → List Name → List tree.Member → ℕ → Type 0
refuses kind names members rule = attach_step fields_x_l kind names members ≡ Err rule

abbrev attaches : AttachKind → List Name → List tree.Member → Entries → Type 0
attaches kind names members given =
    attach_step fields_x_l kind names members ≡ Ok (with_attached fields_x_l (map (attachment fields_x_l.fields given) names))

abbrev w : List ℕ → tree.Member
w bytes = tree.member_word (word_of bytes)

abbrev x : List Name
x = codes "x" ∷ []

unknown_field : refuses Values (codes "A" ∷ []) (tree.member_integer 1 ∷ []) 13
unknown_field = refl

field_twice : refuses Values (codes "x" ∷ codes "l" ∷ codes "x" ∷ []) [] 13
field_twice = refl

two_sizes : refuses Variables x (w (codes "A") ∷ w (codes "_") ∷ w (codes "Q") ∷ []) 14
unfolding word_of keyword_of are_members word_bytes
two_sizes = refl

no_register : refuses Variables x (w (codes "_") ∷ w (codes "_") ∷ []) 14
unfolding word_of keyword_of are_members word_bytes
no_register = refl

no_member : refuses Variables x [] 14
unfolding are_members
no_member = refl

text_as_register : refuses Variables x (w (codes "A") ∷ tree.member_text (codes "\"B\"") ∷ []) 14
unfolding word_of keyword_of are_members word_bytes
text_as_register = refl

integer_as_name : refuses Names x (tree.member_integer 1 ∷ []) 14
unfolding are_members
integer_as_name = refl

past_least : refuses Values x (tree.member_negative 0x8000000000000001 ∷ []) 14
unfolding are_members
past_least = refl

past_greatest : refuses Values x (tree.member_integer 0x8000000000000000 ∷ []) 14
unfolding are_members
past_greatest = refl

rule_14_before_15 : refuses Values x (tree.member_integer 1 ∷ tree.member_integer 1 ∷ tree.member_integer 1 ∷ tree.member_integer 1 ∷ w (codes "A") ∷ []) 14
unfolding word_of keyword_of are_members word_bytes
rule_14_before_15 = refl

no_value : refuses Values x [] 15
unfolding are_members is_length
no_value = refl

too_long_for_one : refuses Values (codes "x" ∷ codes "l" ∷ []) (tree.member_integer 1 ∷ w (codes "_") ∷ tree.member_integer 3 ∷ []) 15
unfolding word_of keyword_of are_members word_bytes is_length
too_long_for_one = refl

variables : attaches Variables x (w (codes "_") ∷ w (codes "B") ∷ w (codes "_") ∷ w (codes "B") ∷ []) (registers (None ∷ Some 1 ∷ None ∷ Some 1 ∷ []))
unfolding word_of keyword_of are_members word_bytes is_length given_entries
variables = refl

names : attaches Names x (w (codes "_") ∷ tree.member_text (codes "\"_\"") ∷ w (codes "define") ∷ tree.member_text (codes "\"\"") ∷ [])
    (texts (None ∷ Some (codes "_") ∷ Some (codes "define") ∷ Some [] ∷ []))
unfolding word_of keyword_of are_members word_bytes is_length given_entries
names = refl

values_of_64_bits : attaches Values (codes "l" ∷ codes "x" ∷ []) (tree.member_negative 0x8000000000000000 ∷ tree.member_integer 0x7fffffffffffffff ∷ [])
    (values (Some (negsuc 0x7fffffffffffffff) ∷ Some (pos 0x7fffffffffffffff) ∷ []))
unfolding are_members is_length given_entries
values_of_64_bits = refl
