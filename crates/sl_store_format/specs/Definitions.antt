-- meaning: definitions and attached lists as bytes, the conditions on their leaves, and their readers.
use Rattle.std.specs.Prelude.{◌≡◌, ◌≤◌, ℕ, List, [], ◌∷◌, ◌++◌, true}
use Rattle.sl_ast.specs.Symbols.{Word, plain, quoted, word_of}
use Rattle.sl_ast.specs.Trees.{Name, SpaceAttribute, of_type, of_size, of_word_size, is_default, BitRange, Field, Names, one, several, Definition, endian, alignment, space, bit_ranges, pcode_ops, token, context, registers, Member, member_word, member_text, member_integer, member_negative}
use Rattle.sl_ast.specs.Validity.{IfWritten, Each}
use Rattle.sl_ast.specs.declared.definitions.ByteOrder.{ByteOrder}
use Rattle.sl_ast.specs.declared.definitions.FieldAttribute.{FieldAttribute}
use Rattle.sl_store_format.specs.Forms.{attribute_forms, definition_forms, member_forms}
use Rattle.sl_store_format.specs.Keywords.{word_bytes}
use Rattle.sl_store_format.specs.declared.forms.AttributeForm.{AttributeForm}
use Rattle.sl_store_format.specs.declared.forms.AttributeForm.TheVariants as a
use Rattle.sl_store_format.specs.declared.forms.DefinitionForm.{DefinitionForm}
use Rattle.sl_store_format.specs.declared.forms.DefinitionForm.TheVariants as d
use Rattle.sl_store_format.specs.declared.forms.MemberForm.{MemberForm}
use Rattle.sl_store_format.specs.declared.forms.MemberForm.TheVariants as m
use Rattle.sl_store_bytes.specs.Lexemes.{write_bytes}
use Rattle.sl_store_bytes.specs.Lists.{write_list, write_option, option, list_of, either, AreEach}
use Rattle.sl_store_bytes.specs.Numbers.{write_number, number, greatest}
use Rattle.sl_store_bytes.specs.Orders.{byte_orders, order_code, field_attributes, attribute_code}
use Rattle.sl_store_bytes.specs.Reader.{Reader, ◌>>=◌, pure}
use Rattle.sl_store_bytes.specs.Tables.{coded}
use Rattle.sl_store_bytes.specs.Words as lexeme
use Rattle.sl_store_bytes.specs.Words.{name, text, IsName, IsText}

-- any number
abbrev pub natural : Reader ℕ
natural = number 0 greatest

-- ---- spaces, bit ranges and fields

abbrev pub write_attribute : SpaceAttribute → List ℕ
write_attribute (of_type w) = 0 ∷ write_bytes w
write_attribute (of_size n) = 1 ∷ write_number n
write_attribute (of_word_size n) = 2 ∷ write_number n
write_attribute is_default = 3 ∷ []

abbrev pub AttributeLeaves : SpaceAttribute → Type 0
AttributeLeaves (of_type w) = IsName w
AttributeLeaves (of_size n) = n ≤ greatest
AttributeLeaves (of_word_size n) = Unit {0}
AttributeLeaves is_default = Unit {0}

abbrev pub attribute_by : AttributeForm → Reader SpaceAttribute
attribute_by a.Type = name >>= (λ w. pure (of_type w))
attribute_by a.Size = natural >>= (λ n. pure (of_size n))
attribute_by a.WordSize = number 1 1 >>= (λ n. pure (of_word_size n))
attribute_by a.Default = pure is_default

unfoldable pub space_attribute : Reader SpaceAttribute
space_attribute = coded attribute_forms >>= (λ form. attribute_by form)

abbrev pub write_range : BitRange → List ℕ
write_range r = write_bytes r.name ++ (write_bytes r.register ++ (write_number r.low ++ write_number r.count))

abbrev pub RangeLeaves : BitRange → Type 0
RangeLeaves r = IsName r.name × IsName r.register × (r.low ≤ greatest) × (r.count ≤ greatest)

abbrev pub range_of : Name → Name → ℕ → ℕ → BitRange
range_of n r l c = record { name = n; register = r; low = l; count = c }

unfoldable pub bit_range : Reader BitRange
bit_range = name >>= (λ n. name >>= (λ r. natural >>= (λ l. natural >>= (λ c. pure (range_of n r l c)))))

abbrev pub write_order : ByteOrder → List ℕ
write_order k = order_code k ∷ []

abbrev pub write_mark : FieldAttribute → List ℕ
write_mark k = attribute_code k ∷ []

abbrev pub AnyMark : FieldAttribute → Type 0
AnyMark k = Unit {0}

abbrev pub write_field : Field → List ℕ
write_field f = write_bytes f.name ++ (write_number f.low ++ (write_number f.high ++ write_list write_mark f.attributes))

abbrev pub FieldLeaves : Field → Type 0
FieldLeaves f = IsName f.name × (f.low ≤ greatest) × (f.high ≤ greatest) × AreEach AnyMark f.attributes

abbrev pub field_of : Name → ℕ → ℕ → List FieldAttribute → Field
field_of n l h as' = record { name = n; low = l; high = h; attributes = as' }

unfoldable pub field_here : Reader Field
field_here = name >>= (λ n. natural >>= (λ l. natural >>= (λ h. list_of (coded field_attributes) >>= (λ as'. pure (field_of n l h as')))))

-- ---- names

abbrev pub write_names : Names → List ℕ
write_names (one w) = 0 ∷ write_bytes w
write_names (several ws) = 1 ∷ write_list write_bytes ws

abbrev pub NamesLeaves : Names → Type 0
NamesLeaves (one w) = IsName w
NamesLeaves (several ws) = AreEach IsName ws

unfoldable pub names_here : Reader Names
names_here = either (name >>= (λ w. pure (one w))) (list_of name >>= (λ ws. pure (several ws)))

-- ---- definitions

abbrev pub write_definition : Definition → List ℕ
write_definition (endian order) = 0 ∷ write_order order
write_definition (alignment n) = 1 ∷ write_number n
write_definition (space w attributes) = 2 ∷ (write_bytes w ++ write_list write_attribute attributes)
write_definition (bit_ranges r more) = 3 ∷ (write_range r ++ write_list write_range more)
write_definition (pcode_ops names) = 4 ∷ write_names names
write_definition (token w n order fields) = 5 ∷ (write_bytes w ++ (write_number n ++ (write_option write_order order ++ write_list write_field fields)))
write_definition (context w fields) = 6 ∷ (write_bytes w ++ write_list write_field fields)
write_definition (registers w offset size names) = 7 ∷ (write_bytes w ++ (write_number offset ++ (write_number size ++ write_names names)))

abbrev pub DefinitionLeaves : Definition → Type 0
DefinitionLeaves (endian order) = Unit {0}
DefinitionLeaves (alignment n) = n ≤ greatest
DefinitionLeaves (space w attributes) = IsName w × AreEach AttributeLeaves attributes
DefinitionLeaves (bit_ranges r more) = RangeLeaves r × AreEach RangeLeaves more
DefinitionLeaves (pcode_ops names) = NamesLeaves names
DefinitionLeaves (token w n order fields) = IsName w × (n ≤ greatest) × AreEach FieldLeaves fields
DefinitionLeaves (context w fields) = IsName w × AreEach FieldLeaves fields
DefinitionLeaves (registers w offset size names) = IsName w × (offset ≤ greatest) × (size ≤ greatest) × NamesLeaves names

abbrev pub definition_by : DefinitionForm → Reader Definition
definition_by d.Endian = coded byte_orders >>= (λ order. pure (endian order))
definition_by d.Alignment = natural >>= (λ n. pure (alignment n))
definition_by d.Space = name >>= (λ w. list_of space_attribute >>= (λ attributes. pure (space w attributes)))
definition_by d.BitRanges = bit_range >>= (λ r. list_of bit_range >>= (λ more. pure (bit_ranges r more)))
definition_by d.PcodeOps = names_here >>= (λ names. pure (pcode_ops names))
definition_by d.Token = name >>= (λ w. natural >>= (λ n. option (coded byte_orders) >>= (λ order. list_of field_here >>= (λ fields. pure (token w n order fields)))))
definition_by d.Context = name >>= (λ w. list_of field_here >>= (λ fields. pure (context w fields)))
definition_by d.Registers = name >>= (λ w. natural >>= (λ offset. natural >>= (λ size. names_here >>= (λ names. pure (registers w offset size names)))))

unfoldable pub definition_here : Reader Definition
definition_here = coded definition_forms >>= (λ form. definition_by form)

-- ---- members of attached lists

-- a word with its own bytes
abbrev pub WordLeaves : Word → Type 0
WordLeaves (plain w) = IsName w
WordLeaves (quoted keyword) = Unit {0}

abbrev pub write_word : Word → List ℕ
write_word w = write_bytes (word_bytes w)

abbrev pub write_member : Member → List ℕ
write_member (member_word w) = 0 ∷ write_word w
write_member (member_text t) = 1 ∷ write_bytes t
write_member (member_integer n) = 2 ∷ (0 ∷ write_number n)
write_member (member_negative n) = 2 ∷ (1 ∷ write_number n)

abbrev pub MemberLeaves : Member → Type 0
MemberLeaves (member_word w) = WordLeaves w
MemberLeaves (member_text t) = IsText t
MemberLeaves (member_integer n) = n ≤ greatest
MemberLeaves (member_negative n) = n ≤ greatest

unfoldable pub signed_here : Reader Member
signed_here = either (natural >>= (λ n. pure (member_integer n))) (natural >>= (λ n. pure (member_negative n)))

abbrev pub member_by : MemberForm → Reader Member
member_by m.Word = lexeme.member_word >>= (λ w. pure (member_word (word_of w)))
member_by m.Text = text >>= (λ t. pure (member_text t))
member_by m.Integer = signed_here

unfoldable pub member_here : Reader Member
member_here = coded member_forms >>= (λ form. member_by form)
