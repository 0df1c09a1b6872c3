-- Definitions and attached lists.
use Rattle.std.proofs.Common.{◌≡◌, ℕ, ◌≤◌, List, [], ◌∷◌, ◌++◌, Option, None, Some, Ok, Err, refl, ap, sym, ◌∙◌}
use Rattle.sl_ast.specs.Symbols.{Word, word_of}
use Rattle.sl_ast.specs.Trees.{Name, SpaceAttribute, of_type, of_size, of_word_size, is_default, BitRange, Field, Names, one, several, Definition, endian, alignment, space, bit_ranges, pcode_ops, token, context, registers, Member, member_word, member_text, member_integer, member_negative}
use Rattle.sl_ast.specs.Validity.{IfWritten, IsSpaceAttribute, IsDefinition, IsMember}
use Rattle.sl_ast.specs.declared.definitions.ByteOrder.{ByteOrder}
use Rattle.sl_ast.specs.declared.definitions.ByteOrder.TheVariants as bo
use Rattle.sl_ast.specs.declared.definitions.FieldAttribute.{FieldAttribute}
use Rattle.sl_ast.specs.declared.definitions.FieldAttribute.TheVariants as fa
use Rattle.sl_store_format.specs.Definitions.{write_attribute, AttributeLeaves, attribute_by, space_attribute, write_range, RangeLeaves, range_of, bit_range, write_order, write_mark, AnyMark, write_field, FieldLeaves, field_of, field_here, write_names, NamesLeaves, names_here, write_definition, DefinitionLeaves, definition_by, definition_here, write_member, MemberLeaves, signed_here, member_by, member_here}
use Rattle.sl_store_format.specs.Forms.{attribute_forms, attribute_code, definition_forms, definition_code, member_forms, member_code}
use Rattle.sl_store_format.specs.Keywords.{word_bytes}
use Rattle.sl_store_format.specs.declared.forms.AttributeForm.{AttributeForm}
use Rattle.sl_store_format.specs.declared.forms.AttributeForm.TheVariants as a
use Rattle.sl_store_format.specs.declared.forms.DefinitionForm.{DefinitionForm}
use Rattle.sl_store_format.specs.declared.forms.DefinitionForm.TheVariants as d
use Rattle.sl_store_format.specs.declared.forms.MemberForm.{MemberForm}
use Rattle.sl_store_format.specs.declared.forms.MemberForm.TheVariants as m
use Rattle.sl_store_bytes.specs.Exact.{Exact}
use Rattle.sl_store_bytes.specs.Lexemes.{write_bytes}
use Rattle.sl_store_bytes.specs.Lists.{write_list, write_option}
use Rattle.sl_store_bytes.specs.Numbers.{write_number, greatest}
use Rattle.sl_store_bytes.specs.Orders.{byte_orders, field_attributes}
use Rattle.sl_store_bytes.specs.Tables.{coded}
use Rattle.sl_store_bytes.proofs.Chains.{Behind, behind_done, exact_from}
use Rattle.sl_store_bytes.proofs.LexemeLaws.{exact_name, exact_member_word, exact_text}
use Rattle.sl_store_bytes.proofs.OrderLaws.{orders_count, attributes_count}
use Rattle.sl_store_bytes.proofs.PartLaws.{exact_option, exact_list, either_behind, either_after, either_first, either_other}
use Rattle.sl_store_bytes.proofs.RuleLaws.{took1, took2, took3, took4, rule1, rule2, rule3, rule4, choice, chosen, exact_coded, AnyCode}
use Rattle.sl_store_format.proofs.FormLaws.{attribute_counts, definition_counts, member_counts}
use Rattle.sl_store_format.proofs.Goods.{exact_any, exact_one, exact_list_halves}
use Rattle.sl_store_format.proofs.KeywordLaws.{word_bytes_of, member_good, good_member, member_same}

-- ---- spaces, bit ranges and fields

abbrev GoodAttribute : SpaceAttribute → Type 0
GoodAttribute at = IsSpaceAttribute at × AttributeLeaves at

attribute_behind : (form : AttributeForm) → Behind write_attribute GoodAttribute (attribute_code form ∷ []) (attribute_by form)
attribute_behind a.Type = rule1 exact_name of_type write_attribute GoodAttribute (0 ∷ []) (λ w good. (tt, good)) (λ w. refl)
attribute_behind a.Size = rule1 exact_any of_size write_attribute GoodAttribute (1 ∷ []) (λ n good. (tt, good)) (λ n. refl)
attribute_behind a.WordSize = rule1 exact_one of_word_size write_attribute GoodAttribute (2 ∷ []) (λ n good. (good, tt)) (λ n. refl)
attribute_behind a.Default = behind_done write_attribute GoodAttribute (3 ∷ []) is_default (tt, tt) refl

attribute_begin : (form : AttributeForm) (ys : List ℕ) → space_attribute (attribute_code form ∷ ys) ≡ attribute_by form ys
unfolding space_attribute
attribute_begin form ys = chosen attribute_counts a.Type attribute_by form ys

attribute_complete : (at : SpaceAttribute) (rest : List ℕ) → GoodAttribute at → space_attribute (write_attribute at ++ rest) ≡ Ok (at, rest)
attribute_complete (of_type w) rest good = attribute_begin a.Type (write_bytes w ++ rest) ∙ took1 exact_name of_type w rest good.1
attribute_complete (of_size n) rest good = attribute_begin a.Size (write_number n ++ rest) ∙ took1 exact_any of_size n rest good.1
attribute_complete (of_word_size n) rest good = attribute_begin a.WordSize (write_number n ++ rest) ∙ took1 exact_one of_word_size n rest good.0
attribute_complete is_default rest good = attribute_begin a.Default rest

exact_attribute : Exact write_attribute GoodAttribute space_attribute
unfolding space_attribute
exact_attribute = exact_from (choice attribute_counts a.Type attribute_by write_attribute GoodAttribute attribute_behind) attribute_complete

range_complete : (r : BitRange) (rest : List ℕ) → RangeLeaves r → bit_range (write_range r ++ rest) ≡ Ok (r, rest)
unfolding bit_range
range_complete r rest good = took4 exact_name exact_name exact_any exact_any range_of r.name r.register r.low r.count rest good.0 good.1 good.2 good.3

range_behind : Behind write_range RangeLeaves [] bit_range
unfolding bit_range
range_behind = rule4 exact_name exact_name exact_any exact_any range_of write_range RangeLeaves [] (λ n r l c a b d e. (a, b, d, e)) (λ n r l c. refl)

exact_range : Exact write_range RangeLeaves bit_range
exact_range = exact_from range_behind range_complete

pub exact_order : Exact write_order AnyCode (coded byte_orders)
exact_order = exact_coded orders_count bo.Big

exact_mark : Exact write_mark AnyMark (coded field_attributes)
exact_mark = exact_coded attributes_count fa.Signed

field_complete : (f : Field) (rest : List ℕ) → FieldLeaves f → field_here (write_field f ++ rest) ≡ Ok (f, rest)
unfolding field_here
field_complete f rest good = took4 exact_name exact_any exact_any (exact_list exact_mark) field_of f.name f.low f.high f.attributes rest good.0 good.1 good.2 good.3

field_behind : Behind write_field FieldLeaves [] field_here
unfolding field_here
field_behind = rule4 exact_name exact_any exact_any (exact_list exact_mark) field_of write_field FieldLeaves [] (λ n l h as' a b d e. (a, b, d, e)) (λ n l h as'. refl)

exact_field : Exact write_field FieldLeaves field_here
exact_field = exact_from field_behind field_complete

names_complete : (ns : Names) (rest : List ℕ) → NamesLeaves ns → names_here (write_names ns ++ rest) ≡ Ok (ns, rest)
unfolding names_here
names_complete (one w) rest good = either_first _ _ (write_bytes w ++ rest) ∙ took1 exact_name one w rest good
names_complete (several ws) rest good = either_other _ _ (write_list write_bytes ws ++ rest) ∙ took1 (exact_list exact_name) several ws rest good

names_behind : Behind write_names NamesLeaves [] names_here
unfolding names_here
names_behind = either_behind _ _ write_names NamesLeaves (rule1 exact_name one write_names NamesLeaves (0 ∷ []) (λ w good. good) (λ w. refl))
    (rule1 (exact_list exact_name) several write_names NamesLeaves (1 ∷ []) (λ ws good. good) (λ ws. refl))

pub exact_names_here : Exact write_names NamesLeaves names_here
exact_names_here = exact_from names_behind names_complete

-- ---- definitions

abbrev pub GoodDefinition : Definition → Type 0
GoodDefinition def = IsDefinition def × DefinitionLeaves def

definition_behind : (form : DefinitionForm) → Behind write_definition GoodDefinition (definition_code form ∷ []) (definition_by form)
definition_behind d.Endian = rule1 exact_order endian write_definition GoodDefinition (0 ∷ []) (λ k any. (tt, tt)) (λ k. refl)
definition_behind d.Alignment = rule1 exact_any alignment write_definition GoodDefinition (1 ∷ []) (λ n good. (tt, good)) (λ n. refl)
definition_behind d.Space = rule2 exact_name (exact_list_halves exact_attribute) space write_definition GoodDefinition (2 ∷ []) (λ w ats good fit. (fit.0, (good, fit.1))) (λ w ats. refl)
definition_behind d.BitRanges = rule2 exact_range (exact_list exact_range) bit_ranges write_definition GoodDefinition (3 ∷ []) (λ r more good fit. (tt, (good, fit))) (λ r more. refl)
definition_behind d.PcodeOps = rule1 exact_names_here pcode_ops write_definition GoodDefinition (4 ∷ []) (λ ns good. (tt, good)) (λ ns. refl)
definition_behind d.Token = rule4 exact_name exact_any (exact_option exact_order) (exact_list exact_field) token write_definition GoodDefinition (5 ∷ [])
    (λ w n order fields good low any fit. (tt, (good, low, fit))) (λ w n order fields. refl)
definition_behind d.Context = rule2 exact_name (exact_list exact_field) context write_definition GoodDefinition (6 ∷ []) (λ w fields good fit. (tt, (good, fit))) (λ w fields. refl)
definition_behind d.Registers = rule4 exact_name exact_any exact_any exact_names_here registers write_definition GoodDefinition (7 ∷ [])
    (λ w offset size ns good low high fit. (tt, (good, low, high, fit))) (λ w offset size ns. refl)

begin : (form : DefinitionForm) (ys : List ℕ) → definition_here (definition_code form ∷ ys) ≡ definition_by form ys
unfolding definition_here
begin form ys = chosen definition_counts d.Endian definition_by form ys

any_order : (o : Option ByteOrder) → IfWritten AnyCode o
any_order None = tt
any_order (Some k) = tt

definition_complete : (def : Definition) (rest : List ℕ) → GoodDefinition def → definition_here (write_definition def ++ rest) ≡ Ok (def, rest)
definition_complete (endian k) rest good = begin d.Endian (write_order k ++ rest) ∙ took1 exact_order endian k rest tt
definition_complete (alignment n) rest good = begin d.Alignment (write_number n ++ rest) ∙ took1 exact_any alignment n rest good.1
definition_complete (space w ats) rest good =
    begin d.Space ((write_bytes w ++ write_list write_attribute ats) ++ rest) ∙ took2 exact_name (exact_list_halves exact_attribute) space w ats rest good.1.0 (good.0, good.1.1)
definition_complete (bit_ranges r more) rest good =
    begin d.BitRanges ((write_range r ++ write_list write_range more) ++ rest) ∙ took2 exact_range (exact_list exact_range) bit_ranges r more rest good.1.0 good.1.1
definition_complete (pcode_ops ns) rest good = begin d.PcodeOps (write_names ns ++ rest) ∙ took1 exact_names_here pcode_ops ns rest good.1
definition_complete (token w n order fields) rest good =
    begin d.Token ((write_bytes w ++ (write_number n ++ (write_option write_order order ++ write_list write_field fields))) ++ rest)
    ∙ took4 exact_name exact_any (exact_option exact_order) (exact_list exact_field) token w n order fields rest good.1.0 good.1.1 (any_order order) good.1.2
definition_complete (context w fields) rest good =
    begin d.Context ((write_bytes w ++ write_list write_field fields) ++ rest) ∙ took2 exact_name (exact_list exact_field) context w fields rest good.1.0 good.1.1
definition_complete (registers w offset size ns) rest good =
    begin d.Registers ((write_bytes w ++ (write_number offset ++ (write_number size ++ write_names ns))) ++ rest)
    ∙ took4 exact_name exact_any exact_any exact_names_here registers w offset size ns rest good.1.0 good.1.1 good.1.2 good.1.3

definition_all : Behind write_definition GoodDefinition [] definition_here
unfolding definition_here
definition_all = choice definition_counts d.Endian definition_by write_definition GoodDefinition definition_behind

pub exact_definition : Exact write_definition GoodDefinition definition_here
exact_definition = exact_from definition_all definition_complete

-- ---- members of attached lists

abbrev pub GoodMember : Member → Type 0
GoodMember member = IsMember member × MemberLeaves member

signed_behind : Behind write_member GoodMember (2 ∷ []) signed_here
unfolding signed_here
signed_behind = either_after _ _ write_member GoodMember (2 ∷ []) (rule1 exact_any member_integer write_member GoodMember (2 ∷ 0 ∷ []) (λ n good. (tt, good)) (λ n. refl))
    (rule1 exact_any member_negative write_member GoodMember (2 ∷ 1 ∷ []) (λ n good. (tt, good)) (λ n. refl))

member_behind : (form : MemberForm) → Behind write_member GoodMember (member_code form ∷ []) (member_by form)
member_behind m.Word = rule1 exact_member_word (λ w. member_word (word_of w)) write_member GoodMember (0 ∷ []) (λ w good. member_good w good) (λ w. ap (λ bytes. 0 ∷ write_bytes bytes) (sym (word_bytes_of w)))
member_behind m.Text = rule1 exact_text member_text write_member GoodMember (1 ∷ []) (λ t good. (tt, good)) (λ t. refl)
member_behind m.Integer = signed_behind

member_begin : (form : MemberForm) (ys : List ℕ) → member_here (member_code form ∷ ys) ≡ member_by form ys
unfolding member_here
member_begin form ys = chosen member_counts m.Word member_by form ys

positive_complete : (n : ℕ) (rest : List ℕ) → n ≤ greatest → signed_here (0 ∷ (write_number n ++ rest)) ≡ Ok (member_integer n, rest)
unfolding signed_here
positive_complete n rest good = either_first _ _ (write_number n ++ rest) ∙ took1 exact_any member_integer n rest good

negative_complete : (n : ℕ) (rest : List ℕ) → n ≤ greatest → signed_here (1 ∷ (write_number n ++ rest)) ≡ Ok (member_negative n, rest)
unfolding signed_here
negative_complete n rest good = either_other _ _ (write_number n ++ rest) ∙ took1 exact_any member_negative n rest good

member_complete : (member : Member) (rest : List ℕ) → GoodMember member → member_here (write_member member ++ rest) ≡ Ok (member, rest)
member_complete (member_word w) rest good =
    member_begin m.Word (write_bytes (word_bytes w) ++ rest) ∙ took1 exact_member_word (λ v. member_word (word_of v)) (word_bytes w) rest (good_member w good) ∙ ap (λ v. Ok (member_word v, rest)) (member_same w good.1)
member_complete (member_text t) rest good = member_begin m.Text (write_bytes t ++ rest) ∙ took1 exact_text member_text t rest good.1
member_complete (member_integer n) rest good = member_begin m.Integer (0 ∷ (write_number n ++ rest)) ∙ positive_complete n rest good.1
member_complete (member_negative n) rest good = member_begin m.Integer (1 ∷ (write_number n ++ rest)) ∙ negative_complete n rest good.1

member_all : Behind write_member GoodMember [] member_here
unfolding member_here
member_all = choice member_counts m.Word member_by write_member GoodMember member_behind

pub exact_member : Exact write_member GoodMember member_here
exact_member = exact_from member_all member_complete
