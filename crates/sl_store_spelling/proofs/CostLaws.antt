-- What the terminals of each tree cost.
use Rattle.std.proofs.Common.{◌≡◌, ℕ, zero, suc, ◌+◌, ◌*◌, ◌≤◌, Bool, true, false, if◌then◌else◌, nat_le, List, [], ◌∷◌, ◌++◌, length, length-append, map, Option, None, Some, refl, ap, sym, ◌∙◌, arith}
use Rattle.sl_ast.specs.Operators.{prefix_mark, binary_mark, relation_mark, pattern_mark}
use Rattle.sl_ast.specs.Spelling.{Spelling, name, keyword, spell_name, spell_all, spell_commas, spell_separated, spell_option, spell_space, spell_size, spell_expression, spell_arguments, spell_more, spell_pattern, spell_operand, spell_action, spell_actions, spell_star, spell_value, spell_left, spell_label, spell_direct, spell_computed, spell_dest, spell_target, spell_exported, spell_statement, spell_body, spell_order, spell_space_attribute, spell_bit_range, spell_attribute, spell_field, spell_names, spell_definition, spell_member, spell_piece, spell_section, spell_constructor, spell_head, spell_inside, spell_macro, spell_item, spell, order_word, attribute_word, kind_word}
use Rattle.sl_ast.specs.Symbols.{Word, plain, quoted, Sym, number, word, text, mark, blank, caret, char}
use Rattle.sl_ast.specs.Trees.{Name, Expression, Expressions, integer, named, paren, call, sized, dropped, bits, prefix, star, binary, no_more, with_more, Pattern, bare, constraint, group, ellipsis, joined, Operand, by_name, by_integer, Action, set, global_set, StarForm, Left, left_name, left_bits, left_star, Direct, to_label, to_operand, Dest, direct, computed, Target, calls, calls_computed, Exported, exports, exports_star, Statement, local, declare, assign, goto, branch, call_to, return, build, export, invoke, label, SpaceAttribute, of_type, of_size, of_word_size, is_default, BitRange, Field, Names, one, several, Definition, endian, alignment, space, bit_ranges, pcode_ops, token, context, registers, Member, member_word, member_text, member_integer, member_negative, Piece, piece_word, piece_text, piece_blank, piece_caret, piece_char, Section, statements, unimplemented, Constructor, Head, Inside, nothing, constructor_then, block_then, Macro, Item, define, attach_list, attach_one, macro, constructor, block}
use Rattle.sl_ast.specs.Validity.{Each}
use Rattle.sl_ast.specs.declared.definitions.ByteOrder.{ByteOrder}
use Rattle.sl_ast.specs.declared.definitions.FieldAttribute.{FieldAttribute}
use Rattle.sl_ast.specs.declared.symbols.Keyword.TheVariants as k
use Rattle.sl_ast.specs.declared.symbols.Mark.TheVariants as m
use Rattle.sl_store_format.specs.Constructors.{write_piece, write_section, write_actions, write_constructor, write_head, write_macro}
use Rattle.sl_store_format.specs.Definitions.{write_attribute, write_range, write_order, write_mark, write_field, write_names, write_definition, write_word, write_member}
use Rattle.sl_store_format.specs.Expressions.{write_expression, write_arguments, count}
use Rattle.sl_store_format.specs.Items.{ItemLeaves, GoodPlaced, Inner, constructor_at, block_at, Inners, no_inner, with_inner, Placed, item_at, with_at, size, write_place, write_inner, write_inners, write_item, write_placed}
use Rattle.sl_store_format.specs.Keywords.{keyword_bytes}
use Rattle.sl_store_format.specs.Packed.{Written, IsPackable, inside_of, item_of, pack}
use Rattle.sl_store_format.specs.Actions.{write_operand, write_action}
use Rattle.sl_store_format.specs.PatternBytes.{write_pattern, joint_code}
use Rattle.sl_store_format.specs.Statements.{write_star, write_left, write_direct, write_dest, write_target, write_exported, write_statement}
use Rattle.sl_store_bytes.specs.Lexemes.{write_bytes}
use Rattle.sl_store_bytes.specs.Lists.{write_all, write_list, write_option, write_separated}
use Rattle.sl_store_bytes.specs.Numbers.{write_number, groups}
use Rattle.sl_store_bytes.specs.Orders.{prefix_code, operator_code, relation_code, order_code, attribute_code, kind_code}
use Rattle.sl_store_spelling.specs.Costs.{word_cost, cost, costs}

-- ---- numbers and names

some_by : (b : Bool) (p q : ℕ) (ps qs : List ℕ) → 1 ≤ length (if b then p ∷ ps else q ∷ qs)
some_by true p q ps qs = omega arith
some_by false p q ps qs = omega arith

some_groups : (k n : ℕ) → 1 ≤ length (groups k n)
unfolding groups
some_groups zero n = omega arith
some_groups (suc k) n = some_by (nat_le 128 n) _ n _ []

-- a number has a byte
some_number : (n : ℕ) → 1 ≤ length (write_number n)
some_number n = some_groups 9 n

-- a name has its bytes and one more
name_cost : (w : List ℕ) → 1 + length w ≤ length (write_bytes w)
name_cost w = omega (arith, length-append (write_number (length w)) w, some_number (length w))

-- ---- lists and parts that are optional

module _ {A : Type 0} (spelled : Spelling A) (write : A → List ℕ) where
  module _ (each : (a : A) (rest : List Sym) → costs (spelled a rest) ≤ 8 * length (write a) + costs rest) where
    all_cost : (xs : List A) (rest : List Sym) → costs (spell_all spelled xs rest) ≤ 8 * length (write_all write xs) + costs rest
    all_cost [] rest = omega arith
    all_cost (x ∷ xs) rest = omega (arith, each x (spell_all spelled xs rest), all_cost xs rest, length-append (write x) (write_all write xs))

    list_cost : (xs : List A) (rest : List Sym) → costs (spell_all spelled xs rest) + 8 ≤ 8 * length (write_list write xs) + costs rest
    list_cost xs rest = omega (arith, all_cost xs rest, some_number (length xs), length-append (write_number (length xs)) (write_all write xs))

  module _ (each : (a : A) (rest : List Sym) → costs (spelled a rest) + 1 ≤ 8 * length (write a) + costs rest) where
    commas_cost : (xs : List A) (rest : List Sym) → costs (spell_commas spelled xs rest) ≤ 8 * length (write_all write xs) + costs rest
    commas_cost [] rest = omega arith
    commas_cost (x ∷ xs) rest = omega (arith, each x (spell_commas spelled xs rest), commas_cost xs rest, length-append (write x) (write_all write xs))

    separated_cost : (xs : List A) (rest : List Sym) → costs (spell_separated spelled xs rest) + 8 ≤ 8 * length (write_separated write xs) + costs rest
    separated_cost [] rest = omega arith
    separated_cost (x ∷ xs) rest =
        omega (
          arith,
          each x (spell_commas spelled xs rest),
          commas_cost xs rest,
          some_number (length xs),
          length-append (write x) (write_list write xs),
          length-append (write_number (length xs)) (write_all write xs),
        )

  -- an optional part, which may cost a byte more
  option_cost : (more : ℕ) → more ≤ 8 → ((a : A) (rest : List Sym) → costs (spelled a rest) ≤ 8 * length (write a) + more + costs rest)
      → (x : Option A) (rest : List Sym) → costs (spell_option spelled x rest) ≤ 8 * length (write_option write x) + costs rest
  option_cost more low each None rest = omega arith
  option_cost more low each (Some a) rest = omega (arith, each a rest)

spelled_name : (w : Name) (rest : List Sym) → costs (spell_name w rest) + 1 ≤ 8 * length (write_bytes w) + costs rest
spelled_name w rest = omega (arith, name_cost w)

name_within : (w : Name) (rest : List Sym) → costs (spell_name w rest) ≤ 8 * length (write_bytes w) + costs rest
name_within w rest = omega (arith, name_cost w)

-- ---- expressions

space_cost : (place : Option Name) (rest : List Sym) → costs (spell_option spell_space place rest) ≤ 8 * length (write_option write_bytes place) + costs rest
space_cost = option_cost spell_space write_bytes 8 (omega arith) (λ w rest. omega (arith, name_cost w))

size_cost : (n : Option ℕ) (rest : List Sym) → costs (spell_option spell_size n rest) ≤ 8 * length (write_option write_number n) + costs rest
size_cost = option_cost spell_size write_number 8 (omega arith) (λ n rest. omega (arith, some_number n))

mutual
  expression_cost : (e : Expression) (rest : List Sym) → costs (spell_expression e rest) + 1 ≤ 8 * length (write_expression e) + costs rest
  expression_cost (integer n) rest = omega (arith, some_number n)
  expression_cost (named w) rest = omega (arith, name_cost w)
  expression_cost (paren e) rest = omega (arith, expression_cost e (mark m.Close ∷ rest))
  expression_cost (call w es) rest =
      omega (
        arith,
        name_cost w,
        some_number (count es),
        arguments_cost es (mark m.Close ∷ rest),
        length-append (write_bytes w) (write_number (count es) ++ write_arguments es),
        length-append (write_number (count es)) (write_arguments es),
      )
  expression_cost (sized e n) rest = omega (arith, expression_cost e (mark m.Colon ∷ number n ∷ rest), some_number n, length-append (write_expression e) (write_number n))
  expression_cost (dropped e n) rest =
      omega (arith, expression_cost e (mark m.Open ∷ number n ∷ mark m.Close ∷ rest), some_number n, length-append (write_expression e) (write_number n))
  expression_cost (bits e l c) rest =
      omega (
        arith,
        expression_cost e (mark m.OpenBracket ∷ number l ∷ mark m.Comma ∷ number c ∷ mark m.CloseBracket ∷ rest),
        some_number l,
        some_number c,
        length-append (write_expression e) (write_number l ++ write_number c),
        length-append (write_number l) (write_number c),
      )
  expression_cost (prefix op e) rest = omega (arith, expression_cost e rest)
  expression_cost (star place width e) rest =
      omega (
        arith,
        space_cost place (spell_option spell_size width (spell_expression e rest)),
        size_cost width (spell_expression e rest),
        expression_cost e rest,
        length-append (write_option write_bytes place) (write_option write_number width ++ write_expression e),
        length-append (write_option write_number width) (write_expression e),
      )
  expression_cost (binary op l r) rest =
      omega (arith, expression_cost l (mark (binary_mark op) ∷ spell_expression r rest), expression_cost r rest, length-append (write_expression l) (write_expression r))

  arguments_cost : (es : Expressions) (rest : List Sym) → costs (spell_arguments es rest) ≤ 8 * length (write_arguments es) + costs rest
  arguments_cost no_more rest = omega arith
  arguments_cost (with_more e es) rest = omega (arith, expression_cost e (spell_more es rest), more_cost es rest, length-append (write_expression e) (write_arguments es))

  more_cost : (es : Expressions) (rest : List Sym) → costs (spell_more es rest) ≤ 8 * length (write_arguments es) + costs rest
  more_cost no_more rest = omega arith
  more_cost (with_more e es) rest = omega (arith, expression_cost e (spell_more es rest), more_cost es rest, length-append (write_expression e) (write_arguments es))

expression_within : (e : Expression) (rest : List Sym) → costs (spell_expression e rest) ≤ 8 * length (write_expression e) + costs rest
expression_within e rest = omega (arith, expression_cost e rest)

-- ---- patterns and actions

pattern_cost : (p : Pattern) (rest : List Sym) → costs (spell_pattern p rest) ≤ 8 * length (write_pattern p) + costs rest
pattern_cost (bare w) rest = omega (arith, name_cost w)
pattern_cost (constraint w rel e) rest = omega (arith, name_cost w, expression_cost e rest, length-append (write_bytes w) (relation_code rel ∷ write_expression e))
pattern_cost (group p) rest = omega (arith, pattern_cost p (mark m.Close ∷ rest))
pattern_cost (ellipsis p) rest = omega (arith, pattern_cost p (mark m.Ellipsis ∷ rest))
pattern_cost (joined op p q) rest =
    omega (arith, pattern_cost p (mark (pattern_mark op) ∷ spell_pattern q rest), pattern_cost q rest, length-append (write_pattern p) (write_pattern q))

operand_cost : (o : Operand) (rest : List Sym) → costs (spell_operand o rest) + 8 ≤ 8 * length (write_operand o) + costs rest
operand_cost (by_name w) rest = omega (arith, name_cost w)
operand_cost (by_integer n) rest = omega (arith, some_number n)

action_cost : (a : Action) (rest : List Sym) → costs (spell_action a rest) ≤ 8 * length (write_action a) + costs rest
action_cost (set w e) rest = omega (arith, name_cost w, expression_cost e (mark m.Semicolon ∷ rest), length-append (write_bytes w) (write_expression e))
action_cost (global_set at w) rest =
    omega (arith, name_cost w, operand_cost at (mark m.Comma ∷ name w ∷ mark m.Close ∷ mark m.Semicolon ∷ rest), length-append (write_operand at) (write_bytes w))

actions_cost : (o : Option (List Action)) (rest : List Sym) → costs (spell_option spell_actions o rest) ≤ 8 * length (write_actions o) + costs rest
actions_cost = option_cost spell_actions (write_list write_action) 0 (omega arith) (λ as' rest. omega (arith, list_cost spell_action write_action action_cost as' (mark m.CloseBracket ∷ rest)))

-- ---- statements

star_cost : (form : StarForm) (rest : List Sym) → costs (spell_star form rest) ≤ 8 * length (write_star form) + 1 + costs rest
star_cost form rest =
    omega (
      arith,
      space_cost form.space (spell_option spell_size form.size rest),
      size_cost form.size rest,
      length-append (write_option write_bytes form.space) (write_option write_number form.size),
    )

left_cost : (to : Left) (rest : List Sym) → costs (spell_left to rest) ≤ 8 * length (write_left to) + costs rest
left_cost (left_name w) rest = omega (arith, name_cost w)
left_cost (left_bits w l c) rest =
    omega (arith, name_cost w, some_number l, some_number c, length-append (write_bytes w) (write_number l ++ write_number c), length-append (write_number l) (write_number c))
left_cost (left_star form e) rest = omega (arith, star_cost form (spell_expression e rest), expression_cost e rest, length-append (write_star form) (write_expression e))

direct_cost : (to : Direct) (rest : List Sym) → costs (spell_direct to rest) ≤ 8 * length (write_direct to) + costs rest
direct_cost (to_label w) rest = omega (arith, name_cost w)
direct_cost (to_operand (by_name w)) rest = omega (arith, name_cost w)
direct_cost (to_operand (by_integer n)) rest = omega (arith, some_number n)

dest_cost : (to : Dest) (rest : List Sym) → costs (spell_dest to rest) ≤ 8 * length (write_dest to) + costs rest
dest_cost (direct to) rest = omega (arith, direct_cost to rest)
dest_cost (computed e) rest = omega (arith, expression_cost e (mark m.CloseBracket ∷ rest))

target_cost : (to : Target) (rest : List Sym) → costs (spell_target to rest) ≤ 8 * length (write_target to) + costs rest
target_cost (calls (by_name w)) rest = omega (arith, name_cost w)
target_cost (calls (by_integer n)) rest = omega (arith, some_number n)
target_cost (calls_computed e) rest = omega (arith, expression_cost e (mark m.CloseBracket ∷ rest))

exported_cost : (what : Exported) (rest : List Sym) → costs (spell_exported what rest) ≤ 8 * length (write_exported what) + costs rest
exported_cost (exports w) rest = omega (arith, name_cost w)
exported_cost (exports_star form pointer) rest =
    omega (arith, star_cost form (spell_operand pointer rest), operand_cost pointer rest, length-append (write_star form) (write_operand pointer))

value_cost : (e : Option Expression) (rest : List Sym) → costs (spell_option spell_value e rest) ≤ 8 * length (write_option write_expression e) + costs rest
value_cost = option_cost spell_value write_expression 8 (omega arith) (λ e rest. omega (arith, expression_cost e rest))

statement_cost : (s : Statement) (rest : List Sym) → costs (spell_statement s rest) ≤ 8 * length (write_statement s) + costs rest
statement_cost (local w size value) rest =
    omega (
      arith,
      name_cost w,
      size_cost size (spell_option spell_value value (mark m.Semicolon ∷ rest)),
      value_cost value (mark m.Semicolon ∷ rest),
      length-append (write_bytes w) (write_option write_number size ++ write_option write_expression value),
      length-append (write_option write_number size) (write_option write_expression value),
    )
statement_cost (declare w n e) rest =
    omega (
      arith,
      name_cost w,
      some_number n,
      expression_cost e (mark m.Semicolon ∷ rest),
      length-append (write_bytes w) (write_number n ++ write_expression e),
      length-append (write_number n) (write_expression e),
    )
statement_cost (assign to e) rest =
    omega (arith, left_cost to (mark m.Equals ∷ spell_expression e (mark m.Semicolon ∷ rest)), expression_cost e (mark m.Semicolon ∷ rest), length-append (write_left to) (write_expression e))
statement_cost (goto to) rest = omega (arith, dest_cost to (mark m.Semicolon ∷ rest))
statement_cost (branch e to) rest =
    omega (arith, expression_cost e (keyword k.Goto ∷ spell_direct to (mark m.Semicolon ∷ rest)), direct_cost to (mark m.Semicolon ∷ rest), length-append (write_expression e) (write_direct to))
statement_cost (call_to to) rest = omega (arith, target_cost to (mark m.Semicolon ∷ rest))
statement_cost (return e) rest = omega (arith, expression_cost e (mark m.CloseBracket ∷ mark m.Semicolon ∷ rest))
statement_cost (build w) rest = omega (arith, name_cost w)
statement_cost (export what) rest = omega (arith, exported_cost what (mark m.Semicolon ∷ rest))
statement_cost (invoke w es) rest =
    omega (
      arith,
      name_cost w,
      separated_cost spell_expression write_expression expression_cost es (mark m.Close ∷ mark m.Semicolon ∷ rest),
      length-append (write_bytes w) (write_separated write_expression es),
    )
statement_cost (label w) rest = omega (arith, name_cost w)

body_cost : (body : List Statement) (rest : List Sym) → costs (spell_body body rest) ≤ 8 * length (write_list write_statement body) + costs rest
body_cost body rest = omega (arith, list_cost spell_statement write_statement statement_cost body (mark m.CloseBrace ∷ rest))

-- ---- definitions

attribute_cost : (a : SpaceAttribute) (rest : List Sym) → costs (spell_space_attribute a rest) ≤ 8 * length (write_attribute a) + costs rest
attribute_cost (of_type w) rest = omega (arith, name_cost w)
attribute_cost (of_size n) rest = omega (arith, some_number n)
attribute_cost (of_word_size n) rest = omega (arith, some_number n)
attribute_cost is_default rest = omega arith

range_cost : (r : BitRange) (rest : List Sym) → costs (spell_bit_range r rest) ≤ 8 * length (write_range r) + costs rest
range_cost r rest =
    omega (
      arith,
      name_cost r.name,
      name_cost r.register,
      some_number r.low,
      some_number r.count,
      length-append (write_bytes r.name) (write_bytes r.register ++ (write_number r.low ++ write_number r.count)),
      length-append (write_bytes r.register) (write_number r.low ++ write_number r.count),
      length-append (write_number r.low) (write_number r.count),
    )

order_cost : (o : Option ByteOrder) (rest : List Sym) → costs (spell_option spell_order o rest) ≤ 8 * length (write_option write_order o) + costs rest
order_cost = option_cost spell_order write_order 0 (omega arith) (λ o rest. omega arith)

field_cost : (f : Field) (rest : List Sym) → costs (spell_field f rest) ≤ 8 * length (write_field f) + costs rest
field_cost f rest =
    omega (
      arith,
      name_cost f.name,
      some_number f.low,
      some_number f.high,
      list_cost spell_attribute write_mark (λ a more. omega arith) f.attributes rest,
      length-append (write_bytes f.name) (write_number f.low ++ (write_number f.high ++ write_list write_mark f.attributes)),
      length-append (write_number f.low) (write_number f.high ++ write_list write_mark f.attributes),
      length-append (write_number f.high) (write_list write_mark f.attributes),
    )

names_cost : (ns : Names) (rest : List Sym) → costs (spell_names ns rest) ≤ 8 * length (write_names ns) + costs rest
names_cost (one w) rest = omega (arith, name_cost w)
names_cost (several ws) rest = omega (arith, list_cost spell_name write_bytes name_within ws (mark m.CloseBracket ∷ rest))

definition_cost : (d : Definition) (rest : List Sym) → costs (spell_definition d rest) ≤ 8 * length (write_definition d) + costs rest
definition_cost (endian order) rest = omega arith
definition_cost (alignment n) rest = omega (arith, some_number n)
definition_cost (space w attributes) rest =
    omega (arith, name_cost w, list_cost spell_space_attribute write_attribute attribute_cost attributes rest, length-append (write_bytes w) (write_list write_attribute attributes))
definition_cost (bit_ranges r more) rest =
    omega (arith, range_cost r (spell_all spell_bit_range more rest), list_cost spell_bit_range write_range range_cost more rest, length-append (write_range r) (write_list write_range more))
definition_cost (pcode_ops names) rest = omega (arith, names_cost names rest)
definition_cost (token w n order fields) rest =
    omega (
      arith,
      name_cost w,
      some_number n,
      order_cost order (spell_all spell_field fields rest),
      list_cost spell_field write_field field_cost fields rest,
      length-append (write_bytes w) (write_number n ++ (write_option write_order order ++ write_list write_field fields)),
      length-append (write_number n) (write_option write_order order ++ write_list write_field fields),
      length-append (write_option write_order order) (write_list write_field fields),
    )
definition_cost (context w fields) rest =
    omega (arith, name_cost w, list_cost spell_field write_field field_cost fields rest, length-append (write_bytes w) (write_list write_field fields))
definition_cost (registers w offset size names) rest =
    omega (
      arith,
      name_cost w,
      some_number offset,
      some_number size,
      names_cost names rest,
      length-append (write_bytes w) (write_number offset ++ (write_number size ++ write_names names)),
      length-append (write_number offset) (write_number size ++ write_names names),
      length-append (write_number size) (write_names names),
    )

word_within : (w : Word) → word_cost w ≤ 8 * length (write_word w)
word_within (plain w) = omega (arith, name_cost w)
word_within (quoted keyword) = omega (arith, name_cost (keyword_bytes keyword))

member_cost : (a : Member) (rest : List Sym) → costs (spell_member a rest) ≤ 8 * length (write_member a) + costs rest
member_cost (member_word w) rest = omega (arith, word_within w)
member_cost (member_text t) rest = omega arith
member_cost (member_integer n) rest = omega arith
member_cost (member_negative n) rest = omega arith

-- ---- constructors and blocks

piece_cost : (p : Piece) (rest : List Sym) → costs (spell_piece p rest) ≤ 8 * length (write_piece p) + costs rest
piece_cost (piece_word w) rest = omega (arith, word_within w)
piece_cost (piece_text t) rest = omega arith
piece_cost (piece_blank t) rest = omega arith
piece_cost (piece_caret t) rest = omega arith
piece_cost (piece_char t) rest = omega arith

section_cost : (s : Section) (rest : List Sym) → costs (spell_section s rest) ≤ 8 * length (write_section s) + costs rest
section_cost (statements body) rest = omega (arith, body_cost body rest)
section_cost unimplemented rest = omega arith

table_cost : (o : Option Name) (rest : List Sym) → costs (spell_option spell_name o rest) ≤ 8 * length (write_option write_bytes o) + costs rest
table_cost = option_cost spell_name write_bytes 0 (omega arith) (λ w rest. omega (arith, name_cost w))

constructor_cost : (c : Constructor) (rest : List Sym) → costs (spell_constructor c rest) ≤ 8 * length (write_constructor c) + costs rest
constructor_cost c rest =
    let section = spell_section c.section rest in
    let actions = spell_option spell_actions c.actions section in
    let pattern = spell_pattern c.pattern actions in
    let display = spell_all spell_piece c.display (keyword k.Is ∷ pattern) in
    omega (
      arith,
      table_cost c.table (mark m.Colon ∷ display),
      list_cost spell_piece write_piece piece_cost c.display (keyword k.Is ∷ pattern),
      pattern_cost c.pattern actions,
      actions_cost c.actions section,
      section_cost c.section rest,
      length-append (write_option write_bytes c.table) (write_list write_piece c.display ++ (write_pattern c.pattern ++ (write_actions c.actions ++ write_section c.section))),
      length-append (write_list write_piece c.display) (write_pattern c.pattern ++ (write_actions c.actions ++ write_section c.section)),
      length-append (write_pattern c.pattern) (write_actions c.actions ++ write_section c.section),
      length-append (write_actions c.actions) (write_section c.section),
    )

head_pattern_cost : (o : Option Pattern) (rest : List Sym) → costs (spell_option spell_pattern o rest) ≤ 8 * length (write_option write_pattern o) + costs rest
head_pattern_cost = option_cost spell_pattern write_pattern 0 (omega arith) (λ p rest. omega (arith, pattern_cost p rest))

-- with the bracket that closes the block
head_cost : (h : Head) (rest : List Sym) → costs (spell_head h rest) ≤ 8 * length (write_head h) + 3 + costs rest
head_cost h rest =
    let actions = spell_option spell_actions h.actions (mark m.OpenBrace ∷ rest) in
    let pattern = spell_option spell_pattern h.pattern actions in
    omega (
      arith,
      table_cost h.table (mark m.Colon ∷ pattern),
      head_pattern_cost h.pattern actions,
      actions_cost h.actions (mark m.OpenBrace ∷ rest),
      length-append (write_option write_bytes h.table) (write_option write_pattern h.pattern ++ write_actions h.actions),
      length-append (write_option write_pattern h.pattern) (write_actions h.actions),
    )

macro_cost : (d : Macro) (rest : List Sym) → costs (spell_macro d rest) ≤ 8 * length (write_macro d) + costs rest
macro_cost d rest =
    omega (
      arith,
      name_cost d.name,
      separated_cost spell_name write_bytes spelled_name d.parameters (mark m.Close ∷ spell_body d.body rest),
      body_cost d.body rest,
      length-append (write_bytes d.name) (write_separated write_bytes d.parameters ++ write_list write_statement d.body),
      length-append (write_separated write_bytes d.parameters) (write_list write_statement d.body),
    )

inside_cost : (is : Inners) (rest : List Sym) → costs (spell_inside (inside_of is) rest) ≤ 8 * length (write_inners is) + costs rest
inside_cost no_inner rest = omega arith
inside_cost (with_inner (constructor_at p c) is) rest =
    omega (
      arith,
      constructor_cost c (spell_inside (inside_of is) rest),
      inside_cost is rest,
      length-append (write_inner (constructor_at p c)) (write_inners is),
      length-append (write_place p) (4 ∷ write_constructor c),
    )
inside_cost (with_inner (block_at p h js) is) rest =
    omega (
      arith,
      head_cost h (spell_inside (inside_of js) (mark m.CloseBrace ∷ spell_inside (inside_of is) rest)),
      inside_cost js (mark m.CloseBrace ∷ spell_inside (inside_of is) rest),
      inside_cost is rest,
      length-append (write_inner (block_at p h js)) (write_inners is),
      length-append (write_place p) (5 ∷ (write_head h ++ (write_number (size js) ++ write_inners js))),
      length-append (write_head h) (write_number (size js) ++ write_inners js),
      length-append (write_number (size js)) (write_inners js),
    )

-- ---- items

item_cost : (i : Item) (rest : List Sym) → ItemLeaves i → costs (spell_item i rest) ≤ 8 * length (write_item i) + costs rest
item_cost (define d) rest leaves = omega (arith, definition_cost d (mark m.Semicolon ∷ rest))
item_cost (attach_list kind names members) rest leaves =
    omega (
      arith,
      names_cost names (mark m.OpenBracket ∷ spell_all spell_member members (mark m.CloseBracket ∷ mark m.Semicolon ∷ rest)),
      list_cost spell_member write_member member_cost members (mark m.CloseBracket ∷ mark m.Semicolon ∷ rest),
      length-append (write_names names) (write_list write_member members),
    )
item_cost (attach_one kind names member) rest leaves =
    omega (arith, names_cost names (spell_member member (mark m.Semicolon ∷ rest)), member_cost member (mark m.Semicolon ∷ rest), length-append (write_names names) (write_member member))
item_cost (macro d) rest leaves = omega (arith, macro_cost d rest)
item_cost (constructor c) rest leaves = omega (arith, constructor_cost c rest)
item_cost (block h inside) rest leaves = absurd leaves

placed_cost : (files : ℕ) (i : Placed) (rest : List Sym) → GoodPlaced files i → costs (spell_item (item_of i) rest) ≤ 8 * length (write_placed i) + costs rest
placed_cost files (item_at p i) rest good = omega (arith, item_cost i rest good.2, length-append (write_place p) (write_item i))
placed_cost files (with_at p h is) rest good =
    omega (
      arith,
      head_cost h (spell_inside (inside_of is) (mark m.CloseBrace ∷ rest)),
      inside_cost is (mark m.CloseBrace ∷ rest),
      length-append (write_place p) (5 ∷ (write_head h ++ (write_number (size is) ++ write_inners is))),
      length-append (write_head h) (write_number (size is) ++ write_inners is),
      length-append (write_number (size is)) (write_inners is),
    )

items_cost : (files : ℕ) (is : List Placed) → Each (GoodPlaced files) is → costs (spell (map item_of is)) ≤ 8 * length (write_all write_placed is)
items_cost files [] good = omega arith
items_cost files (i ∷ is) good = omega (arith, placed_cost files i (spell (map item_of is)) good.0, items_cost files is good.1, length-append (write_placed i) (write_all write_placed is))

pub packed_cost : (w : Written) → IsPackable w → costs (spell (map item_of w.items)) ≤ 8 * length (pack w)
packed_cost w good =
    omega (
      arith,
      items_cost (length w.files) w.items good.items,
      length-append (write_list write_bytes w.files) (write_list write_placed w.items),
      length-append (write_number (length w.items)) (write_all write_placed w.items),
    )
