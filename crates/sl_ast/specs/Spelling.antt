-- meaning: the symbols of each tree. `spell_x x rest` has those of x and then the rest.
use Rattle.std.specs.Prelude.{ℕ, List, [], ◌∷◌, Option, None, Some}
use Rattle.sl_ast.specs.Symbols.{plain, quoted, Sym, number, word, text, mark, blank, caret, char}
use Rattle.sl_ast.specs.Trees.{Name, Expression, Expressions, integer, named, paren, call, sized, dropped, bits, prefix, star, binary, no_more, with_more, Pattern, bare, constraint, group, ellipsis, joined, Operand, by_name, by_integer, Action, set, global_set, StarForm, Left, left_name, left_bits, left_star, Direct, to_label, to_operand, Dest, direct, computed, Target, calls, calls_computed, Exported, exports, exports_star, Statement, local, declare, assign, goto, branch, call_to, return, build, export, invoke, label, SpaceAttribute, of_type, of_size, of_word_size, is_default, BitRange, Field, Names, one, several, Definition, endian, alignment, space, bit_ranges, pcode_ops, token, context, registers, Member, member_word, member_text, member_integer, member_negative, Piece, piece_word, piece_text, piece_blank, piece_caret, piece_char, Section, statements, unimplemented, Constructor, Head, Inside, nothing, constructor_then, block_then, Macro, Item, define, attach_list, attach_one, macro, constructor, block}
use Rattle.sl_ast.specs.Operators.{prefix_mark, binary_mark, relation_mark, pattern_mark}
use Rattle.sl_ast.specs.declared.definitions.AttachKind.{AttachKind}
use Rattle.sl_ast.specs.declared.definitions.AttachKind.TheVariants as a
use Rattle.sl_ast.specs.declared.definitions.ByteOrder.{ByteOrder}
use Rattle.sl_ast.specs.declared.definitions.ByteOrder.TheVariants as o
use Rattle.sl_ast.specs.declared.definitions.FieldAttribute.{FieldAttribute}
use Rattle.sl_ast.specs.declared.definitions.FieldAttribute.TheVariants as f
use Rattle.sl_ast.specs.declared.symbols.Keyword.{Keyword}
use Rattle.sl_ast.specs.declared.symbols.Keyword.TheVariants as k
use Rattle.sl_ast.specs.declared.symbols.Mark.TheVariants as m

-- how a tree of one type is spelled
abbrev pub Spelling : Type 0 → Type 0
Spelling A = A → List Sym → List Sym

abbrev pub name : Name → Sym
name w = word (plain w)

abbrev pub keyword : Keyword → Sym
keyword k = word (quoted k)

abbrev pub spell_name : Spelling Name
spell_name w rest = name w ∷ rest

-- ---- lists and parts that may lack

-- one behind the other
abbrev pub spell_all : {A : Type 0} → Spelling A → Spelling (List A)
spell_all spell [] rest = rest
spell_all spell (x ∷ xs) rest = spell x (spell_all spell xs rest)

-- each behind a comma
abbrev pub spell_commas : {A : Type 0} → Spelling A → Spelling (List A)
spell_commas spell [] rest = rest
spell_commas spell (x ∷ xs) rest = mark m.Comma ∷ spell x (spell_commas spell xs rest)

-- with commas between
abbrev pub spell_separated : {A : Type 0} → Spelling A → Spelling (List A)
spell_separated spell [] rest = rest
spell_separated spell (x ∷ xs) rest = spell x (spell_commas spell xs rest)

abbrev pub spell_option : {A : Type 0} → Spelling A → Spelling (Option A)
spell_option spell None rest = rest
spell_option spell (Some x) rest = spell x rest

-- ---- expressions and patterns

-- `[space]` in a star form
abbrev pub spell_space : Spelling Name
spell_space w rest = mark m.OpenBracket ∷ name w ∷ mark m.CloseBracket ∷ rest

-- `:n`
abbrev pub spell_size : Spelling ℕ
spell_size n rest = mark m.Colon ∷ number n ∷ rest

abbrev mutual
  pub spell_expression : Expression → List Sym → List Sym
  spell_expression (integer n) rest = number n ∷ rest
  spell_expression (named w) rest = name w ∷ rest
  spell_expression (paren e) rest = mark m.Open ∷ spell_expression e (mark m.Close ∷ rest)
  spell_expression (call w es) rest = name w ∷ mark m.Open ∷ spell_arguments es (mark m.Close ∷ rest)
  spell_expression (sized e n) rest = spell_expression e (mark m.Colon ∷ number n ∷ rest)
  spell_expression (dropped e n) rest = spell_expression e (mark m.Open ∷ number n ∷ mark m.Close ∷ rest)
  spell_expression (bits e l c) rest = spell_expression e (mark m.OpenBracket ∷ number l ∷ mark m.Comma ∷ number c ∷ mark m.CloseBracket ∷ rest)
  spell_expression (prefix op e) rest = mark (prefix_mark op) ∷ spell_expression e rest
  spell_expression (star place width e) rest = mark m.Star ∷ spell_option spell_space place (spell_option spell_size width (spell_expression e rest))
  spell_expression (binary op l r) rest = spell_expression l (mark (binary_mark op) ∷ spell_expression r rest)

  -- with commas between
  pub spell_arguments : Expressions → List Sym → List Sym
  spell_arguments no_more rest = rest
  spell_arguments (with_more e es) rest = spell_expression e (spell_more es rest)

  -- each behind a comma
  pub spell_more : Expressions → List Sym → List Sym
  spell_more no_more rest = rest
  spell_more (with_more e es) rest = mark m.Comma ∷ spell_expression e (spell_more es rest)

abbrev pub spell_pattern : Spelling Pattern
spell_pattern (bare w) rest = name w ∷ rest
spell_pattern (constraint w rel e) rest = name w ∷ mark (relation_mark rel) ∷ spell_expression e rest
spell_pattern (group p) rest = mark m.Open ∷ spell_pattern p (mark m.Close ∷ rest)
spell_pattern (ellipsis p) rest = spell_pattern p (mark m.Ellipsis ∷ rest)
spell_pattern (joined op p q) rest = spell_pattern p (mark (pattern_mark op) ∷ spell_pattern q rest)

abbrev pub spell_operand : Spelling Operand
spell_operand (by_name w) rest = name w ∷ rest
spell_operand (by_integer n) rest = number n ∷ rest

abbrev pub spell_action : Spelling Action
spell_action (set w e) rest = name w ∷ mark m.Equals ∷ spell_expression e (mark m.Semicolon ∷ rest)
spell_action (global_set at w) rest =
    keyword k.GlobalSet ∷ mark m.Open ∷ spell_operand at (mark m.Comma ∷ name w ∷ mark m.Close ∷ mark m.Semicolon ∷ rest)

abbrev pub spell_actions : Spelling (List Action)
spell_actions as' rest = mark m.OpenBracket ∷ spell_all spell_action as' (mark m.CloseBracket ∷ rest)

-- ---- statements

abbrev pub spell_star : Spelling StarForm
spell_star form rest = mark m.Star ∷ spell_option spell_space form.space (spell_option spell_size form.size rest)

abbrev pub spell_value : Spelling Expression
spell_value e rest = mark m.Equals ∷ spell_expression e rest

abbrev pub spell_left : Spelling Left
spell_left (left_name w) rest = name w ∷ rest
spell_left (left_bits w l c) rest = name w ∷ mark m.OpenBracket ∷ number l ∷ mark m.Comma ∷ number c ∷ mark m.CloseBracket ∷ rest
spell_left (left_star form e) rest = spell_star form (spell_expression e rest)

abbrev pub spell_label : Spelling Name
spell_label w rest = mark m.Less ∷ name w ∷ mark m.Greater ∷ rest

abbrev pub spell_direct : Spelling Direct
spell_direct (to_label w) rest = spell_label w rest
spell_direct (to_operand to) rest = spell_operand to rest

abbrev pub spell_computed : Spelling Expression
spell_computed e rest = mark m.OpenBracket ∷ spell_expression e (mark m.CloseBracket ∷ rest)

abbrev pub spell_dest : Spelling Dest
spell_dest (direct to) rest = spell_direct to rest
spell_dest (computed e) rest = spell_computed e rest

abbrev pub spell_target : Spelling Target
spell_target (calls to) rest = spell_operand to rest
spell_target (calls_computed e) rest = spell_computed e rest

abbrev pub spell_exported : Spelling Exported
spell_exported (exports w) rest = name w ∷ rest
spell_exported (exports_star form pointer) rest = spell_star form (spell_operand pointer rest)

abbrev pub spell_statement : Spelling Statement
spell_statement (local w size value) rest =
    keyword k.Local ∷ name w ∷ spell_option spell_size size (spell_option spell_value value (mark m.Semicolon ∷ rest))
spell_statement (declare w n e) rest = name w ∷ mark m.Colon ∷ number n ∷ mark m.Equals ∷ spell_expression e (mark m.Semicolon ∷ rest)
spell_statement (assign left e) rest = spell_left left (mark m.Equals ∷ spell_expression e (mark m.Semicolon ∷ rest))
spell_statement (goto to) rest = keyword k.Goto ∷ spell_dest to (mark m.Semicolon ∷ rest)
spell_statement (branch e to) rest = keyword k.If ∷ spell_expression e (keyword k.Goto ∷ spell_direct to (mark m.Semicolon ∷ rest))
spell_statement (call_to to) rest = keyword k.Call ∷ spell_target to (mark m.Semicolon ∷ rest)
spell_statement (return e) rest = keyword k.Return ∷ spell_computed e (mark m.Semicolon ∷ rest)
spell_statement (build w) rest = keyword k.Build ∷ name w ∷ mark m.Semicolon ∷ rest
spell_statement (export what) rest = keyword k.Export ∷ spell_exported what (mark m.Semicolon ∷ rest)
spell_statement (invoke w es) rest =
    name w ∷ mark m.Open ∷ spell_separated spell_expression es (mark m.Close ∷ mark m.Semicolon ∷ rest)
spell_statement (label w) rest = spell_label w rest

abbrev pub spell_body : Spelling (List Statement)
spell_body body rest = mark m.OpenBrace ∷ spell_all spell_statement body (mark m.CloseBrace ∷ rest)

-- ---- definitions

abbrev pub order_word : ByteOrder → Keyword
order_word o.Big = k.Big
order_word o.Little = k.Little

abbrev pub attribute_word : FieldAttribute → Keyword
attribute_word f.Signed = k.Signed
attribute_word f.Hex = k.Hex
attribute_word f.Dec = k.Dec
attribute_word f.NoFlow = k.NoFlow

abbrev pub kind_word : AttachKind → Keyword
kind_word a.Variables = k.Variables
kind_word a.Names = k.Names
kind_word a.Values = k.Values

abbrev pub spell_order : Spelling ByteOrder
spell_order order rest = keyword k.Endian ∷ mark m.Equals ∷ keyword (order_word order) ∷ rest

abbrev pub spell_space_attribute : Spelling SpaceAttribute
spell_space_attribute (of_type w) rest = keyword k.Type ∷ mark m.Equals ∷ name w ∷ rest
spell_space_attribute (of_size n) rest = keyword k.Size ∷ mark m.Equals ∷ number n ∷ rest
spell_space_attribute (of_word_size n) rest = keyword k.WordSize ∷ mark m.Equals ∷ number n ∷ rest
spell_space_attribute is_default rest = keyword k.Default ∷ rest

abbrev pub spell_bit_range : Spelling BitRange
spell_bit_range b rest =
    name b.name ∷ mark m.Equals ∷ name b.register ∷ mark m.OpenBracket ∷ number b.low ∷ mark m.Comma ∷ number b.count ∷ mark m.CloseBracket ∷ rest

abbrev pub spell_attribute : Spelling FieldAttribute
spell_attribute attribute rest = keyword (attribute_word attribute) ∷ rest

abbrev pub spell_field : Spelling Field
spell_field f rest =
    name f.name ∷ mark m.Equals ∷ mark m.Open ∷ number f.low ∷ mark m.Comma ∷ number f.high ∷ mark m.Close ∷ spell_all spell_attribute f.attributes rest

abbrev pub spell_names : Spelling Names
spell_names (one w) rest = name w ∷ rest
spell_names (several ws) rest = mark m.OpenBracket ∷ spell_all spell_name ws (mark m.CloseBracket ∷ rest)

abbrev pub spell_definition : Spelling Definition
spell_definition (endian order) rest = spell_order order rest
spell_definition (alignment n) rest = keyword k.Alignment ∷ mark m.Equals ∷ number n ∷ rest
spell_definition (space w attributes) rest = keyword k.Space ∷ name w ∷ spell_all spell_space_attribute attributes rest
spell_definition (bit_ranges first more) rest = keyword k.BitRange ∷ spell_bit_range first (spell_all spell_bit_range more rest)
spell_definition (pcode_ops names) rest = keyword k.PcodeOp ∷ spell_names names rest
spell_definition (token w size order fields) rest =
    keyword k.Token ∷ name w ∷ mark m.Open ∷ number size ∷ mark m.Close ∷ spell_option spell_order order (spell_all spell_field fields rest)
spell_definition (context w fields) rest = keyword k.Context ∷ name w ∷ spell_all spell_field fields rest
spell_definition (registers w offset size names) rest =
    name w ∷ keyword k.Offset ∷ mark m.Equals ∷ number offset ∷ keyword k.Size ∷ mark m.Equals ∷ number size ∷ spell_names names rest

abbrev pub spell_member : Spelling Member
spell_member (member_word w) rest = word w ∷ rest
spell_member (member_text t) rest = text t ∷ rest
spell_member (member_integer n) rest = number n ∷ rest
spell_member (member_negative n) rest = mark m.Minus ∷ number n ∷ rest

-- ---- constructors and items

abbrev pub spell_piece : Spelling Piece
spell_piece (piece_word w) rest = word w ∷ rest
spell_piece (piece_text t) rest = text t ∷ rest
spell_piece (piece_blank t) rest = blank t ∷ rest
spell_piece (piece_caret t) rest = caret t ∷ rest
spell_piece (piece_char t) rest = char t ∷ rest

abbrev pub spell_section : Spelling Section
spell_section (statements body) rest = spell_body body rest
spell_section unimplemented rest = keyword k.Unimpl ∷ rest

abbrev pub spell_constructor : Spelling Constructor
spell_constructor c rest =
    spell_option spell_name c.table (mark m.Colon ∷ spell_all spell_piece c.display (keyword k.Is
    ∷ spell_pattern c.pattern (spell_option spell_actions c.actions (spell_section c.section rest))))

abbrev pub spell_head : Spelling Head
spell_head h rest =
    keyword k.With ∷ spell_option spell_name h.table (mark m.Colon ∷ spell_option spell_pattern h.pattern (spell_option spell_actions h.actions (mark m.OpenBrace ∷ rest)))

abbrev pub spell_inside : Spelling Inside
spell_inside nothing rest = rest
spell_inside (constructor_then c more) rest = spell_constructor c (spell_inside more rest)
spell_inside (block_then h inside more) rest = spell_head h (spell_inside inside (mark m.CloseBrace ∷ spell_inside more rest))

abbrev pub spell_macro : Spelling Macro
spell_macro d rest =
    keyword k.Macro ∷ name d.name ∷ mark m.Open ∷ spell_separated spell_name d.parameters (mark m.Close ∷ spell_body d.body rest)

abbrev pub spell_item : Spelling Item
spell_item (define d) rest = keyword k.Define ∷ spell_definition d (mark m.Semicolon ∷ rest)
spell_item (attach_list kind names members) rest =
    keyword k.Attach ∷ keyword (kind_word kind) ∷ spell_names names (mark m.OpenBracket ∷ spell_all spell_member members (mark m.CloseBracket ∷ mark m.Semicolon ∷ rest))
spell_item (attach_one kind names member) rest =
    keyword k.Attach ∷ keyword (kind_word kind) ∷ spell_names names (spell_member member (mark m.Semicolon ∷ rest))
spell_item (macro d) rest = spell_macro d rest
spell_item (constructor c) rest = spell_constructor c rest
spell_item (block h inside) rest = spell_head h (spell_inside inside (mark m.CloseBrace ∷ rest))

-- the token list of a specification
abbrev pub spell : List Item → List Sym
spell items = spell_all spell_item items []
