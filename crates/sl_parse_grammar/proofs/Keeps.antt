-- A spelling that is put before two lists of symbols: what holds of two lists, and of both with one symbol more in
-- front, holds of both behind the spelling of a tree.
use Rattle.std.proofs.Common.{ℕ, List, [], ◌∷◌, Option, None, Some}
use Rattle.sl_ast.specs.Spelling.{Spelling, spell_name, spell_all, spell_commas, spell_separated, spell_option, spell_space, spell_size, spell_expression, spell_arguments, spell_more, spell_pattern, spell_operand, spell_action, spell_actions, spell_star, spell_value, spell_left, spell_label, spell_direct, spell_computed, spell_dest, spell_target, spell_exported, spell_statement, spell_body, spell_order, spell_space_attribute, spell_bit_range, spell_attribute, spell_field, spell_names, spell_definition, spell_member, spell_piece, spell_section, spell_constructor, spell_head, spell_inside, spell_macro, spell_item}
use Rattle.sl_ast.specs.Symbols.{Sym}
use Rattle.sl_ast.specs.Trees.{Name, Expression, Expressions, integer, named, paren, call, sized, dropped, bits, prefix, star, binary, no_more, with_more, Pattern, bare, constraint, group, ellipsis, joined, Operand, by_name, by_integer, Action, set, global_set, StarForm, Left, left_name, left_bits, left_star, Direct, to_label, to_operand, Dest, direct, computed, Target, calls, calls_computed, Exported, exports, exports_star, Statement, local, declare, assign, goto, branch, call_to, return, build, export, invoke, label, SpaceAttribute, of_type, of_size, of_word_size, is_default, BitRange, Field, Names, one, several, Definition, endian, alignment, space, bit_ranges, pcode_ops, token, context, registers, Member, member_word, member_text, member_integer, member_negative, Piece, piece_word, piece_text, piece_blank, piece_caret, piece_char, Section, statements, unimplemented, Constructor, Head, Inside, nothing, constructor_then, block_then, Macro, Item, define, attach_list, attach_one, macro, constructor, block}
use Rattle.sl_ast.specs.declared.definitions.ByteOrder.{ByteOrder}
use Rattle.sl_ast.specs.declared.definitions.FieldAttribute.{FieldAttribute}

module _ (R : List Sym → List Sym → Type 0) (step : (x : Sym) (xs ys : List Sym) → R xs ys → R (x ∷ xs) (x ∷ ys)) where
  -- put before two lists, it keeps them together
  abbrev pub Keeps : (List Sym → List Sym) → Type 0
  Keeps front = (xs ys : List Sym) → R xs ys → R (front xs) (front ys)

  pub keeps_symbol : (x : Sym) → Keeps (λ rest. x ∷ rest)
  keeps_symbol x xs ys h = step x xs ys h

  -- ---- lists and parts that may lack

  pub keeps_all : {A : Type 0} (spell : Spelling A) → ((a : A) → Keeps (spell a)) → (as' : List A) → Keeps (spell_all spell as')
  keeps_all spell keeps [] xs ys h = h
  keeps_all spell keeps (a ∷ as') xs ys h = keeps a _ _ (keeps_all spell keeps as' xs ys h)

  pub keeps_commas : {A : Type 0} (spell : Spelling A) → ((a : A) → Keeps (spell a)) → (as' : List A) → Keeps (spell_commas spell as')
  keeps_commas spell keeps [] xs ys h = h
  keeps_commas spell keeps (a ∷ as') xs ys h = step _ _ _ (keeps a _ _ (keeps_commas spell keeps as' xs ys h))

  pub keeps_separated : {A : Type 0} (spell : Spelling A) → ((a : A) → Keeps (spell a)) → (as' : List A) → Keeps (spell_separated spell as')
  keeps_separated spell keeps [] xs ys h = h
  keeps_separated spell keeps (a ∷ as') xs ys h = keeps a _ _ (keeps_commas spell keeps as' xs ys h)

  pub keeps_option : {A : Type 0} (spell : Spelling A) → ((a : A) → Keeps (spell a)) → (x : Option A) → Keeps (spell_option spell x)
  keeps_option spell keeps None xs ys h = h
  keeps_option spell keeps (Some a) xs ys h = keeps a xs ys h

  pub keeps_name : (w : Name) → Keeps (spell_name w)
  keeps_name w xs ys h = step _ _ _ h

  -- ---- expressions and patterns

  pub keeps_space : (w : Name) → Keeps (spell_space w)
  keeps_space w xs ys h = step _ _ _ (step _ _ _ (step _ _ _ h))

  pub keeps_size : (n : ℕ) → Keeps (spell_size n)
  keeps_size n xs ys h = step _ _ _ (step _ _ _ h)

  mutual
    pub keeps_expression : (e : Expression) → Keeps (spell_expression e)
    keeps_expression (integer n) xs ys h = step _ _ _ h
    keeps_expression (named w) xs ys h = step _ _ _ h
    keeps_expression (paren e) xs ys h = step _ _ _ (keeps_expression e _ _ (step _ _ _ h))
    keeps_expression (call w es) xs ys h = step _ _ _ (step _ _ _ (keeps_arguments es _ _ (step _ _ _ h)))
    keeps_expression (sized e n) xs ys h = keeps_expression e _ _ (step _ _ _ (step _ _ _ h))
    keeps_expression (dropped e n) xs ys h = keeps_expression e _ _ (step _ _ _ (step _ _ _ (step _ _ _ h)))
    keeps_expression (bits e l c) xs ys h = keeps_expression e _ _ (step _ _ _ (step _ _ _ (step _ _ _ (step _ _ _ (step _ _ _ h)))))
    keeps_expression (prefix op e) xs ys h = step _ _ _ (keeps_expression e xs ys h)
    keeps_expression (star place width e) xs ys h =
        step _ _ _ (keeps_option spell_space keeps_space place _ _ (keeps_option spell_size keeps_size width _ _ (keeps_expression e xs ys h)))
    keeps_expression (binary op l r) xs ys h = keeps_expression l _ _ (step _ _ _ (keeps_expression r xs ys h))

    pub keeps_arguments : (es : Expressions) → Keeps (spell_arguments es)
    keeps_arguments no_more xs ys h = h
    keeps_arguments (with_more e es) xs ys h = keeps_expression e _ _ (keeps_more es xs ys h)

    pub keeps_more : (es : Expressions) → Keeps (spell_more es)
    keeps_more no_more xs ys h = h
    keeps_more (with_more e es) xs ys h = step _ _ _ (keeps_expression e _ _ (keeps_more es xs ys h))

  pub keeps_pattern : (p : Pattern) → Keeps (spell_pattern p)
  keeps_pattern (bare w) xs ys h = step _ _ _ h
  keeps_pattern (constraint w rel e) xs ys h = step _ _ _ (step _ _ _ (keeps_expression e xs ys h))
  keeps_pattern (group p) xs ys h = step _ _ _ (keeps_pattern p _ _ (step _ _ _ h))
  keeps_pattern (ellipsis p) xs ys h = keeps_pattern p _ _ (step _ _ _ h)
  keeps_pattern (joined op p q) xs ys h = keeps_pattern p _ _ (step _ _ _ (keeps_pattern q xs ys h))

  -- ---- actions and statements

  pub keeps_operand : (x : Operand) → Keeps (spell_operand x)
  keeps_operand (by_name w) xs ys h = step _ _ _ h
  keeps_operand (by_integer n) xs ys h = step _ _ _ h

  pub keeps_action : (x : Action) → Keeps (spell_action x)
  keeps_action (set w e) xs ys h = step _ _ _ (step _ _ _ (keeps_expression e _ _ (step _ _ _ h)))
  keeps_action (global_set at' w) xs ys h =
      step _ _ _ (step _ _ _ (keeps_operand at' _ _ (step _ _ _ (step _ _ _ (step _ _ _ (step _ _ _ h))))))

  pub keeps_actions : (xs' : List Action) → Keeps (spell_actions xs')
  keeps_actions acts xs ys h = step _ _ _ (keeps_all spell_action keeps_action acts _ _ (step _ _ _ h))

  pub keeps_star : (form : StarForm) → Keeps (spell_star form)
  keeps_star form xs ys h =
      step _ _ _ (keeps_option spell_space keeps_space form.space _ _ (keeps_option spell_size keeps_size form.size xs ys h))

  pub keeps_value : (e : Expression) → Keeps (spell_value e)
  keeps_value e xs ys h = step _ _ _ (keeps_expression e xs ys h)

  pub keeps_left : (left : Left) → Keeps (spell_left left)
  keeps_left (left_name w) xs ys h = step _ _ _ h
  keeps_left (left_bits w l c) xs ys h = step _ _ _ (step _ _ _ (step _ _ _ (step _ _ _ (step _ _ _ (step _ _ _ h)))))
  keeps_left (left_star form e) xs ys h = keeps_star form _ _ (keeps_expression e xs ys h)

  pub keeps_label : (w : Name) → Keeps (spell_label w)
  keeps_label w xs ys h = step _ _ _ (step _ _ _ (step _ _ _ h))

  pub keeps_direct : (to : Direct) → Keeps (spell_direct to)
  keeps_direct (to_label w) xs ys h = keeps_label w xs ys h
  keeps_direct (to_operand x) xs ys h = keeps_operand x xs ys h

  pub keeps_computed : (e : Expression) → Keeps (spell_computed e)
  keeps_computed e xs ys h = step _ _ _ (keeps_expression e _ _ (step _ _ _ h))

  pub keeps_dest : (to : Dest) → Keeps (spell_dest to)
  keeps_dest (direct to) xs ys h = keeps_direct to xs ys h
  keeps_dest (computed e) xs ys h = keeps_computed e xs ys h

  pub keeps_target : (to : Target) → Keeps (spell_target to)
  keeps_target (calls x) xs ys h = keeps_operand x xs ys h
  keeps_target (calls_computed e) xs ys h = keeps_computed e xs ys h

  pub keeps_exported : (x : Exported) → Keeps (spell_exported x)
  keeps_exported (exports w) xs ys h = step _ _ _ h
  keeps_exported (exports_star form pointer) xs ys h = keeps_star form _ _ (keeps_operand pointer xs ys h)

  pub keeps_statement : (s : Statement) → Keeps (spell_statement s)
  keeps_statement (local w size value) xs ys h =
      step _ _ _ (step _ _ _ (keeps_option spell_size keeps_size size _ _ (keeps_option spell_value keeps_value value _ _ (step _ _ _ h))))
  keeps_statement (declare w n e) xs ys h = step _ _ _ (step _ _ _ (step _ _ _ (step _ _ _ (keeps_expression e _ _ (step _ _ _ h)))))
  keeps_statement (assign left e) xs ys h = keeps_left left _ _ (step _ _ _ (keeps_expression e _ _ (step _ _ _ h)))
  keeps_statement (goto to) xs ys h = step _ _ _ (keeps_dest to _ _ (step _ _ _ h))
  keeps_statement (branch e to) xs ys h = step _ _ _ (keeps_expression e _ _ (step _ _ _ (keeps_direct to _ _ (step _ _ _ h))))
  keeps_statement (call_to to) xs ys h = step _ _ _ (keeps_target to _ _ (step _ _ _ h))
  keeps_statement (return e) xs ys h = step _ _ _ (keeps_computed e _ _ (step _ _ _ h))
  keeps_statement (build w) xs ys h = step _ _ _ (step _ _ _ (step _ _ _ h))
  keeps_statement (export what) xs ys h = step _ _ _ (keeps_exported what _ _ (step _ _ _ h))
  keeps_statement (invoke w es) xs ys h =
      step _ _ _ (step _ _ _ (keeps_separated spell_expression keeps_expression es _ _ (step _ _ _ (step _ _ _ h))))
  keeps_statement (label w) xs ys h = keeps_label w xs ys h

  pub keeps_body : (found : List Statement) → Keeps (spell_body found)
  keeps_body found xs ys h = step _ _ _ (keeps_all spell_statement keeps_statement found _ _ (step _ _ _ h))

  -- ---- definitions and attached lists

  pub keeps_order : (order : ByteOrder) → Keeps (spell_order order)
  keeps_order order xs ys h = step _ _ _ (step _ _ _ (step _ _ _ h))

  pub keeps_space_attribute : (x : SpaceAttribute) → Keeps (spell_space_attribute x)
  keeps_space_attribute (of_type w) xs ys h = step _ _ _ (step _ _ _ (step _ _ _ h))
  keeps_space_attribute (of_size n) xs ys h = step _ _ _ (step _ _ _ (step _ _ _ h))
  keeps_space_attribute (of_word_size n) xs ys h = step _ _ _ (step _ _ _ (step _ _ _ h))
  keeps_space_attribute is_default xs ys h = step _ _ _ h

  pub keeps_bit_range : (x : BitRange) → Keeps (spell_bit_range x)
  keeps_bit_range x xs ys h =
      step _ _ _ (step _ _ _ (step _ _ _ (step _ _ _ (step _ _ _ (step _ _ _ (step _ _ _ (step _ _ _ h)))))))

  pub keeps_attribute : (x : FieldAttribute) → Keeps (spell_attribute x)
  keeps_attribute x xs ys h = step _ _ _ h

  pub keeps_field : (f : Field) → Keeps (spell_field f)
  keeps_field f xs ys h =
      step _ _ _ (step _ _ _ (step _ _ _ (step _ _ _ (step _ _ _ (step _ _ _ (step _ _ _ (keeps_all spell_attribute keeps_attribute f.attributes xs ys h)))))))

  pub keeps_names : (ws : Names) → Keeps (spell_names ws)
  keeps_names (one w) xs ys h = step _ _ _ h
  keeps_names (several ws) xs ys h = step _ _ _ (keeps_all spell_name keeps_name ws _ _ (step _ _ _ h))

  pub keeps_definition : (d : Definition) → Keeps (spell_definition d)
  keeps_definition (endian order) xs ys h = keeps_order order xs ys h
  keeps_definition (alignment n) xs ys h = step _ _ _ (step _ _ _ (step _ _ _ h))
  keeps_definition (space w attributes) xs ys h =
      step _ _ _ (step _ _ _ (keeps_all spell_space_attribute keeps_space_attribute attributes xs ys h))
  keeps_definition (bit_ranges head more) xs ys h =
      step _ _ _ (keeps_bit_range head _ _ (keeps_all spell_bit_range keeps_bit_range more xs ys h))
  keeps_definition (pcode_ops ws) xs ys h = step _ _ _ (keeps_names ws xs ys h)
  keeps_definition (token w size order fields) xs ys h =
      step _ _ _ (step _ _ _ (step _ _ _ (step _ _ _ (step _ _ _ (keeps_option spell_order keeps_order order _ _ (keeps_all spell_field keeps_field fields xs ys h))))))
  keeps_definition (context w fields) xs ys h = step _ _ _ (step _ _ _ (keeps_all spell_field keeps_field fields xs ys h))
  keeps_definition (registers w offset size ws) xs ys h =
      step _ _ _ (step _ _ _ (step _ _ _ (step _ _ _ (step _ _ _ (step _ _ _ (step _ _ _ (keeps_names ws xs ys h)))))))

  pub keeps_member : (x : Member) → Keeps (spell_member x)
  keeps_member (member_word w) xs ys h = step _ _ _ h
  keeps_member (member_text t) xs ys h = step _ _ _ h
  keeps_member (member_integer n) xs ys h = step _ _ _ h
  keeps_member (member_negative n) xs ys h = step _ _ _ (step _ _ _ h)

  -- ---- constructors and items

  pub keeps_piece : (x : Piece) → Keeps (spell_piece x)
  keeps_piece (piece_word w) xs ys h = step _ _ _ h
  keeps_piece (piece_text t) xs ys h = step _ _ _ h
  keeps_piece (piece_blank t) xs ys h = step _ _ _ h
  keeps_piece (piece_caret t) xs ys h = step _ _ _ h
  keeps_piece (piece_char t) xs ys h = step _ _ _ h

  pub keeps_section : (x : Section) → Keeps (spell_section x)
  keeps_section (statements found) xs ys h = keeps_body found xs ys h
  keeps_section unimplemented xs ys h = step _ _ _ h

  pub keeps_constructor : (c : Constructor) → Keeps (spell_constructor c)
  keeps_constructor c xs ys h =
      keeps_option spell_name keeps_name c.table _ _ (step _ _ _ (keeps_all spell_piece keeps_piece c.display _ _ (step _ _ _
      (keeps_pattern c.pattern _ _ (keeps_option spell_actions keeps_actions c.actions _ _ (keeps_section c.section xs ys h))))))

  pub keeps_head : (d : Head) → Keeps (spell_head d)
  keeps_head d xs ys h =
      step _ _ _ (keeps_option spell_name keeps_name d.table _ _ (step _ _ _ (keeps_option spell_pattern keeps_pattern d.pattern _ _
      (keeps_option spell_actions keeps_actions d.actions _ _ (step _ _ _ h)))))

  pub keeps_inside : (x : Inside) → Keeps (spell_inside x)
  keeps_inside nothing xs ys h = h
  keeps_inside (constructor_then c more) xs ys h = keeps_constructor c _ _ (keeps_inside more xs ys h)
  keeps_inside (block_then d x more) xs ys h = keeps_head d _ _ (keeps_inside x _ _ (step _ _ _ (keeps_inside more xs ys h)))

  pub keeps_macro : (d : Macro) → Keeps (spell_macro d)
  keeps_macro d xs ys h =
      step _ _ _ (step _ _ _ (step _ _ _ (keeps_separated spell_name keeps_name d.parameters _ _ (step _ _ _ (keeps_body d.body xs ys h)))))

  pub keeps_item : (x : Item) → Keeps (spell_item x)
  keeps_item (define d) xs ys h = step _ _ _ (keeps_definition d _ _ (step _ _ _ h))
  keeps_item (attach_list kind ws members) xs ys h =
      step _ _ _ (step _ _ _ (keeps_names ws _ _ (step _ _ _ (keeps_all spell_member keeps_member members _ _ (step _ _ _ (step _ _ _ h))))))
  keeps_item (attach_one kind ws member) xs ys h = step _ _ _ (step _ _ _ (keeps_names ws _ _ (keeps_member member _ _ (step _ _ _ h))))
  keeps_item (macro d) xs ys h = keeps_macro d xs ys h
  keeps_item (constructor c) xs ys h = keeps_constructor c xs ys h
  keeps_item (block d x) xs ys h = keeps_head d _ _ (keeps_inside x _ _ (step _ _ _ h))
