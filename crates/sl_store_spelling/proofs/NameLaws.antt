-- The names among the terminals of each tree.
use Rattle.std.proofs.Common.{◌≡◌, ℕ, zero, suc, ◌<◌, ◌≤◌, Bool, true, false, ◌&&◌, ◌||◌, ◌==◌, if◌then◌else◌, nat_le, List, [], ◌∷◌, ◌++◌, All, length, map, Option, None, Some, refl, arith}
use Rattle.std.specs.Str.{IsUtf8}
use Rattle.std.proofs.lemmas.Bool.Decides.{nat_tests}
use Rattle.std.proofs.lemmas.List.Elements.{All-nil, All-cons}
use Rattle.std.proofs.lemmas.Str.{IsUtf8-from_ascii}
use Rattle.std.proofs.lemmas.Str.Ascii.{IsAscii-from_all}
use Rattle.sl_ast.specs.Operators.{prefix_mark, binary_mark, relation_mark, pattern_mark}
use Rattle.sl_ast.specs.Spelling.{Spelling, name, keyword, spell_name, spell_all, spell_commas, spell_separated, spell_option, spell_space, spell_size, spell_expression, spell_arguments, spell_more, spell_pattern, spell_operand, spell_action, spell_actions, spell_star, spell_value, spell_left, spell_label, spell_direct, spell_computed, spell_dest, spell_target, spell_exported, spell_statement, spell_body, spell_order, spell_space_attribute, spell_bit_range, spell_attribute, spell_field, spell_names, spell_definition, spell_member, spell_piece, spell_section, spell_constructor, spell_head, spell_inside, spell_macro, spell_item, spell, order_word, attribute_word, kind_word}
use Rattle.sl_ast.specs.Symbols.{Word, plain, quoted, Sym, number, word, text, mark, blank, caret, char}
use Rattle.sl_ast.specs.Trees.{Name, Expression, Expressions, integer, named, paren, call, sized, dropped, bits, prefix, star, binary, no_more, with_more, Pattern, bare, constraint, group, ellipsis, joined, Operand, by_name, by_integer, Action, set, global_set, StarForm, Left, left_name, left_bits, left_star, Direct, to_label, to_operand, Dest, direct, computed, Target, calls, calls_computed, Exported, exports, exports_star, Statement, local, declare, assign, goto, branch, call_to, return, build, export, invoke, label, SpaceAttribute, of_type, of_size, of_word_size, is_default, BitRange, Field, Names, one, several, Definition, endian, alignment, space, bit_ranges, pcode_ops, token, context, registers, Member, member_word, member_text, member_integer, member_negative, Piece, piece_word, piece_text, piece_blank, piece_caret, piece_char, Section, statements, unimplemented, Constructor, Head, Inside, nothing, constructor_then, block_then, Macro, Item, define, attach_list, attach_one, macro, constructor, block}
use Rattle.sl_ast.specs.Validity.{Each, IfWritten, deepest}
use Rattle.sl_ast.specs.declared.definitions.ByteOrder.{ByteOrder}
use Rattle.sl_ast.specs.declared.definitions.FieldAttribute.{FieldAttribute}
use Rattle.sl_ast.specs.declared.symbols.Keyword.TheVariants as k
use Rattle.sl_ast.specs.declared.symbols.Mark.TheVariants as m
use Rattle.sl_store_format.specs.Constructors.{PieceLeaves, ShownWordLeaves, SectionLeaves, ActionsLeaves, ConstructorLeaves, HeadLeaves, MacroLeaves}
use Rattle.sl_store_format.specs.Definitions.{AttributeLeaves, RangeLeaves, FieldLeaves, NamesLeaves, DefinitionLeaves, WordLeaves, MemberLeaves}
use Rattle.sl_store_format.specs.Expressions.{Leaves, AllLeaves}
use Rattle.sl_store_format.specs.Items.{ItemLeaves, GoodPlaced, GoodInner, GoodInners, Inner, constructor_at, block_at, Inners, no_inner, with_inner, Placed, item_at, with_at}
use Rattle.sl_store_format.specs.Packed.{Written, IsPackable, inside_of, item_of}
use Rattle.sl_store_format.specs.Actions.{OperandLeaves, ActionLeaves}
use Rattle.sl_store_format.specs.PatternBytes.{PatternLeaves}
use Rattle.sl_store_format.specs.Statements.{StarLeaves, LeftLeaves, DirectLeaves, DestLeaves, TargetLeaves, ExportedLeaves, StatementLeaves}
use Rattle.sl_store_bytes.specs.Lexemes.{Follow, Follows, IsRead, put_after}
use Rattle.sl_store_bytes.specs.Lists.{AreGood, AreEach, AreSeparated}
use Rattle.sl_store_bytes.specs.Numbers.{greatest}
use Rattle.sl_store_bytes.specs.Words.{IsName, IsShownName, is_between, begins_word, is_word_byte, goes_on, goes_on_undotted, is_no_dot, is_whole, whole_follow, word_follow, shown_follow, any_word}
use Rattle.sl_store_format.proofs.Goods.{and_left, and_right, true_le}
use Rattle.sl_store_spelling.specs.Costs.{IsTerminal}

-- ---- the bytes of words

one_of : {P : Type 0} (p q : Bool) → (p || q) ≡ true → (p ≡ true → P) → (q ≡ true → P) → P
one_of true q h f g = f refl
one_of false q h f g = g h

between : (low high b : ℕ) → is_between low high b ≡ true → b ≤ high
between low high b h = true_le b high (and_right (nat_le low b) (nat_le b high) h)

same : (b c : ℕ) → (b == c) ≡ true → b ≡ c
same b c h = grind (arith, nat_tests)

small_first : (b : ℕ) → begins_word b ≡ true → b < 128
small_first b h =
    one_of (is_between 65 90 b) _ h (λ upper. omega (arith, between 65 90 b upper))
    (λ more. one_of (is_between 97 122 b) _ more (λ lower. omega (arith, between 97 122 b lower))
    (λ last. one_of (b == 95) (b == 46) last (λ line. omega (arith, same b 95 line)) (λ dot. omega (arith, same b 46 dot))))

small_byte : (b : ℕ) → is_word_byte b ≡ true → b < 128
small_byte b h = one_of (begins_word b) (is_between 48 57 b) h (small_first b) (λ digit. omega (arith, between 48 57 b digit))

small_by : (t : Bool) (b : ℕ) → (if t then begins_word b else is_word_byte b) ≡ true → b < 128
small_by true b h = small_first b h
small_by false b h = small_byte b h

all_small : (follow : Follow) → ((left : ℕ) (before : List ℕ) (b : ℕ) → follow left before b ≡ true → b < 128)
    → (before w : List ℕ) → AreGood (Follows follow) put_after (length w) before w → All (λ (b : ℕ). b < 128) w
all_small follow small before [] good = All-nil (λ (b : ℕ). b < 128)
all_small follow small before (b ∷ w) good = All-cons (λ (c : ℕ). c < 128) b w (small (length w) before b good.0) (all_small follow small (put_after before b) w good.1)

word_small : (left : ℕ) (before : List ℕ) (b : ℕ) → word_follow any_word left before b ≡ true → b < 128
unfolding whole_follow
word_small left before b h =
    small_by (length before == 0) b (and_left (goes_on before b) (is_no_dot before b) (and_left (goes_on_undotted before b) (is_whole any_word left (put_after before b)) h))

shown_small : (left : ℕ) (before : List ℕ) (b : ℕ) → shown_follow any_word left before b ≡ true → b < 128
unfolding whole_follow
shown_small left before b h = small_by (length before == 0) b (and_left (goes_on before b) (is_whole any_word left (put_after before b)) h)

-- a name is UTF-8
text_of : (w : Name) → IsName w → IsUtf8 w
text_of w good = IsUtf8-from_ascii w (IsAscii-from_all w (all_small (word_follow any_word) word_small [] w good.0.good))

shown_text : (w : Name) → IsShownName w → IsUtf8 w
shown_text w good = IsUtf8-from_ascii w (IsAscii-from_all w (all_small (shown_follow any_word) shown_small [] w good.0.good))

-- ---- lists and parts that are optional

abbrev Are : List Sym → Type 0
Are = Each IsTerminal

-- the terminals of good trees are such, before others that are
abbrev Spells : {A : Type 0} → Spelling A → (A → Type 0) → Type 0
Spells {A = A} spelled Good = (a : A) (rest : List Sym) → Good a → Are rest → Are (spelled a rest)

module _ {A : Type 0} (spelled : Spelling A) (Good : A → Type 0) (each : Spells spelled Good) where
  spells_all : Spells (spell_all spelled) (Each Good)
  spells_all [] rest good h = h
  spells_all (x ∷ xs) rest good h = each x (spell_all spelled xs rest) good.0 (spells_all xs rest good.1 h)

  spells_list : Spells (spell_all spelled) (AreEach Good)
  spells_list xs rest good h = spells_all xs rest good.1 h

  spells_commas : Spells (spell_commas spelled) (Each Good)
  spells_commas [] rest good h = h
  spells_commas (x ∷ xs) rest good h = (tt, each x (spell_commas spelled xs rest) good.0 (spells_commas xs rest good.1 h))

  spells_separated : Spells (spell_separated spelled) (AreSeparated Good)
  spells_separated [] rest good h = h
  spells_separated (x ∷ xs) rest good h = each x (spell_commas spelled xs rest) good.0 (spells_commas xs rest good.1.1 h)

  spells_option : Spells (spell_option spelled) (IfWritten Good)
  spells_option None rest good h = h
  spells_option (Some x) rest good h = each x rest good h

spells_name : Spells spell_name IsName
spells_name w rest good h = (text_of w good, h)

-- ---- expressions

spells_space : (place : Option Name) (rest : List Sym) → IfWritten IsName place → Are rest → Are (spell_option spell_space place rest)
spells_space None rest good h = h
spells_space (Some w) rest good h = (tt, (text_of w good, (tt, h)))

spells_size : (n : Option ℕ) (rest : List Sym) → Are rest → Are (spell_option spell_size n rest)
spells_size None rest h = h
spells_size (Some n) rest h = (tt, (tt, h))

mutual
  spells_expression : (e : Expression) (rest : List Sym) → Leaves e → Are rest → Are (spell_expression e rest)
  spells_expression (integer n) rest good h = (tt, h)
  spells_expression (named w) rest good h = (text_of w good, h)
  spells_expression (paren e) rest good h = (tt, spells_expression e (mark m.Close ∷ rest) good (tt, h))
  spells_expression (call w es) rest good h = (text_of w good.0, (tt, spells_arguments es (mark m.Close ∷ rest) good.2 (tt, h)))
  spells_expression (sized e n) rest good h = spells_expression e (mark m.Colon ∷ number n ∷ rest) good (tt, (tt, h))
  spells_expression (dropped e n) rest good h = spells_expression e (mark m.Open ∷ number n ∷ mark m.Close ∷ rest) good.0 (tt, (tt, (tt, h)))
  spells_expression (bits e l c) rest good h =
      spells_expression e (mark m.OpenBracket ∷ number l ∷ mark m.Comma ∷ number c ∷ mark m.CloseBracket ∷ rest) good.0 (tt, (tt, (tt, (tt, (tt, h)))))
  spells_expression (prefix op e) rest good h = (tt, spells_expression e rest good h)
  spells_expression (star place width e) rest good h =
      (tt, spells_space place (spell_option spell_size width (spell_expression e rest)) good.0 (spells_size width (spell_expression e rest) (spells_expression e rest good.1 h)))
  spells_expression (binary op l r) rest good h = spells_expression l (mark (binary_mark op) ∷ spell_expression r rest) good.0 (tt, spells_expression r rest good.1 h)

  spells_arguments : (es : Expressions) (rest : List Sym) → AllLeaves es → Are rest → Are (spell_arguments es rest)
  spells_arguments no_more rest good h = h
  spells_arguments (with_more e es) rest good h = spells_expression e (spell_more es rest) good.0 (spells_more es rest good.1 h)

  spells_more : (es : Expressions) (rest : List Sym) → AllLeaves es → Are rest → Are (spell_more es rest)
  spells_more no_more rest good h = h
  spells_more (with_more e es) rest good h = (tt, spells_expression e (spell_more es rest) good.0 (spells_more es rest good.1 h))

-- ---- patterns and actions

spells_pattern : Spells spell_pattern PatternLeaves
spells_pattern (bare w) rest good h = (text_of w good, h)
spells_pattern (constraint w rel e) rest good h = (text_of w good.0, (tt, spells_expression e rest good.1 h))
spells_pattern (group p) rest good h = (tt, spells_pattern p (mark m.Close ∷ rest) good (tt, h))
spells_pattern (ellipsis p) rest good h = spells_pattern p (mark m.Ellipsis ∷ rest) good (tt, h)
spells_pattern (joined op p q) rest good h = spells_pattern p (mark (pattern_mark op) ∷ spell_pattern q rest) good.0 (tt, spells_pattern q rest good.1 h)

spells_operand : Spells spell_operand OperandLeaves
spells_operand (by_name w) rest good h = (text_of w good, h)
spells_operand (by_integer n) rest good h = (tt, h)

spells_action : Spells spell_action ActionLeaves
spells_action (set w e) rest good h = (text_of w good.0, (tt, spells_expression e (mark m.Semicolon ∷ rest) good.1 (tt, h)))
spells_action (global_set at w) rest good h =
    (tt, (tt, spells_operand at (mark m.Comma ∷ name w ∷ mark m.Close ∷ mark m.Semicolon ∷ rest) good.0 (tt, (text_of w good.1, (tt, (tt, h))))))

spells_actions : Spells (spell_option spell_actions) ActionsLeaves
spells_actions None rest good h = h
spells_actions (Some as') rest good h = (tt, spells_list spell_action ActionLeaves spells_action as' (mark m.CloseBracket ∷ rest) good (tt, h))

-- ---- statements

spells_star : Spells spell_star StarLeaves
spells_star form rest good h = (tt, spells_space form.space (spell_option spell_size form.size rest) good (spells_size form.size rest h))

spells_left : Spells spell_left LeftLeaves
spells_left (left_name w) rest good h = (text_of w good, h)
spells_left (left_bits w l c) rest good h = (text_of w good.0, (tt, (tt, (tt, (tt, (tt, h))))))
spells_left (left_star form e) rest good h = spells_star form (spell_expression e rest) good.0 (spells_expression e rest good.1 h)

spells_direct : Spells spell_direct DirectLeaves
spells_direct (to_label w) rest good h = (tt, (text_of w good, (tt, h)))
spells_direct (to_operand o) rest good h = spells_operand o rest good h

spells_computed : Spells spell_computed Leaves
spells_computed e rest good h = (tt, spells_expression e (mark m.CloseBracket ∷ rest) good (tt, h))

spells_dest : Spells spell_dest DestLeaves
spells_dest (direct to) rest good h = spells_direct to rest good h
spells_dest (computed e) rest good h = spells_computed e rest good h

spells_target : Spells spell_target TargetLeaves
spells_target (calls o) rest good h = spells_operand o rest good h
spells_target (calls_computed e) rest good h = spells_computed e rest good h

spells_exported : Spells spell_exported ExportedLeaves
spells_exported (exports w) rest good h = (text_of w good, h)
spells_exported (exports_star form pointer) rest good h = spells_star form (spell_operand pointer rest) good.0 (spells_operand pointer rest good.1 h)

spells_value : Spells spell_value Leaves
spells_value e rest good h = (tt, spells_expression e rest good h)

spells_statement : Spells spell_statement StatementLeaves
spells_statement (local w size value) rest good h =
    (tt, (text_of w good.0, spells_size size (spell_option spell_value value (mark m.Semicolon ∷ rest)) (spells_option spell_value Leaves spells_value value (mark m.Semicolon ∷ rest) good.1 (tt, h))))
spells_statement (declare w n e) rest good h = (text_of w good.0, (tt, (tt, (tt, spells_expression e (mark m.Semicolon ∷ rest) good.1 (tt, h)))))
spells_statement (assign to e) rest good h =
    spells_left to (mark m.Equals ∷ spell_expression e (mark m.Semicolon ∷ rest)) good.0 (tt, spells_expression e (mark m.Semicolon ∷ rest) good.1 (tt, h))
spells_statement (goto to) rest good h = (tt, spells_dest to (mark m.Semicolon ∷ rest) good (tt, h))
spells_statement (branch e to) rest good h =
    (tt, spells_expression e (keyword k.Goto ∷ spell_direct to (mark m.Semicolon ∷ rest)) good.0 (tt, spells_direct to (mark m.Semicolon ∷ rest) good.1 (tt, h)))
spells_statement (call_to to) rest good h = (tt, spells_target to (mark m.Semicolon ∷ rest) good (tt, h))
spells_statement (return e) rest good h = (tt, spells_computed e (mark m.Semicolon ∷ rest) good (tt, h))
spells_statement (build w) rest good h = (tt, (text_of w good, (tt, h)))
spells_statement (export what) rest good h = (tt, spells_exported what (mark m.Semicolon ∷ rest) good (tt, h))
spells_statement (invoke w es) rest good h =
    (text_of w good.0, (tt, spells_separated spell_expression Leaves spells_expression es (mark m.Close ∷ mark m.Semicolon ∷ rest) good.1 (tt, (tt, h))))
spells_statement (label w) rest good h = (tt, (text_of w good, (tt, h)))

spells_body : (body : List Statement) (rest : List Sym) → AreEach StatementLeaves body → Are rest → Are (spell_body body rest)
spells_body body rest good h = (tt, spells_list spell_statement StatementLeaves spells_statement body (mark m.CloseBrace ∷ rest) good (tt, h))

-- ---- definitions

spells_attribute : Spells spell_space_attribute AttributeLeaves
spells_attribute (of_type w) rest good h = (tt, (tt, (text_of w good, h)))
spells_attribute (of_size n) rest good h = (tt, (tt, (tt, h)))
spells_attribute (of_word_size n) rest good h = (tt, (tt, (tt, h)))
spells_attribute is_default rest good h = (tt, h)

spells_range : Spells spell_bit_range RangeLeaves
spells_range r rest good h = (text_of r.name good.0, (tt, (text_of r.register good.1, (tt, (tt, (tt, (tt, (tt, h))))))))

spells_order : (o : Option ByteOrder) (rest : List Sym) → Are rest → Are (spell_option spell_order o rest)
spells_order None rest h = h
spells_order (Some o) rest h = (tt, (tt, (tt, h)))

spells_marks : (as' : List FieldAttribute) (rest : List Sym) → Are rest → Are (spell_all spell_attribute as' rest)
spells_marks [] rest h = h
spells_marks (a ∷ as') rest h = (tt, spells_marks as' rest h)

spells_field : Spells spell_field FieldLeaves
spells_field f rest good h = (text_of f.name good.0, (tt, (tt, (tt, (tt, (tt, (tt, spells_marks f.attributes rest h)))))))

spells_names : Spells spell_names NamesLeaves
spells_names (one w) rest good h = (text_of w good, h)
spells_names (several ws) rest good h = (tt, spells_list spell_name IsName spells_name ws (mark m.CloseBracket ∷ rest) good (tt, h))

spells_definition : Spells spell_definition DefinitionLeaves
spells_definition (endian order) rest good h = (tt, (tt, (tt, h)))
spells_definition (alignment n) rest good h = (tt, (tt, (tt, h)))
spells_definition (space w attributes) rest good h = (tt, (text_of w good.0, spells_list spell_space_attribute AttributeLeaves spells_attribute attributes rest good.1 h))
spells_definition (bit_ranges r more) rest good h =
    (tt, spells_range r (spell_all spell_bit_range more rest) good.0 (spells_list spell_bit_range RangeLeaves spells_range more rest good.1 h))
spells_definition (pcode_ops names) rest good h = (tt, spells_names names rest good h)
spells_definition (token w n order fields) rest good h =
    (tt, (text_of w good.0, (tt, (tt, (tt, spells_order order (spell_all spell_field fields rest) (spells_list spell_field FieldLeaves spells_field fields rest good.2 h))))))
spells_definition (context w fields) rest good h = (tt, (text_of w good.0, spells_list spell_field FieldLeaves spells_field fields rest good.1 h))
spells_definition (registers w offset size names) rest good h = (text_of w good.0, (tt, (tt, (tt, (tt, (tt, (tt, spells_names names rest good.3 h)))))))

spells_word : (w : Word) → WordLeaves w → IsTerminal (word w)
spells_word (plain w) good = text_of w good
spells_word (quoted keyword) good = tt

spells_shown : (w : Word) → ShownWordLeaves w → IsTerminal (word w)
spells_shown (plain w) good = shown_text w good
spells_shown (quoted keyword) good = tt

spells_member : Spells spell_member MemberLeaves
spells_member (member_word w) rest good h = (spells_word w good, h)
spells_member (member_text t) rest good h = (tt, h)
spells_member (member_integer n) rest good h = (tt, h)
spells_member (member_negative n) rest good h = (tt, (tt, h))

-- ---- constructors and blocks

spells_piece : Spells spell_piece PieceLeaves
spells_piece (piece_word w) rest good h = (spells_shown w good, h)
spells_piece (piece_text t) rest good h = (tt, h)
spells_piece (piece_blank t) rest good h = (tt, h)
spells_piece (piece_caret t) rest good h = (tt, h)
spells_piece (piece_char t) rest good h = (tt, h)

spells_section : Spells spell_section SectionLeaves
spells_section (statements body) rest good h = spells_body body rest good h
spells_section unimplemented rest good h = (tt, h)

spells_table : Spells (spell_option spell_name) (IfWritten IsName)
spells_table = spells_option spell_name IsName spells_name

spells_constructor : Spells spell_constructor ConstructorLeaves
spells_constructor c rest good h =
    let section = spell_section c.section rest in
    let actions = spell_option spell_actions c.actions section in
    let pattern = spell_pattern c.pattern actions in
    let display = spell_all spell_piece c.display (keyword k.Is ∷ pattern) in
    spells_table c.table (mark m.Colon ∷ display) good.table (
      tt,
      spells_list spell_piece PieceLeaves spells_piece c.display (keyword k.Is ∷ pattern) good.display
          (tt, spells_pattern c.pattern actions good.pattern (spells_actions c.actions section good.actions (spells_section c.section rest good.section h))),
    )

spells_head : Spells spell_head HeadLeaves
spells_head d rest good h =
    let actions = spell_option spell_actions d.actions (mark m.OpenBrace ∷ rest) in
    let pattern = spell_option spell_pattern d.pattern actions in (
      tt,
      spells_table d.table (mark m.Colon ∷ pattern) good.table
          (tt, spells_option spell_pattern PatternLeaves spells_pattern d.pattern actions good.pattern (spells_actions d.actions (mark m.OpenBrace ∷ rest) good.actions (tt, h))),
    )

spells_macro : Spells spell_macro MacroLeaves
spells_macro d rest good h = (
  tt,
  (
    text_of d.name good.name,
    (
      tt,
      spells_separated spell_name IsName spells_name d.parameters (mark m.Close ∷ spell_body d.body rest) good.parameters
          (tt, spells_body d.body rest good.body h),
    ),
  ),
)

spells_inside : (files n : ℕ) (is : Inners) (rest : List Sym) → GoodInners files n is → Are rest → Are (spell_inside (inside_of is) rest)
spells_inside files n no_inner rest good h = h
spells_inside files n (with_inner (constructor_at p c) is) rest good h =
    spells_constructor c (spell_inside (inside_of is) rest) good.0.1.1 (spells_inside files n is rest good.1 h)
spells_inside files zero (with_inner (block_at p d js) is) rest good h = absurd good.0
spells_inside files (suc n) (with_inner (block_at p d js) is) rest good h =
    spells_head d (spell_inside (inside_of js) (mark m.CloseBrace ∷ spell_inside (inside_of is) rest)) good.0.1.1
    (spells_inside files n js (mark m.CloseBrace ∷ spell_inside (inside_of is) rest) good.0.3 (tt, spells_inside files (suc n) is rest good.1 h))

-- ---- items

spells_item : Spells spell_item ItemLeaves
spells_item (define d) rest good h = (tt, spells_definition d (mark m.Semicolon ∷ rest) good (tt, h))
spells_item (attach_list kind names members) rest good h = (
  tt,
  (
    tt,
    spells_names names (mark m.OpenBracket ∷ spell_all spell_member members (mark m.CloseBracket ∷ mark m.Semicolon ∷ rest)) good.0
        (tt, spells_list spell_member MemberLeaves spells_member members (mark m.CloseBracket ∷ mark m.Semicolon ∷ rest) good.1 (tt, (tt, h))),
  ),
)
spells_item (attach_one kind names member) rest good h =
    (tt, (tt, spells_names names (spell_member member (mark m.Semicolon ∷ rest)) good.0 (spells_member member (mark m.Semicolon ∷ rest) good.1 (tt, h))))
spells_item (macro d) rest good h = spells_macro d rest good h
spells_item (constructor c) rest good h = spells_constructor c rest good h
spells_item (block d inside) rest good h = absurd good

spells_placed : (files : ℕ) (i : Placed) (rest : List Sym) → GoodPlaced files i → Are rest → Are (spell_item (item_of i) rest)
spells_placed files (item_at p i) rest good h = spells_item i rest good.2 h
spells_placed files (with_at p d is) rest good h =
    spells_head d (spell_inside (inside_of is) (mark m.CloseBrace ∷ rest)) good.1.1 (spells_inside files deepest is (mark m.CloseBrace ∷ rest) good.3 (tt, h))

pub spells_items : (files : ℕ) (is : List Placed) → Each (GoodPlaced files) is → Each IsTerminal (spell (map item_of is))
spells_items files [] good = tt
spells_items files (i ∷ is) good = spells_placed files i (spell (map item_of is)) good.0 (spells_items files is good.1)
