-- What a tree within the limits spells is within them by counting.
use Rattle.std.proofs.Common.{◌≡◌, ℕ, zero, suc, ◌+◌, ◌<◌, ◌≤◌, Bool, true, false, List, [], ◌∷◌, ◌++◌, Option, None, Some, arith, refl, ap, sym, ◌∙◌, append_assoc}
use Rattle.std.specs.Prelude.{nat_lt, if◌then◌else◌}
use Rattle.std.proofs.lemmas.Bool.Decides.{nat_tests}
use Rattle.sl_ast.specs.Operators.{Kind, in_section, in_action, in_constraint, binary_mark, is_section, pattern_mark, prefix_mark, relation_mark}
use Rattle.sl_ast.specs.Spelling.{name, spell_all, spell_commas, spell_separated, spell_option, spell_name, spell_space, spell_size, spell_expression, spell_arguments, spell_more, spell_pattern, spell_operand, spell_action, spell_actions, spell_value, spell_star, spell_statement, spell_body, spell_direct, spell_attribute, spell_order, spell_field, spell_names, spell_space_attribute, spell_bit_range, spell_definition, spell_member, spell_piece, spell_section, spell_constructor, spell_head, spell_inside, spell_item}
use Rattle.sl_ast.specs.Symbols.{plain, quoted, Sym, number, word, mark}
use Rattle.sl_ast.specs.Trees.{Name, Expression, Expressions, integer, named, paren, call, sized, dropped, bits, prefix, star, binary, no_more, with_more, Pattern, bare, constraint, group, ellipsis, joined, Operand, by_name, by_integer, Action, set, global_set, StarForm, left_name, left_bits, left_star, Direct, to_label, to_operand, direct, computed, calls, calls_computed, exports, exports_star, Statement, local, declare, assign, goto, branch, call_to, return, build, export, invoke, label, SpaceAttribute, of_type, of_size, of_word_size, is_default, Field, Names, one, several, Definition, endian, alignment, space, bit_ranges, pcode_ops, token, context, registers, Member, member_word, member_text, member_integer, member_negative, Piece, piece_word, piece_text, piece_blank, piece_caret, piece_char, Section, statements, unimplemented, Constructor, Head, Inside, nothing, constructor_then, block_then, Item, define, attach_list, attach_one, macro, constructor, block}
use Rattle.sl_ast.specs.Validity.{AllBind, Binds, Each, IfWritten, IsAction, IsConstructor, IsExpression, IsHead, IsInside, IsItem, IsPattern, IsPiece, IsSection, IsShownWord, IsStatement, PatternBinds, deepest, heaviest, pattern_weight, space_weight, weight, weights}
use Rattle.sl_ast.specs.declared.definitions.ByteOrder.{ByteOrder}
use Rattle.sl_ast.specs.declared.expressions.BinaryOp.{BinaryOp}
use Rattle.sl_ast.specs.declared.expressions.BinaryOp.TheVariants as b
use Rattle.sl_ast.specs.declared.expressions.PrefixOp.{PrefixOp}
use Rattle.sl_ast.specs.declared.expressions.PrefixOp.TheVariants as p
use Rattle.sl_ast.specs.declared.patterns.PatternOp.{PatternOp}
use Rattle.sl_ast.specs.declared.patterns.PatternOp.TheVariants as j
use Rattle.sl_ast.specs.declared.patterns.Relation.{Relation}
use Rattle.sl_ast.specs.declared.patterns.Relation.TheVariants as r
use Rattle.sl_ast.specs.declared.symbols.Keyword.{Keyword}
use Rattle.sl_ast.specs.declared.symbols.Keyword.TheVariants as k
use Rattle.sl_ast.specs.declared.symbols.Mark.TheVariants as m
use Rattle.sl_parse_faults.specs.Causes.{limit}
use Rattle.sl_parse_faults.specs.Forms.{BeginsATree}
use Rattle.sl_test_laws.specs.Counting as at
use Rattle.sl_test_laws.specs.Counting.{CountedNestingIsAFault, CountedTreesAreWithin, GoesPast, Mode, State, TreesKeepTheCount, counted, counted_from, enter_block, going_on, spend, step}

-- ---- one symbol

pub chosen : (n : ℕ) (most : ℕ) (s : State) (within : Bool) → nat_lt n most ≡ within → n < most → (if within then Some s else None) ≡ Some s
chosen n most s true e less = refl
chosen n most s false e less = let more : most ≤ n = grind (arith, nat_tests) in absurd (omega (arith, more, less))

pub spends : (blocks n : ℕ) (mode : ℕ → Mode) → n < heaviest → spend blocks n mode ≡ Some (blocks, mode (suc n))
spends blocks n mode less = chosen n heaviest (blocks, mode (suc n)) (nat_lt n heaviest) refl less

pub stepped : (blocks next : ℕ) (mode to : Mode) (x : Sym) (xs : List Sym) → step blocks mode x ≡ Some (next, to) → counted_from blocks mode (x ∷ xs) ≡ counted_from next to xs
stepped blocks next mode to x xs e = ap (λ s. going_on s (λ state. counted_from state.0 state.1 xs)) e

-- ---- expressions

-- what the symbols of an expression of this kind do, inside so many brackets, where so many are spent
pub record Counts (blocks : ℕ) (kind : Kind) (mode : ℕ → ℕ → Mode) : Type 0 where
  pub on_number : (d n i : ℕ) → step blocks (mode d n) (number i) ≡ Some (blocks, mode d n)
  pub on_name : (d n : ℕ) (w : Name) → step blocks (mode d n) (name w) ≡ Some (blocks, mode d n)
  pub on_open : (d n : ℕ) → step blocks (mode d n) (mark m.Open) ≡ spend blocks n (mode (suc d))
  pub on_close : (d n : ℕ) → step blocks (mode (suc d) n) (mark m.Close) ≡ Some (blocks, mode d n)
  pub on_binary : (d n : ℕ) (op : BinaryOp) → step blocks (mode d n) (mark (binary_mark op)) ≡ spend blocks n (mode d)
  pub on_prefix : (d n : ℕ) (op : PrefixOp) → step blocks (mode d n) (mark (prefix_mark op)) ≡ spend blocks n (mode d)
  pub on_colon : is_section kind ≡ true → (d n : ℕ) → step blocks (mode d n) (mark m.Colon) ≡ Some (blocks, mode d n)
  pub on_comma : is_section kind ≡ true → (d n : ℕ) → step blocks (mode (suc d) n) (mark m.Comma) ≡ Some (blocks, mode (suc d) n)
  pub on_bracket : is_section kind ≡ true → (d n : ℕ) → step blocks (mode d n) (mark m.OpenBracket) ≡ spend blocks n (mode (suc d))
  pub on_close_bracket : is_section kind ≡ true → (d n : ℕ) → step blocks (mode (suc d) n) (mark m.CloseBracket) ≡ Some (blocks, mode d n)

module _ (blocks : ℕ) (kind : Kind) (mode : ℕ → ℕ → Mode) (c : Counts blocks kind mode) where
  abbrev from : ℕ → ℕ → List Sym → Option State
  from d n xs = counted_from blocks (mode d n) xs

  -- a symbol that counts
  pub one_more : (d e n : ℕ) (x : Sym) (xs : List Sym) → step blocks (mode d n) x ≡ spend blocks n (mode e) → n < heaviest → from d n (x ∷ xs) ≡ from e (suc n) xs
  one_more d e n x xs is less = stepped blocks blocks (mode d n) (mode e (suc n)) x xs (is ∙ spends blocks n (mode e) less)

  -- one that doesn't
  pub none_more : (d e n : ℕ) (x : Sym) (xs : List Sym) → step blocks (mode d n) x ≡ Some (blocks, mode e n) → from d n (x ∷ xs) ≡ from e n xs
  none_more d e n x xs is = stepped blocks blocks (mode d n) (mode e n) x xs is

  spent : (d n l : ℕ) (xs : List Sym) → n ≡ l → from d n xs ≡ from d l xs
  spent d n l xs e = ap (λ i. from d i xs) e

  pub counts_space : is_section kind ≡ true → (d n l : ℕ) (place : Option Name) (xs : List Sym) → l ≡ n + space_weight place → l ≤ heaviest
      → from d n (spell_option spell_space place xs) ≡ from d l xs
  counts_space is d n l None xs e le = spent d n l xs (omega (arith, e))
  counts_space is d n l (Some w) xs e le =
      one_more d (suc d) n (mark m.OpenBracket) (name w ∷ mark m.CloseBracket ∷ xs) (c.on_bracket is d n) (omega (arith, e, le))
      ∙ none_more (suc d) (suc d) (suc n) (name w) (mark m.CloseBracket ∷ xs) (c.on_name (suc d) (suc n) w)
      ∙ none_more (suc d) d (suc n) (mark m.CloseBracket) xs (c.on_close_bracket is d (suc n)) ∙ spent d (suc n) l xs (omega (arith, e))

  pub counts_size : is_section kind ≡ true → (d n : ℕ) (width : Option ℕ) (xs : List Sym) → from d n (spell_option spell_size width xs) ≡ from d n xs
  counts_size is d n None xs = refl
  counts_size is d n (Some i) xs = none_more d d n (mark m.Colon) (number i ∷ xs) (c.on_colon is d n) ∙ none_more d d n (number i) xs (c.on_number d n i)

  mutual
    pub counts : (e : Expression) (d n l : ℕ) (xs : List Sym) → Binds kind e → l ≡ n + weight e → l ≤ heaviest → from d n (spell_expression e xs) ≡ from d l xs
    counts (integer i) d n l xs good e le = none_more d d n (number i) xs (c.on_number d n i) ∙ spent d n l xs (omega (arith, e))
    counts (named w) d n l xs good e le = none_more d d n (name w) xs (c.on_name d n w) ∙ spent d n l xs (omega (arith, e))
    counts (paren x) d n l xs good e le =
        one_more d (suc d) n (mark m.Open) (spell_expression x (mark m.Close ∷ xs)) (c.on_open d n) (omega (arith, e, le)) ∙ counts x (suc d) (suc n) l (mark m.Close ∷ xs) good (omega (arith, e)) le
        ∙ none_more (suc d) d l (mark m.Close) xs (c.on_close d l)
    counts (call w es) d n l xs good e le =
        none_more d d n (name w) (mark m.Open ∷ spell_arguments es (mark m.Close ∷ xs)) (c.on_name d n w) ∙ one_more d (suc d) n (mark m.Open) (spell_arguments es (mark m.Close ∷ xs)) (c.on_open d n) (omega (arith, e, le))
        ∙ counts_arguments es d (suc n) l (mark m.Close ∷ xs) good.0 good.3 (omega (arith, e)) le ∙ none_more (suc d) d l (mark m.Close) xs (c.on_close d l)
    counts (sized x i) d n l xs good e le =
        counts x d n l (mark m.Colon ∷ number i ∷ xs) good.3 e le ∙ none_more d d l (mark m.Colon) (number i ∷ xs) (c.on_colon good.0 d l) ∙ none_more d d l (number i) xs (c.on_number d l i)
    counts (dropped x i) d n l xs good e le =
        counts x d n (n + weight x) (mark m.Open ∷ number i ∷ mark m.Close ∷ xs) good.2 refl (omega (arith, e, le)) ∙ one_more d (suc d) (n + weight x) (mark m.Open) (number i ∷ mark m.Close ∷ xs) (c.on_open d (n + weight x)) (omega (arith, e, le))
        ∙ none_more (suc d) (suc d) (suc (n + weight x)) (number i) (mark m.Close ∷ xs) (c.on_number (suc d) (suc (n + weight x)) i)
        ∙ none_more (suc d) d (suc (n + weight x)) (mark m.Close) xs (c.on_close d (suc (n + weight x))) ∙ spent d (suc (n + weight x)) l xs (omega (arith, e))
    counts (bits x low count) d n l xs good e le =
        let s = suc (n + weight x) in
        counts x d n (n + weight x) (mark m.OpenBracket ∷ number low ∷ mark m.Comma ∷ number count ∷ mark m.CloseBracket ∷ xs) good.2 refl (omega (arith, e, le))
        ∙ one_more d (suc d) (n + weight x) (mark m.OpenBracket) (number low ∷ mark m.Comma ∷ number count ∷ mark m.CloseBracket ∷ xs) (c.on_bracket good.0 d (n + weight x)) (omega (arith, e, le))
        ∙ none_more (suc d) (suc d) s (number low) (mark m.Comma ∷ number count ∷ mark m.CloseBracket ∷ xs) (c.on_number (suc d) s low) ∙ none_more (suc d) (suc d) s (mark m.Comma) (number count ∷ mark m.CloseBracket ∷ xs) (c.on_comma good.0 d s)
        ∙ none_more (suc d) (suc d) s (number count) (mark m.CloseBracket ∷ xs) (c.on_number (suc d) s count) ∙ none_more (suc d) d s (mark m.CloseBracket) xs (c.on_close_bracket good.0 d s)
        ∙ spent d s l xs (omega (arith, e))
    counts (prefix op x) d n l xs good e le =
        one_more d d n (mark (prefix_mark op)) (spell_expression x xs) (c.on_prefix d n op) (omega (arith, e, le)) ∙ counts x d (suc n) l xs good.2 (omega (arith, e)) le
    counts (star place width x) d n l xs good e le =
        one_more d d n (mark m.Star) (spell_option spell_space place (spell_option spell_size width (spell_expression x xs))) (c.on_binary d n b.Multiply) (omega (arith, e, le))
        ∙ counts_space good.0 d (suc n) (suc n + space_weight place) place (spell_option spell_size width (spell_expression x xs)) refl (omega (arith, e, le)) ∙ counts_size good.0 d (suc n + space_weight place) width (spell_expression x xs)
        ∙ counts x d (suc n + space_weight place) l xs good.3 (omega (arith, e)) le
    counts (binary op x y) d n l xs good e le =
        counts x d n (n + weight x) (mark (binary_mark op) ∷ spell_expression y xs) good.3 refl (omega (arith, e, le))
        ∙ one_more d d (n + weight x) (mark (binary_mark op)) (spell_expression y xs) (c.on_binary d (n + weight x) op) (omega (arith, e, le))
        ∙ counts y d (suc (n + weight x)) l xs good.4 (omega (arith, e)) le

    counts_arguments : (es : Expressions) (d n l : ℕ) (xs : List Sym) → is_section kind ≡ true → AllBind kind es → l ≡ n + weights es → l ≤ heaviest
        → from (suc d) n (spell_arguments es xs) ≡ from (suc d) l xs
    counts_arguments no_more d n l xs is good e le = spent (suc d) n l xs (omega (arith, e))
    counts_arguments (with_more x es) d n l xs is good e le =
        counts x (suc d) n (n + weight x) (spell_more es xs) good.0 refl (omega (arith, e, le)) ∙ counts_more es d (n + weight x) l xs is good.1 (omega (arith, e)) le

    counts_more : (es : Expressions) (d n l : ℕ) (xs : List Sym) → is_section kind ≡ true → AllBind kind es → l ≡ n + weights es → l ≤ heaviest
        → from (suc d) n (spell_more es xs) ≡ from (suc d) l xs
    counts_more no_more d n l xs is good e le = spent (suc d) n l xs (omega (arith, e))
    counts_more (with_more x es) d n l xs is good e le =
        none_more (suc d) (suc d) n (mark m.Comma) (spell_expression x (spell_more es xs)) (c.on_comma is d n) ∙ counts x (suc d) n (n + weight x) (spell_more es xs) good.0 refl (omega (arith, e, le))
        ∙ counts_more es d (n + weight x) l xs is good.1 (omega (arith, e)) le

-- ---- in patterns, actions and statements

absurd_kind : {A : Type 0} → ◌≡◌ {A = Bool} false true → A
absurd_kind e = absurd (cc)

pattern_binary : (blocks : ℕ) (head : Bool) (d n : ℕ) (op : BinaryOp) → step blocks (at.Pattern head n) (mark (binary_mark op)) ≡ spend blocks n (at.Pattern head)
pattern_binary blocks head d n b.Multiply = refl
pattern_binary blocks head d n b.Divide = refl
pattern_binary blocks head d n b.Remainder = refl
pattern_binary blocks head d n b.SignedDivide = refl
pattern_binary blocks head d n b.SignedRemainder = refl
pattern_binary blocks head d n b.Add = refl
pattern_binary blocks head d n b.Subtract = refl
pattern_binary blocks head d n b.ShiftLeft = refl
pattern_binary blocks head d n b.ShiftRight = refl
pattern_binary blocks head d n b.SignedShiftRight = refl
pattern_binary blocks head d n b.Less = refl
pattern_binary blocks head d n b.LessEqual = refl
pattern_binary blocks head d n b.Greater = refl
pattern_binary blocks head d n b.GreaterEqual = refl
pattern_binary blocks head d n b.SignedLess = refl
pattern_binary blocks head d n b.SignedLessEqual = refl
pattern_binary blocks head d n b.SignedGreater = refl
pattern_binary blocks head d n b.SignedGreaterEqual = refl
pattern_binary blocks head d n b.Equal = refl
pattern_binary blocks head d n b.NotEqual = refl
pattern_binary blocks head d n b.And = refl
pattern_binary blocks head d n b.Xor = refl
pattern_binary blocks head d n b.Or = refl
pattern_binary blocks head d n b.BooleanAnd = refl
pattern_binary blocks head d n b.BooleanXor = refl
pattern_binary blocks head d n b.BooleanOr = refl
pattern_binary blocks head d n b.WordAnd = refl
pattern_binary blocks head d n b.WordXor = refl
pattern_binary blocks head d n b.WordOr = refl

pattern_prefix : (blocks : ℕ) (head : Bool) (d n : ℕ) (op : PrefixOp) → step blocks (at.Pattern head n) (mark (prefix_mark op)) ≡ spend blocks n (at.Pattern head)
pattern_prefix blocks head d n p.Negate = refl
pattern_prefix blocks head d n p.Complement = refl
pattern_prefix blocks head d n p.Not = refl

value_binary : (blocks : ℕ) (head : Bool) (d n : ℕ) (op : BinaryOp) → step blocks (at.Value head n) (mark (binary_mark op)) ≡ spend blocks n (at.Value head)
value_binary blocks head d n b.Multiply = refl
value_binary blocks head d n b.Divide = refl
value_binary blocks head d n b.Remainder = refl
value_binary blocks head d n b.SignedDivide = refl
value_binary blocks head d n b.SignedRemainder = refl
value_binary blocks head d n b.Add = refl
value_binary blocks head d n b.Subtract = refl
value_binary blocks head d n b.ShiftLeft = refl
value_binary blocks head d n b.ShiftRight = refl
value_binary blocks head d n b.SignedShiftRight = refl
value_binary blocks head d n b.Less = refl
value_binary blocks head d n b.LessEqual = refl
value_binary blocks head d n b.Greater = refl
value_binary blocks head d n b.GreaterEqual = refl
value_binary blocks head d n b.SignedLess = refl
value_binary blocks head d n b.SignedLessEqual = refl
value_binary blocks head d n b.SignedGreater = refl
value_binary blocks head d n b.SignedGreaterEqual = refl
value_binary blocks head d n b.Equal = refl
value_binary blocks head d n b.NotEqual = refl
value_binary blocks head d n b.And = refl
value_binary blocks head d n b.Xor = refl
value_binary blocks head d n b.Or = refl
value_binary blocks head d n b.BooleanAnd = refl
value_binary blocks head d n b.BooleanXor = refl
value_binary blocks head d n b.BooleanOr = refl
value_binary blocks head d n b.WordAnd = refl
value_binary blocks head d n b.WordXor = refl
value_binary blocks head d n b.WordOr = refl

value_prefix : (blocks : ℕ) (head : Bool) (d n : ℕ) (op : PrefixOp) → step blocks (at.Value head n) (mark (prefix_mark op)) ≡ spend blocks n (at.Value head)
value_prefix blocks head d n p.Negate = refl
value_prefix blocks head d n p.Complement = refl
value_prefix blocks head d n p.Not = refl

section_binary : (blocks : ℕ) (d n : ℕ) (op : BinaryOp) → step blocks (at.Expression d n) (mark (binary_mark op)) ≡ spend blocks n (at.Expression d)
section_binary blocks d n b.Multiply = refl
section_binary blocks d n b.Divide = refl
section_binary blocks d n b.Remainder = refl
section_binary blocks d n b.SignedDivide = refl
section_binary blocks d n b.SignedRemainder = refl
section_binary blocks d n b.Add = refl
section_binary blocks d n b.Subtract = refl
section_binary blocks d n b.ShiftLeft = refl
section_binary blocks d n b.ShiftRight = refl
section_binary blocks d n b.SignedShiftRight = refl
section_binary blocks d n b.Less = refl
section_binary blocks d n b.LessEqual = refl
section_binary blocks d n b.Greater = refl
section_binary blocks d n b.GreaterEqual = refl
section_binary blocks d n b.SignedLess = refl
section_binary blocks d n b.SignedLessEqual = refl
section_binary blocks d n b.SignedGreater = refl
section_binary blocks d n b.SignedGreaterEqual = refl
section_binary blocks d n b.Equal = refl
section_binary blocks d n b.NotEqual = refl
section_binary blocks d n b.And = refl
section_binary blocks d n b.Xor = refl
section_binary blocks d n b.Or = refl
section_binary blocks d n b.BooleanAnd = refl
section_binary blocks d n b.BooleanXor = refl
section_binary blocks d n b.BooleanOr = refl
section_binary blocks d n b.WordAnd = refl
section_binary blocks d n b.WordXor = refl
section_binary blocks d n b.WordOr = refl

section_prefix : (blocks : ℕ) (d n : ℕ) (op : PrefixOp) → step blocks (at.Expression d n) (mark (prefix_mark op)) ≡ spend blocks n (at.Expression d)
section_prefix blocks d n p.Negate = refl
section_prefix blocks d n p.Complement = refl
section_prefix blocks d n p.Not = refl

pub pattern_counts : (blocks : ℕ) (head : Bool) → Counts blocks in_constraint (λ d n. at.Pattern head n)
pattern_counts blocks head = record {
  on_number = λ d n i. refl;
  on_name = λ d n w. refl;
  on_open = λ d n. refl;
  on_close = λ d n. refl;
  on_binary = pattern_binary blocks head;
  on_prefix = pattern_prefix blocks head;
  on_colon = λ is d n. absurd_kind is;
  on_comma = λ is d n. absurd_kind is;
  on_bracket = λ is d n. absurd_kind is;
  on_close_bracket = λ is d n. absurd_kind is;
}

pub value_counts : (blocks : ℕ) (head : Bool) → Counts blocks in_action (λ d n. at.Value head n)
value_counts blocks head = record {
  on_number = λ d n i. refl;
  on_name = λ d n w. refl;
  on_open = λ d n. refl;
  on_close = λ d n. refl;
  on_binary = value_binary blocks head;
  on_prefix = value_prefix blocks head;
  on_colon = λ is d n. absurd_kind is;
  on_comma = λ is d n. absurd_kind is;
  on_bracket = λ is d n. absurd_kind is;
  on_close_bracket = λ is d n. absurd_kind is;
}

pub section_counts : (blocks : ℕ) → Counts blocks in_section at.Expression
section_counts blocks = record {
  on_number = λ d n i. refl;
  on_name = λ d n w. refl;
  on_open = λ d n. refl;
  on_close = λ d n. refl;
  on_binary = section_binary blocks;
  on_prefix = section_prefix blocks;
  on_colon = λ is d n. refl;
  on_comma = λ is d n. refl;
  on_bracket = λ is d n. refl;
  on_close_bracket = λ is d n. refl;
}

module _ (blocks : ℕ) where
  abbrev run : Mode → List Sym → Option State
  run mode xs = counted_from blocks mode xs

  -- ---- patterns

  pub on_relation : (head : Bool) (n : ℕ) (rel : Relation) → step blocks (at.Pattern head n) (mark (relation_mark rel)) ≡ spend blocks n (at.Pattern head)
  on_relation head n r.Equal = refl
  on_relation head n r.NotEqual = refl
  on_relation head n r.Less = refl
  on_relation head n r.LessEqual = refl
  on_relation head n r.Greater = refl
  on_relation head n r.GreaterEqual = refl

  pub on_joining : (head : Bool) (n : ℕ) (op : PatternOp) → step blocks (at.Pattern head n) (mark (pattern_mark op)) ≡ spend blocks n (at.Pattern head)
  on_joining head n j.And = refl
  on_joining head n j.Then = refl
  on_joining head n j.Or = refl

  module _ (head : Bool) where
    pattern_more : (n : ℕ) (x : Sym) (xs : List Sym) → step blocks (at.Pattern head n) x ≡ spend blocks n (at.Pattern head) → n < heaviest
        → run (at.Pattern head n) (x ∷ xs) ≡ run (at.Pattern head (suc n)) xs
    pattern_more n x xs is less = stepped blocks blocks (at.Pattern head n) (at.Pattern head (suc n)) x xs (is ∙ spends blocks n (at.Pattern head) less)

    pub counts_pattern : (q : Pattern) (n l : ℕ) (xs : List Sym) → PatternBinds q → l ≡ n + pattern_weight q → l ≤ heaviest
        → run (at.Pattern head n) (spell_pattern q xs) ≡ run (at.Pattern head l) xs
    counts_pattern (bare w) n l xs good e le = let same : n ≡ l = omega (arith, e) in ap (λ i. run (at.Pattern head i) xs) same
    counts_pattern (constraint w rel x) n l xs good e le =
        pattern_more n (mark (relation_mark rel)) (spell_expression x xs) (on_relation head n rel) (omega (arith, e, le))
        ∙ counts blocks in_constraint (λ d n. at.Pattern head n) (pattern_counts blocks head) x 0 (suc n) l xs good (omega (arith, e)) le
    counts_pattern (group q) n l xs good e le =
        pattern_more n (mark m.Open) (spell_pattern q (mark m.Close ∷ xs)) refl (omega (arith, e, le)) ∙ counts_pattern q (suc n) l (mark m.Close ∷ xs) good (omega (arith, e)) le
    counts_pattern (ellipsis q) n l xs good e le =
        counts_pattern q n (n + pattern_weight q) (mark m.Ellipsis ∷ xs) good.1 refl (omega (arith, e, le)) ∙ pattern_more (n + pattern_weight q) (mark m.Ellipsis) xs refl (omega (arith, e, le))
        ∙ (let same : suc (n + pattern_weight q) ≡ l = omega (arith, e) in ap (λ i. run (at.Pattern head i) xs) same)
    counts_pattern (joined op q s) n l xs good e le =
        counts_pattern q n (n + pattern_weight q) (mark (pattern_mark op) ∷ spell_pattern s xs) good.2 refl (omega (arith, e, le))
        ∙ pattern_more (n + pattern_weight q) (mark (pattern_mark op)) (spell_pattern s xs) (on_joining head (n + pattern_weight q) op) (omega (arith, e, le))
        ∙ counts_pattern s (suc (n + pattern_weight q)) l xs good.3 (omega (arith, e)) le

    -- ---- actions

    pub counts_action : (action : Action) (xs : List Sym) → IsAction heaviest action → run (at.Actions head) (spell_action action xs) ≡ run (at.Actions head) xs
    counts_action (set w x) xs good =
        counts blocks in_action (λ d n. at.Value head n) (value_counts blocks head) x 0 0 (weight x) (mark m.Semicolon ∷ xs) good.0 (omega arith) good.1
    counts_action (global_set (by_name v) w) xs good = refl
    counts_action (global_set (by_integer i) w) xs good = refl

    pub counts_actions : (actions : List Action) (xs : List Sym) → Each (IsAction heaviest) actions
        → run (at.Actions head) (spell_all spell_action actions xs) ≡ run (at.Actions head) xs
    counts_actions [] xs good = refl
    counts_actions (action ∷ actions) xs good = counts_action action (spell_all spell_action actions xs) good.0 ∙ counts_actions actions xs good.1

  -- ---- expressions of statements

  pub counts_here : (x : Expression) (xs : List Sym) → IsExpression heaviest in_section x → run (at.Expression 0 0) (spell_expression x xs) ≡ run (at.Expression 0 (weight x)) xs
  counts_here x xs good = counts blocks in_section at.Expression (section_counts blocks) x 0 0 (weight x) xs good.0 (omega arith) good.1

  -- behind the star of a statement an expression begins
  pub begins_here : (x : Expression) (xs : List Sym) → run at.Star (spell_expression x xs) ≡ run (at.Expression 0 0) (spell_expression x xs)
  begins_here (integer i) xs = refl
  begins_here (named w) xs = refl
  begins_here (paren x) xs = refl
  begins_here (call w es) xs = refl
  begins_here (sized x i) xs = begins_here x (mark m.Colon ∷ number i ∷ xs)
  begins_here (dropped x i) xs = begins_here x (mark m.Open ∷ number i ∷ mark m.Close ∷ xs)
  begins_here (bits x l c) xs = begins_here x (mark m.OpenBracket ∷ number l ∷ mark m.Comma ∷ number c ∷ mark m.CloseBracket ∷ xs)
  begins_here (prefix p.Negate x) xs = refl
  begins_here (prefix p.Complement x) xs = refl
  begins_here (prefix p.Not x) xs = refl
  begins_here (star place width x) xs = refl
  begins_here (binary op x y) xs = begins_here x (mark (binary_mark op) ∷ spell_expression y xs)

  size_of_star : (size : Option ℕ) (xs : List Sym) → run at.Star (spell_option spell_size size xs) ≡ run at.Star xs
  size_of_star None xs = refl
  size_of_star (Some i) xs = refl

  star_by : (place : Option Name) (size : Option ℕ) (xs : List Sym) → run at.Star (spell_option spell_space place (spell_option spell_size size xs)) ≡ run at.Star xs
  star_by None size xs = size_of_star size xs
  star_by (Some w) size xs = size_of_star size xs

  pub counts_star : (form : StarForm) (xs : List Sym) → run at.Statement (spell_star form xs) ≡ run at.Star xs
  counts_star form xs = star_by form.space form.size xs

  pub size_written : (size : Option ℕ) (xs : List Sym) → run at.Statement (spell_option spell_size size xs) ≡ run at.Statement xs
  size_written None xs = refl
  size_written (Some i) xs = refl

  value_written : (value : Option Expression) (xs : List Sym) → IfWritten (IsExpression heaviest in_section) value
      → run at.Statement (spell_option spell_value value (mark m.Semicolon ∷ xs)) ≡ run at.Statement xs
  value_written None xs good = refl
  value_written (Some x) xs good = counts_here x (mark m.Semicolon ∷ xs) good

  pub counts_direct : (to : Direct) (xs : List Sym) → run at.Jump (spell_direct to (mark m.Semicolon ∷ xs)) ≡ run at.Statement xs
  counts_direct (to_label w) xs = refl
  counts_direct (to_operand (by_name w)) xs = refl
  counts_direct (to_operand (by_integer i)) xs = refl

  commas : (es : List Expression) (n : ℕ) (xs : List Sym) → Each (IsExpression heaviest in_section) es
      → run (at.Expression 0 n) (spell_commas spell_expression es (mark m.Close ∷ mark m.Semicolon ∷ xs)) ≡ run at.Statement xs
  commas [] n xs good = refl
  commas (x ∷ es) n xs good = counts_here x (spell_commas spell_expression es (mark m.Close ∷ mark m.Semicolon ∷ xs)) good.0 ∙ commas es (weight x) xs good.1

  separated : (es : List Expression) (xs : List Sym) → Each (IsExpression heaviest in_section) es
      → run (at.Expression 0 0) (spell_separated spell_expression es (mark m.Close ∷ mark m.Semicolon ∷ xs)) ≡ run at.Statement xs
  separated [] xs good = refl
  separated (x ∷ es) xs good = counts_here x (spell_commas spell_expression es (mark m.Close ∷ mark m.Semicolon ∷ xs)) good.0 ∙ commas es (weight x) xs good.1

  -- ---- statements

  pointer_here : (form : StarForm) (to : Operand) (xs : List Sym) → run at.Statement (spell_star form (spell_operand to (mark m.Semicolon ∷ xs))) ≡ run at.Statement xs
  pointer_here form (by_name w) xs = counts_star form (name w ∷ mark m.Semicolon ∷ xs)
  pointer_here form (by_integer i) xs = counts_star form (number i ∷ mark m.Semicolon ∷ xs)

  pub counts_statement : (s : Statement) (xs : List Sym) → IsStatement heaviest s → run at.Statement (spell_statement s xs) ≡ run at.Statement xs
  counts_statement (local w size value) xs good = size_written size (spell_option spell_value value (mark m.Semicolon ∷ xs)) ∙ value_written value xs good.1
  counts_statement (declare w n x) xs good = counts_here x (mark m.Semicolon ∷ xs) good.2
  counts_statement (assign (left_name w) x) xs good = counts_here x (mark m.Semicolon ∷ xs) good.1
  counts_statement (assign (left_bits w l c) x) xs good = counts_here x (mark m.Semicolon ∷ xs) good.1
  counts_statement (assign (left_star form to) x) xs good =
      counts_star form (spell_expression to (spell_value x (mark m.Semicolon ∷ xs))) ∙ begins_here to (spell_value x (mark m.Semicolon ∷ xs))
      ∙ counts_here to (spell_value x (mark m.Semicolon ∷ xs)) good.0.1 ∙ counts_here x (mark m.Semicolon ∷ xs) good.1
  counts_statement (goto (direct to)) xs good = counts_direct to xs
  counts_statement (goto (computed x)) xs good = counts_here x (mark m.CloseBracket ∷ mark m.Semicolon ∷ xs) good
  counts_statement (branch x to) xs good = counts_here x (word (quoted k.Goto) ∷ spell_direct to (mark m.Semicolon ∷ xs)) good ∙ counts_direct to xs
  counts_statement (call_to (calls (by_name w))) xs good = refl
  counts_statement (call_to (calls (by_integer i))) xs good = refl
  counts_statement (call_to (calls_computed x)) xs good = counts_here x (mark m.CloseBracket ∷ mark m.Semicolon ∷ xs) good
  counts_statement (return x) xs good = counts_here x (mark m.CloseBracket ∷ mark m.Semicolon ∷ xs) good
  counts_statement (build w) xs good = refl
  counts_statement (export (exports w)) xs good = refl
  counts_statement (export (exports_star form to)) xs good = pointer_here form to xs
  counts_statement (invoke w es) xs good = separated es xs good.2
  counts_statement (label w) xs good = refl

  counts_statements : (body : List Statement) (xs : List Sym) → Each (IsStatement heaviest) body → run at.Statement (spell_all spell_statement body (mark m.CloseBrace ∷ xs)) ≡ run at.Items xs
  counts_statements [] xs good = refl
  counts_statements (s ∷ body) xs good = counts_statement s (spell_all spell_statement body (mark m.CloseBrace ∷ xs)) good.0 ∙ counts_statements body xs good.1

  -- ---- constructors

  counts_keyword : (keyword : Keyword) (xs : List Sym) → IsShownWord (quoted keyword) → run at.Display (word (quoted keyword) ∷ xs) ≡ run at.Display xs
  counts_keyword k.Is xs good = absurd good
  counts_keyword keyword xs good = refl

  pub counts_piece : (piece : Piece) (xs : List Sym) → IsPiece piece → run at.Display (spell_piece piece xs) ≡ run at.Display xs
  counts_piece (piece_word (plain w)) xs good = refl
  counts_piece (piece_word (quoted keyword)) xs good = counts_keyword keyword xs good
  counts_piece (piece_text t) xs good = refl
  counts_piece (piece_blank t) xs good = refl
  counts_piece (piece_caret t) xs good = refl
  counts_piece (piece_char t) xs good = refl

  pub counts_display : (display : List Piece) (xs : List Sym) → Each IsPiece display → run at.Display (spell_all spell_piece display xs) ≡ run at.Display xs
  counts_display [] xs good = refl
  counts_display (piece ∷ display) xs good = counts_piece piece (spell_all spell_piece display xs) good.0 ∙ counts_display display xs good.1

  pub counts_section : (n : ℕ) (section : Section) (xs : List Sym) → IsSection heaviest section → run (at.Pattern false n) (spell_section section xs) ≡ run at.Items xs
  counts_section n (statements body) xs good = counts_statements body xs good
  counts_section n unimplemented xs good = refl

  behind_pattern : (n : ℕ) (actions : Option (List Action)) (section : Section) (xs : List Sym) → IfWritten (Each (IsAction heaviest)) actions → IsSection heaviest section
      → run (at.Pattern false n) (spell_option spell_actions actions (spell_section section xs)) ≡ run at.Items xs
  behind_pattern n None section xs acts good = counts_section n section xs good
  behind_pattern n (Some actions) section xs acts good = counts_actions false actions (mark m.CloseBracket ∷ spell_section section xs) acts ∙ counts_section 0 section xs good

  pub table_first : (table : Option Name) (xs : List Sym) → run at.Items (spell_option spell_name table xs) ≡ run at.Items xs
  table_first None xs = refl
  table_first (Some w) xs = refl

  pub counts_constructor : (c : Constructor) (xs : List Sym) → IsConstructor heaviest c → run at.Items (spell_constructor c xs) ≡ run at.Items xs
  counts_constructor c xs good =
      let behind = spell_option spell_actions c.actions (spell_section c.section xs) in
      let shown = word (quoted k.Is) ∷ spell_pattern c.pattern behind in
      table_first c.table (mark m.Colon ∷ spell_all spell_piece c.display shown) ∙ counts_display c.display shown good.display
      ∙ counts_pattern false c.pattern 0 (pattern_weight c.pattern) behind good.pattern.0 (omega arith) good.pattern.1
      ∙ behind_pattern (pattern_weight c.pattern) c.actions c.section xs good.actions good.section

  -- ---- heads of blocks

  pub head_table : (table : Option Name) (xs : List Sym) → run at.Head (spell_option spell_name table xs) ≡ run at.Head xs
  head_table None xs = refl
  head_table (Some w) xs = refl

  head_actions : (n : ℕ) (actions : Option (List Action)) (xs : List Sym) → IfWritten (Each (IsAction heaviest)) actions
      → run (at.Pattern true n) (spell_option spell_actions actions (mark m.OpenBrace ∷ xs)) ≡ run at.Items xs
  head_actions n None xs good = refl
  head_actions n (Some actions) xs good = counts_actions true actions (mark m.CloseBracket ∷ mark m.OpenBrace ∷ xs) good

  head_pattern : (pattern : Option Pattern) (actions : Option (List Action)) (xs : List Sym) → IfWritten (IsPattern heaviest) pattern → IfWritten (Each (IsAction heaviest)) actions
      → run (at.Pattern true 0) (spell_option spell_pattern pattern (spell_option spell_actions actions (mark m.OpenBrace ∷ xs))) ≡ run at.Items xs
  head_pattern None actions xs good acts = head_actions 0 actions xs acts
  head_pattern (Some q) actions xs good acts = counts_pattern true q 0 (pattern_weight q) (spell_option spell_actions actions (mark m.OpenBrace ∷ xs)) good.0 (omega arith) good.1 ∙ head_actions (pattern_weight q) actions xs acts

  pub counts_head : (h : Head) (xs : List Sym) → IsHead heaviest h
      → run at.Head (spell_option spell_name h.table (mark m.Colon ∷ spell_option spell_pattern h.pattern (spell_option spell_actions h.actions (mark m.OpenBrace ∷ xs)))) ≡ run at.Items xs
  counts_head h xs good = head_table h.table (mark m.Colon ∷ spell_option spell_pattern h.pattern (spell_option spell_actions h.actions (mark m.OpenBrace ∷ xs))) ∙ head_pattern h.pattern h.actions xs good.pattern good.actions

  -- ---- definitions and attached lists

  each_of : {A : Type 0} (spell_one : A → List Sym → List Sym) → ((x : A) (xs : List Sym) → run at.Definition (spell_one x xs) ≡ run at.Definition xs)
      → (ys : List A) (xs : List Sym) → run at.Definition (spell_all spell_one ys xs) ≡ run at.Definition xs
  each_of spell_one one_is [] xs = refl
  each_of spell_one one_is (y ∷ ys) xs = one_is y (spell_all spell_one ys xs) ∙ each_of spell_one one_is ys xs

  pub counts_names : (names : Names) (xs : List Sym) → run at.Definition (spell_names names xs) ≡ run at.Definition xs
  counts_names (one w) xs = refl
  counts_names (several ws) xs = each_of spell_name (λ w ys. refl) ws (mark m.CloseBracket ∷ xs)

  counts_attribute : (attribute : SpaceAttribute) (xs : List Sym) → run at.Definition (spell_space_attribute attribute xs) ≡ run at.Definition xs
  counts_attribute (of_type w) xs = refl
  counts_attribute (of_size n) xs = refl
  counts_attribute (of_word_size n) xs = refl
  counts_attribute is_default xs = refl

  counts_field : (field : Field) (xs : List Sym) → run at.Definition (spell_field field xs) ≡ run at.Definition xs
  counts_field field xs = each_of spell_attribute (λ attribute ys. refl) field.attributes xs

  counts_order : (order : Option ByteOrder) (xs : List Sym) → run at.Definition (spell_option spell_order order xs) ≡ run at.Definition xs
  counts_order None xs = refl
  counts_order (Some order) xs = refl

  pub counts_definition : (d : Definition) (xs : List Sym) → run at.Definition (spell_definition d xs) ≡ run at.Definition xs
  counts_definition (endian order) xs = refl
  counts_definition (alignment n) xs = refl
  counts_definition (space w attributes) xs = each_of spell_space_attribute counts_attribute attributes xs
  counts_definition (bit_ranges first more) xs = each_of spell_bit_range (λ range ys. refl) more xs
  counts_definition (pcode_ops names) xs = counts_names names xs
  counts_definition (token w size order fields) xs = counts_order order (spell_all spell_field fields xs) ∙ each_of spell_field counts_field fields xs
  counts_definition (context w fields) xs = each_of spell_field counts_field fields xs
  counts_definition (registers w offset size names) xs = counts_names names xs

  counts_member : (member : Member) (xs : List Sym) → run at.Definition (spell_member member xs) ≡ run at.Definition xs
  counts_member (member_word w) xs = refl
  counts_member (member_text t) xs = refl
  counts_member (member_integer n) xs = refl
  counts_member (member_negative n) xs = refl

  counts_more_names : (ws : List Name) (xs : List Sym) → run at.Parameters (spell_commas spell_name ws xs) ≡ run at.Parameters xs
  counts_more_names [] xs = refl
  counts_more_names (w ∷ ws) xs = counts_more_names ws xs

  pub counts_parameters : (ws : List Name) (xs : List Sym) → run at.Parameters (spell_separated spell_name ws xs) ≡ run at.Parameters xs
  counts_parameters [] xs = refl
  counts_parameters (w ∷ ws) xs = counts_more_names ws xs

-- ---- blocks

pub enters : (blocks : ℕ) (h : Head) (xs : List Sym) → blocks < suc deepest → IsHead heaviest h → counted_from blocks at.Items (spell_head h xs) ≡ counted_from (suc blocks) at.Items xs
enters blocks h xs less good =
    stepped blocks (suc blocks) at.Items at.Head (word (quoted k.With))
    (spell_option spell_name h.table (mark m.Colon ∷ spell_option spell_pattern h.pattern (spell_option spell_actions h.actions (mark m.OpenBrace ∷ xs))))
    (chosen blocks (suc deepest) (suc blocks, at.Head) (nat_lt blocks (suc deepest)) refl less)
    ∙ counts_head (suc blocks) h xs good

pub counts_inside : (inside : Inside) (blocks deep : ℕ) (xs : List Sym) → IsInside heaviest deep inside → blocks + deep ≤ suc deepest
    → counted_from blocks at.Items (spell_inside inside xs) ≡ counted_from blocks at.Items xs
counts_inside nothing blocks deep xs good le = refl
counts_inside (constructor_then c more) blocks deep xs good le = counts_constructor blocks c (spell_inside more xs) good.0 ∙ counts_inside more blocks deep xs good.1 le
counts_inside (block_then h inside more) blocks zero xs good le = absurd good
counts_inside (block_then h inside more) blocks (suc deep) xs good le =
    enters blocks h (spell_inside inside (mark m.CloseBrace ∷ spell_inside more xs)) (omega (arith, le)) good.0
    ∙ counts_inside inside (suc blocks) deep (mark m.CloseBrace ∷ spell_inside more xs) good.1 (omega (arith, le)) ∙ counts_inside more blocks (suc deep) xs good.2 le

-- ---- items

pub counts_item : (item : Item) (xs : List Sym) → IsItem heaviest deepest item → counted_from 0 at.Items (spell_item item xs) ≡ counted_from 0 at.Items xs
counts_item (define d) xs good = counts_definition 0 d (mark m.Semicolon ∷ xs)
counts_item (attach_list kind names members) xs good = counts_names 0 names (mark m.OpenBracket ∷ spell_all spell_member members (mark m.CloseBracket ∷ mark m.Semicolon ∷ xs)) ∙ each_of 0 spell_member (counts_member 0) members (mark m.CloseBracket ∷ mark m.Semicolon ∷ xs)
counts_item (attach_one kind names member) xs good = counts_names 0 names (spell_member member (mark m.Semicolon ∷ xs)) ∙ counts_member 0 member (mark m.Semicolon ∷ xs)
counts_item (macro d) xs good = counts_parameters 0 d.parameters (mark m.Close ∷ spell_body d.body xs) ∙ counts_statements 0 d.body xs good
counts_item (constructor c) xs good = counts_constructor 0 c xs good
counts_item (block h inside) xs good = enters 0 h (spell_inside inside (mark m.CloseBrace ∷ xs)) (omega arith) good.0 ∙ counts_inside inside 1 deepest (mark m.CloseBrace ∷ xs) good.1 (omega arith)

pub trees_keep : TreesKeepTheCount
trees_keep [] good = refl
trees_keep (item ∷ items) good = counts_item item (spell_all spell_item items []) good.0 ∙ trees_keep items good.1

-- ---- past a limit

over_by : (s : Option State) (xs ys : List Sym) (go : State → Option State) → ((state : State) → go state ≡ going_on (counted_from state.0 state.1 xs) (λ t. counted_from t.0 t.1 ys))
    → going_on s go ≡ going_on (going_on s (λ state. counted_from state.0 state.1 xs)) (λ t. counted_from t.0 t.1 ys)
over_by None xs ys go h = refl
over_by (Some s) xs ys go h = h s

-- some symbols and then others
pub over : (blocks : ℕ) (mode : Mode) (xs ys : List Sym) → counted_from blocks mode (xs ++ ys) ≡ going_on (counted_from blocks mode xs) (λ t. counted_from t.0 t.1 ys)
over blocks mode [] ys = refl
over blocks mode (x ∷ xs) ys = over_by (step blocks mode x) xs ys (λ state. counted_from state.0 state.1 (xs ++ ys)) (λ state. over state.0 state.1 xs ys)

pub past_is_none : (before after : List Sym) (x : Sym) → GoesPast before x → counted (before ++ x ∷ after) ≡ None
past_is_none before after x past =
    over 0 at.Items before (x ∷ after) ∙ ap (λ s. going_on s (λ t. counted_from t.0 t.1 (x ∷ after))) past.is
    ∙ ap (λ s. going_on s (λ t. counted_from t.0 t.1 after)) past.past

none_goes_on : (before : List Sym) (x : Sym) → GoesPast before x → BeginsATree (before ++ x ∷ []) → ⊥
none_goes_on before x past begins =
    let clash : ◌≡◌ {A = Option State} (Some (0, at.Items)) None =
    sym (trees_keep begins.items begins.good) ∙ ap counted (begins.spells ∙ append_assoc before (x ∷ []) begins.rest) ∙ past_is_none before begins.rest x past in
    absurd (cc)

pub counted_is_a_fault : CountedNestingIsAFault
counted_is_a_fault before after x past goes = limit goes (none_goes_on before x past)
