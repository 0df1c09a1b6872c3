-- The trees that the terminals of a text spell have names, texts and numbers as a packed file may have them.
use Rattle.std.proofs.Common.{◌≡◌, ℕ, zero, suc, ◌+◌, ◌≤◌, List, [], ◌∷◌, length, Option, None, Some, refl, sym, subst, arith}
use Rattle.sl_ast.specs.Operators.{prefix_mark, binary_mark, relation_mark, pattern_mark}
use Rattle.sl_ast.specs.Spelling.{Spelling, name, keyword, spell_name, spell_all, spell_commas, spell_separated, spell_option, spell_space, spell_size, spell_expression, spell_arguments, spell_more, spell_pattern, spell_operand, spell_action, spell_actions, spell_star, spell_value, spell_left, spell_label, spell_direct, spell_computed, spell_dest, spell_target, spell_exported, spell_statement, spell_body, spell_order, spell_space_attribute, spell_bit_range, spell_attribute, spell_field, spell_names, spell_definition, spell_member, spell_piece, spell_section, spell_constructor, spell_head, spell_inside, spell_macro, spell_item, spell, order_word, attribute_word, kind_word}
use Rattle.sl_ast.specs.Symbols.{Word, plain, quoted, Sym, number, word, text, mark, blank, caret, char}
use Rattle.sl_ast.specs.Trees.{Name, Expression, Expressions, integer, named, paren, call, sized, dropped, bits, prefix, star, binary, no_more, with_more, Pattern, bare, constraint, group, ellipsis, joined, Operand, by_name, by_integer, Action, set, global_set, StarForm, Left, left_name, left_bits, left_star, Direct, to_label, to_operand, Dest, direct, computed, Target, calls, calls_computed, Exported, exports, exports_star, Statement, local, declare, assign, goto, branch, call_to, return, build, export, invoke, label, SpaceAttribute, of_type, of_size, of_word_size, is_default, BitRange, Field, Names, one, several, Definition, endian, alignment, space, bit_ranges, pcode_ops, token, context, registers, Member, member_word, member_text, member_integer, member_negative, Piece, piece_word, piece_text, piece_blank, piece_caret, piece_char, Section, statements, unimplemented, Constructor, Head, Inside, nothing, constructor_then, block_then, Macro, Item, define, attach_list, attach_one, macro, constructor, block}
use Rattle.sl_ast.specs.Validity.{Each, IfWritten, IsPiece, IsShownWord, IsConstructor, IsHead, IsInside, IsItem, AreItemsWithin, AreItems, heaviest, deepest}
use Rattle.sl_ast.specs.declared.definitions.ByteOrder.{ByteOrder}
use Rattle.sl_ast.specs.declared.definitions.FieldAttribute.{FieldAttribute}
use Rattle.sl_ast.specs.declared.expressions.BinaryOp.{BinaryOp}
use Rattle.sl_ast.specs.declared.expressions.BinaryOp.TheVariants as binaries
use Rattle.sl_ast.specs.declared.expressions.PrefixOp.{PrefixOp}
use Rattle.sl_ast.specs.declared.expressions.PrefixOp.TheVariants as prefixes
use Rattle.sl_ast.specs.declared.patterns.PatternOp.{PatternOp}
use Rattle.sl_ast.specs.declared.patterns.PatternOp.TheVariants as joints
use Rattle.sl_ast.specs.declared.patterns.Relation.{Relation}
use Rattle.sl_ast.specs.declared.patterns.Relation.TheVariants as relations
use Rattle.sl_ast.specs.declared.symbols.Keyword.{Keyword}
use Rattle.sl_ast.specs.declared.symbols.Keyword.TheVariants as k
use Rattle.sl_ast.specs.declared.symbols.Mark.TheVariants as m
use Rattle.sl_store_format.specs.Constructors.{PieceLeaves, ShownWordLeaves, SectionLeaves, ActionsLeaves, ConstructorLeaves, HeadLeaves, MacroLeaves}
use Rattle.sl_store_format.specs.Definitions.{AnyMark, AttributeLeaves, RangeLeaves, FieldLeaves, NamesLeaves, DefinitionLeaves, WordLeaves, MemberLeaves}
use Rattle.sl_store_format.specs.Expressions.{Leaves, AllLeaves, count}
use Rattle.sl_store_format.specs.Items.{ItemLeaves}
use Rattle.sl_store_format.specs.Packed.{chain_length, InsideLeaves, AllItemLeaves}
use Rattle.sl_store_format.specs.Actions.{OperandLeaves, ActionLeaves}
use Rattle.sl_store_format.specs.PatternBytes.{PatternLeaves}
use Rattle.sl_store_format.specs.Statements.{StarLeaves, LeftLeaves, DirectLeaves, DestLeaves, TargetLeaves, ExportedLeaves, StatementLeaves}
use Rattle.sl_lex.specs.declared.mode.Mode.{Mode}
use Rattle.sl_lex.specs.declared.mode.Mode.TheVariants.{Top, Head as InHead, Plain, Body, Display, Pattern as InPattern}
use Rattle.sl_store_bytes.specs.Lists.{AreEach, AreSeparated}
use Rattle.sl_store_bytes.specs.Numbers.{greatest}
use Rattle.sl_store_bytes.specs.Words.{IsName}
use Rattle.sl_store_spelling.specs.Modes.{leads, display_word, IsNameIn, AreGiven, At, StaysInside}

-- ---- terminals that are taken

-- What was taken is good, at least so many terminals are gone, and the rest is given in this mode.
record Took (Good : Type 0) (mode : Mode) (least : ℕ) (whole rest : List Sym) : Type 0 where
  good : Good
  after : At mode rest
  fewer : least + length rest ≤ length whole

abbrev took : {Good : Type 0} {mode : Mode} {least : ℕ} {whole rest : List Sym} → Good → At mode rest → least + length rest ≤ length whole → Took Good mode least whole rest
took good after fewer = record { good = good; after = after; fewer = fewer }

-- the terminals after the first
next : {mode : Mode} {s : Sym} {rest : List Sym} → At mode (s ∷ rest) → At (leads mode s) rest
next h = record { given = h.given.1; low = (let low = h.low in omega arith) }

-- a mode that nothing inside leads out of, and whose names are names
record IsCode (mode : Mode) : Type 0 where
  stays : (s : Sym) → StaysInside s → leads mode s ≡ mode
  named : (w : Name) → IsNameIn mode w → IsName w

stays_in_head : (s : Sym) → StaysInside s → leads InHead s ≡ InHead
stays_in_head (mark m.OpenBrace) inside = absurd inside
stays_in_head (word (plain w)) inside = refl
stays_in_head s inside = refl

stays_in_body : (s : Sym) → StaysInside s → leads Body s ≡ Body
stays_in_body (mark m.CloseBrace) inside = absurd inside
stays_in_body (word (plain w)) inside = refl
stays_in_body s inside = refl

stays_in_pattern : (s : Sym) → StaysInside s → leads InPattern s ≡ InPattern
stays_in_pattern (mark m.OpenBrace) inside = absurd inside
stays_in_pattern (word (plain w)) inside = refl
stays_in_pattern (word (quoted k.Unimpl)) inside = absurd inside
stays_in_pattern s inside = refl

head_code : IsCode InHead
head_code = record { stays = stays_in_head; named = λ w named. named }

body_code : IsCode Body
body_code = record { stays = stays_in_body; named = λ w named. named }

pattern_code : IsCode InPattern
pattern_code = record { stays = stays_in_pattern; named = λ w named. named }

-- ---- lists and parts that are optional

abbrev Takes : {A : Type 0} → Mode → ℕ → Spelling A → (A → Type 0) → Type 0
Takes {A = A} mode least spelled Good = (x : A) (rest : List Sym) → At mode (spelled x rest) → Took (Good x) mode least (spelled x rest) rest

module _ {A : Type 0} {mode : Mode} (spelled : Spelling A) (Good : A → Type 0) (each : Takes mode 1 spelled Good) where
  take_all : (xs : List A) (rest : List Sym) → At mode (spell_all spelled xs rest) → Took (Each Good xs) mode (length xs) (spell_all spelled xs rest) rest
  take_all [] rest h = took tt h (omega arith)
  take_all (x ∷ xs) rest h =
      let one = each x (spell_all spelled xs rest) h in
      let others = take_all xs rest one.after in
      took (one.good, others.good) others.after (let few = one.fewer in let fewer = others.fewer in omega arith)

  -- a list that a file can count
  take_list : Takes mode 0 (spell_all spelled) (AreEach Good)
  take_list xs rest h =
      let all = take_all xs rest h in
      let low = h.low in
      let few = all.fewer in
      took (omega arith, all.good) all.after (omega arith)

  take_option : Takes mode 0 (spell_option spelled) (IfWritten Good)
  take_option None rest h = took tt h (omega arith)
  take_option (Some x) rest h = let one = each x rest h in took one.good one.after (let few = one.fewer in omega arith)

-- ---- inside

module _ {mode : Mode} (code : IsCode mode) where
  inner : {s : Sym} {rest : List Sym} → StaysInside s → At mode (s ∷ rest) → At mode rest
  inner {s = s} {rest = rest} inside h = subst (λ here. At here rest) (code.stays s inside) (next h)

  take_name : Takes mode 1 spell_name IsName
  take_name w rest h = took (code.named w h.given.0) (inner tt h) (omega arith)

  module _ {A : Type 0} (spelled : Spelling A) (Good : A → Type 0) (each : Takes mode 1 spelled Good) where
    take_commas : (xs : List A) (rest : List Sym) → At mode (spell_commas spelled xs rest) → Took (Each Good xs) mode (length xs) (spell_commas spelled xs rest) rest
    take_commas [] rest h = took tt h (omega arith)
    take_commas (x ∷ xs) rest h =
        let one = each x (spell_commas spelled xs rest) (inner tt h) in
        let others = take_commas xs rest one.after in
        took (one.good, others.good) others.after (let few = one.fewer in let fewer = others.fewer in omega arith)

    take_separated : Takes mode 0 (spell_separated spelled) (AreSeparated Good)
    take_separated [] rest h = took tt h (omega arith)
    take_separated (x ∷ xs) rest h =
        let one = each x (spell_commas spelled xs rest) h in
        let others = take_commas xs rest one.after in
        let few = one.fewer in
        let fewer = others.fewer in
        let low = h.low in
        took (one.good, (omega arith, others.good)) others.after (omega arith)

  -- ---- expressions

  take_space : Takes mode 0 (spell_option spell_space) (IfWritten IsName)
  take_space None rest h = took tt h (omega arith)
  take_space (Some w) rest h = let one = take_name w (mark m.CloseBracket ∷ rest) (inner tt h) in took one.good (inner tt one.after) (omega arith)

  abbrev Any : {A : Type 0} → A → Type 0
  Any x = Unit {0}

  take_size : Takes mode 0 (spell_option spell_size) Any
  take_size None rest h = took tt h (omega arith)
  take_size (Some n) rest h = took tt (inner tt (inner tt h)) (omega arith)

  binary_stays : (op : BinaryOp) → StaysInside (mark (binary_mark op))
  binary_stays binaries.Multiply = tt
  binary_stays op = tt

  prefix_stays : (op : PrefixOp) → StaysInside (mark (prefix_mark op))
  prefix_stays prefixes.Negate = tt
  prefix_stays op = tt

  relation_stays : (rel : Relation) → StaysInside (mark (relation_mark rel))
  relation_stays relations.Equal = tt
  relation_stays rel = tt

  joint_stays : (op : PatternOp) → StaysInside (mark (pattern_mark op))
  joint_stays joints.And = tt
  joint_stays op = tt

  mutual
    take_expression : (e : Expression) (rest : List Sym) → At mode (spell_expression e rest) → Took (Leaves e) mode 1 (spell_expression e rest) rest
    take_expression (integer n) rest h = took h.given.0 (inner tt h) (omega arith)
    take_expression (named w) rest h = take_name w rest h
    take_expression (paren e) rest h =
        let inside = take_expression e (mark m.Close ∷ rest) (inner tt h) in
        took inside.good (inner tt inside.after) (let few = inside.fewer in omega arith)
    take_expression (call w es) rest h =
        let given = take_arguments es (mark m.Close ∷ rest) (inner tt (inner tt h)) in
        let few = given.fewer in
        let low = h.low in
        took (code.named w h.given.0, omega arith, given.good) (inner tt given.after) (omega arith)
    take_expression (sized e n) rest h =
        let inside = take_expression e (mark m.Colon ∷ number n ∷ rest) h in
        took inside.good (inner tt (inner tt inside.after)) (let few = inside.fewer in omega arith)
    take_expression (dropped e n) rest h =
        let inside = take_expression e (mark m.Open ∷ number n ∷ mark m.Close ∷ rest) h in
        let one = inner tt inside.after in
        took (inside.good, one.given.0) (inner tt (inner tt one)) (let few = inside.fewer in omega arith)
    take_expression (bits e l c) rest h =
        let inside = take_expression e (mark m.OpenBracket ∷ number l ∷ mark m.Comma ∷ number c ∷ mark m.CloseBracket ∷ rest) h in
        let one = inner tt inside.after in
        let two = inner tt (inner tt one) in
        took (inside.good, one.given.0, two.given.0) (inner tt (inner tt two)) (let few = inside.fewer in omega arith)
    take_expression (prefix op e) rest h =
        let inside = take_expression e rest (inner (prefix_stays op) h) in
        took inside.good inside.after (let few = inside.fewer in omega arith)
    take_expression (star place width e) rest h =
        let space = take_space place (spell_option spell_size width (spell_expression e rest)) (inner tt h) in
        let size = take_size width (spell_expression e rest) space.after in
        let inside = take_expression e rest size.after in
        let fewer = space.fewer in
        let few = size.fewer in
        took (space.good, inside.good) inside.after (let least = inside.fewer in omega arith)
    take_expression (binary op l r) rest h =
        let left = take_expression l (mark (binary_mark op) ∷ spell_expression r rest) h in
        let right = take_expression r rest (inner (binary_stays op) left.after) in
        let few = left.fewer in
        took (left.good, right.good) right.after (let fewer = right.fewer in omega arith)

    take_arguments : (es : Expressions) (rest : List Sym) → At mode (spell_arguments es rest) → Took (AllLeaves es) mode (count es) (spell_arguments es rest) rest
    take_arguments no_more rest h = took tt h (omega arith)
    take_arguments (with_more e es) rest h =
        let one = take_expression e (spell_more es rest) h in
        let others = take_more es rest one.after in
        let few = one.fewer in
        took (one.good, others.good) others.after (let fewer = others.fewer in omega arith)

    take_more : (es : Expressions) (rest : List Sym) → At mode (spell_more es rest) → Took (AllLeaves es) mode (count es) (spell_more es rest) rest
    take_more no_more rest h = took tt h (omega arith)
    take_more (with_more e es) rest h =
        let one = take_expression e (spell_more es rest) (inner tt h) in
        let others = take_more es rest one.after in
        let few = one.fewer in
        took (one.good, others.good) others.after (let fewer = others.fewer in omega arith)

  -- ---- patterns and actions

  take_pattern : Takes mode 1 spell_pattern PatternLeaves
  take_pattern (bare w) rest h = take_name w rest h
  take_pattern (constraint w rel e) rest h =
      let inside = take_expression e rest (inner (relation_stays rel) (inner tt h)) in
      took (code.named w h.given.0, inside.good) inside.after (let few = inside.fewer in omega arith)
  take_pattern (group p) rest h =
      let inside = take_pattern p (mark m.Close ∷ rest) (inner tt h) in
      took inside.good (inner tt inside.after) (let few = inside.fewer in omega arith)
  take_pattern (ellipsis p) rest h =
      let inside = take_pattern p (mark m.Ellipsis ∷ rest) h in
      took inside.good (inner tt inside.after) (let few = inside.fewer in omega arith)
  take_pattern (joined op p q) rest h =
      let left = take_pattern p (mark (pattern_mark op) ∷ spell_pattern q rest) h in
      let right = take_pattern q rest (inner (joint_stays op) left.after) in
      let few = left.fewer in
      took (left.good, right.good) right.after (let fewer = right.fewer in omega arith)

  take_operand : Takes mode 1 spell_operand OperandLeaves
  take_operand (by_name w) rest h = take_name w rest h
  take_operand (by_integer n) rest h = took h.given.0 (inner tt h) (omega arith)

  take_action : Takes mode 1 spell_action ActionLeaves
  take_action (set w e) rest h =
      let inside = take_expression e (mark m.Semicolon ∷ rest) (inner tt (inner tt h)) in
      took (code.named w h.given.0, inside.good) (inner tt inside.after) (let few = inside.fewer in omega arith)
  take_action (global_set at w) rest h =
      let there = take_operand at (mark m.Comma ∷ name w ∷ mark m.Close ∷ mark m.Semicolon ∷ rest) (inner tt (inner tt h)) in
      let field = inner tt there.after in
      took (there.good, code.named w field.given.0) (inner tt (inner tt (inner tt field))) (let few = there.fewer in omega arith)

  take_actions : Takes mode 0 (spell_option spell_actions) ActionsLeaves
  take_actions None rest h = took tt h (omega arith)
  take_actions (Some as') rest h =
      let all = take_list spell_action ActionLeaves take_action as' (mark m.CloseBracket ∷ rest) (inner tt h) in
      took all.good (inner tt all.after) (let few = all.fewer in omega arith)

  -- ---- statements

  take_star : Takes mode 1 spell_star StarLeaves
  take_star form rest h =
      let space = take_space form.space (spell_option spell_size form.size rest) (inner tt h) in
      let size = take_size form.size rest space.after in
      let few = space.fewer in
      took space.good size.after (let fewer = size.fewer in omega arith)

  take_left : Takes mode 1 spell_left LeftLeaves
  take_left (left_name w) rest h = take_name w rest h
  take_left (left_bits w l c) rest h =
      let low = inner tt (inner tt h) in
      let count = inner tt (inner tt low) in
      took (code.named w h.given.0, low.given.0, count.given.0) (inner tt (inner tt count)) (omega arith)
  take_left (left_star form e) rest h =
      let front = take_star form (spell_expression e rest) h in
      let inside = take_expression e rest front.after in
      let few = front.fewer in
      took (front.good, inside.good) inside.after (let fewer = inside.fewer in omega arith)

  take_label : Takes mode 1 spell_label IsName
  take_label w rest h = let one = take_name w (mark m.Greater ∷ rest) (inner tt h) in took one.good (inner tt one.after) (omega arith)

  take_direct : Takes mode 1 spell_direct DirectLeaves
  take_direct (to_label w) rest h = take_label w rest h
  take_direct (to_operand o) rest h = take_operand o rest h

  take_computed : Takes mode 1 spell_computed Leaves
  take_computed e rest h =
      let inside = take_expression e (mark m.CloseBracket ∷ rest) (inner tt h) in
      took inside.good (inner tt inside.after) (let few = inside.fewer in omega arith)

  take_dest : Takes mode 1 spell_dest DestLeaves
  take_dest (direct to) rest h = take_direct to rest h
  take_dest (computed e) rest h = take_computed e rest h

  take_target : Takes mode 1 spell_target TargetLeaves
  take_target (calls o) rest h = take_operand o rest h
  take_target (calls_computed e) rest h = take_computed e rest h

  take_exported : Takes mode 1 spell_exported ExportedLeaves
  take_exported (exports w) rest h = take_name w rest h
  take_exported (exports_star form pointer) rest h =
      let front = take_star form (spell_operand pointer rest) h in
      let inside = take_operand pointer rest front.after in
      let few = front.fewer in
      took (front.good, inside.good) inside.after (let fewer = inside.fewer in omega arith)

  take_value : Takes mode 1 spell_value Leaves
  take_value e rest h = let inside = take_expression e rest (inner tt h) in took inside.good inside.after (let few = inside.fewer in omega arith)

  take_statement : Takes mode 1 spell_statement StatementLeaves
  take_statement (local w size value) rest h =
      let named = inner tt h in
      let sized = take_size size (spell_option spell_value value (mark m.Semicolon ∷ rest)) (inner tt named) in
      let valued = take_option spell_value Leaves take_value value (mark m.Semicolon ∷ rest) sized.after in
      let few = sized.fewer in
      took (code.named w named.given.0, valued.good) (inner tt valued.after) (let fewer = valued.fewer in omega arith)
  take_statement (declare w n e) rest h =
      let inside = take_expression e (mark m.Semicolon ∷ rest) (inner tt (inner tt (inner tt (inner tt h)))) in
      took (code.named w h.given.0, inside.good) (inner tt inside.after) (let few = inside.fewer in omega arith)
  take_statement (assign to e) rest h =
      let left = take_left to (mark m.Equals ∷ spell_expression e (mark m.Semicolon ∷ rest)) h in
      let inside = take_expression e (mark m.Semicolon ∷ rest) (inner tt left.after) in
      let few = left.fewer in
      took (left.good, inside.good) (inner tt inside.after) (let fewer = inside.fewer in omega arith)
  take_statement (goto to) rest h =
      let inside = take_dest to (mark m.Semicolon ∷ rest) (inner tt h) in
      took inside.good (inner tt inside.after) (let few = inside.fewer in omega arith)
  take_statement (branch e to) rest h =
      let when = take_expression e (keyword k.Goto ∷ spell_direct to (mark m.Semicolon ∷ rest)) (inner tt h) in
      let there = take_direct to (mark m.Semicolon ∷ rest) (inner tt when.after) in
      let few = when.fewer in
      took (when.good, there.good) (inner tt there.after) (let fewer = there.fewer in omega arith)
  take_statement (call_to to) rest h =
      let inside = take_target to (mark m.Semicolon ∷ rest) (inner tt h) in
      took inside.good (inner tt inside.after) (let few = inside.fewer in omega arith)
  take_statement (return e) rest h =
      let inside = take_computed e (mark m.Semicolon ∷ rest) (inner tt h) in
      took inside.good (inner tt inside.after) (let few = inside.fewer in omega arith)
  take_statement (build w) rest h = let one = take_name w (mark m.Semicolon ∷ rest) (inner tt h) in took one.good (inner tt one.after) (omega arith)
  take_statement (export what) rest h =
      let inside = take_exported what (mark m.Semicolon ∷ rest) (inner tt h) in
      took inside.good (inner tt inside.after) (let few = inside.fewer in omega arith)
  take_statement (invoke w es) rest h =
      let given = take_separated spell_expression Leaves take_expression es (mark m.Close ∷ mark m.Semicolon ∷ rest) (inner tt (inner tt h)) in
      took (code.named w h.given.0, given.good) (inner tt (inner tt given.after)) (let few = given.fewer in omega arith)
  take_statement (label w) rest h = take_label w rest h

-- the statements of a section, in brackets; after them the text goes on at the top
take_body : {mode : Mode} (body : List Statement) (rest : List Sym) → leads mode (mark m.OpenBrace) ≡ Body → At mode (spell_body body rest)
    → Took (AreEach StatementLeaves body) Top 1 (spell_body body rest) rest
take_body body rest opens h =
    let all = take_list spell_statement StatementLeaves (take_statement body_code) body (mark m.CloseBrace ∷ rest)
    (subst (λ here. At here (spell_all spell_statement body (mark m.CloseBrace ∷ rest))) opens (next h)) in
    took all.good (next all.after) (let few = all.fewer in omega arith)

-- ---- definitions, up to their semicolons

take_plain_name : Takes Plain 1 spell_name IsName
take_plain_name w rest h = took h.given.0 (next h) (omega arith)

take_attribute : Takes Plain 1 spell_space_attribute AttributeLeaves
take_attribute (of_type w) rest h = let one = next (next h) in took one.given.0 (next one) (omega arith)
take_attribute (of_size n) rest h = let one = next (next h) in took one.given.0 (next one) (omega arith)
take_attribute (of_word_size n) rest h = took tt (next (next (next h))) (omega arith)
take_attribute is_default rest h = took tt (next h) (omega arith)

take_range : Takes Plain 1 spell_bit_range RangeLeaves
take_range r rest h =
    let register = next (next h) in
    let low = next (next register) in
    let count = next (next low) in
    took (h.given.0, register.given.0, low.given.0, count.given.0) (next (next count)) (omega arith)

take_order : (order : Option ByteOrder) (rest : List Sym) → At Plain (spell_option spell_order order rest) → Took (Unit {0}) Plain 0 (spell_option spell_order order rest) rest
take_order None rest h = took tt h (omega arith)
take_order (Some order) rest h = took tt (next (next (next h))) (omega arith)

take_mark : Takes Plain 1 spell_attribute AnyMark
take_mark x rest h = took tt (next h) (omega arith)

take_field : Takes Plain 1 spell_field FieldLeaves
take_field f rest h =
    let low = next (next (next h)) in
    let high = next (next low) in
    let marks = take_list spell_attribute AnyMark take_mark f.attributes rest (next (next high)) in
    took (h.given.0, low.given.0, high.given.0, marks.good) marks.after (let few = marks.fewer in omega arith)

take_names : Takes Plain 1 spell_names NamesLeaves
take_names (one w) rest h = take_plain_name w rest h
take_names (several ws) rest h =
    let all = take_list spell_name IsName take_plain_name ws (mark m.CloseBracket ∷ rest) (next h) in
    took all.good (next all.after) (let few = all.fewer in omega arith)

take_definition : Takes Plain 1 spell_definition DefinitionLeaves
take_definition (endian order) rest h = took tt (next (next (next h))) (omega arith)
take_definition (alignment n) rest h = let one = next (next h) in took one.given.0 (next one) (omega arith)
take_definition (space w attributes) rest h =
    let named = next h in
    let all = take_list spell_space_attribute AttributeLeaves take_attribute attributes rest (next named) in
    took (named.given.0, all.good) all.after (let few = all.fewer in omega arith)
take_definition (bit_ranges r more) rest h =
    let one = take_range r (spell_all spell_bit_range more rest) (next h) in
    let all = take_list spell_bit_range RangeLeaves take_range more rest one.after in
    let few = one.fewer in
    took (one.good, all.good) all.after (let fewer = all.fewer in omega arith)
take_definition (pcode_ops names) rest h = let all = take_names names rest (next h) in took all.good all.after (let few = all.fewer in omega arith)
take_definition (token w n order fields) rest h =
    let named = next h in
    let bits = next (next named) in
    let ordered = take_order order (spell_all spell_field fields rest) (next (next bits)) in
    let all = take_list spell_field FieldLeaves take_field fields rest ordered.after in
    let few = ordered.fewer in
    took (named.given.0, bits.given.0, all.good) all.after (let fewer = all.fewer in omega arith)
take_definition (context w fields) rest h =
    let named = next h in
    let all = take_list spell_field FieldLeaves take_field fields rest (next named) in
    took (named.given.0, all.good) all.after (let few = all.fewer in omega arith)
take_definition (registers w offset size names) rest h =
    let at = next (next (next h)) in
    let bytes = next (next (next at)) in
    let all = take_names names rest (next bytes) in
    took (h.given.0, at.given.0, bytes.given.0, all.good) all.after (let few = all.fewer in omega arith)

take_member : Takes Plain 1 spell_member MemberLeaves
take_member (member_word (plain w)) rest h = took h.given.0 (next h) (omega arith)
take_member (member_word (quoted keyword)) rest h = took tt (next h) (omega arith)
take_member (member_text t) rest h = took h.given.0 (next h) (omega arith)
take_member (member_integer n) rest h = took h.given.0 (next h) (omega arith)
take_member (member_negative n) rest h = let one = next h in took one.given.0 (next one) (omega arith)

-- ---- displays

shown_stays : (keyword : Keyword) → IsShownWord (quoted keyword) → display_word keyword ≡ Display
shown_stays k.Is shown = absurd shown
shown_stays keyword shown = refl

take_piece : (p : Piece) (rest : List Sym) → IsPiece p → At Display (spell_piece p rest) → Took (PieceLeaves p) Display 1 (spell_piece p rest) rest
take_piece (piece_word (plain w)) rest shown h = took h.given.0 (next h) (omega arith)
take_piece (piece_word (quoted keyword)) rest shown h = took tt (subst (λ here. At here rest) (shown_stays keyword shown) (next h)) (omega arith)
take_piece (piece_text t) rest shown h = took h.given.0 (next h) (omega arith)
take_piece (piece_blank t) rest shown h = took h.given.0 (next h) (omega arith)
take_piece (piece_caret t) rest shown h = took h.given.0 (next h) (omega arith)
take_piece (piece_char t) rest shown h = took h.given.0 (next h) (omega arith)

take_pieces : (ps : List Piece) (rest : List Sym) → Each IsPiece ps → At Display (spell_all spell_piece ps rest) → Took (Each PieceLeaves ps) Display (length ps) (spell_all spell_piece ps rest) rest
take_pieces [] rest shown h = took tt h (omega arith)
take_pieces (p ∷ ps) rest shown h =
    let one = take_piece p (spell_all spell_piece ps rest) shown.0 h in
    let others = take_pieces ps rest shown.1 one.after in
    let few = one.fewer in
    took (one.good, others.good) others.after (let fewer = others.fewer in omega arith)

-- ---- constructors and blocks

take_table : Takes Top 0 (spell_option spell_name) (IfWritten IsName)
take_table None rest h = took tt h (omega arith)
take_table (Some w) rest h = took h.given.0 (next h) (omega arith)

take_section : (s : Section) (rest : List Sym) → At InPattern (spell_section s rest) → Took (SectionLeaves s) Top 1 (spell_section s rest) rest
take_section (statements body) rest h = take_body body rest refl h
take_section unimplemented rest h = took tt (next h) (omega arith)

take_constructor : (c : Constructor) (rest : List Sym) → IsConstructor heaviest c → At Top (spell_constructor c rest) → Took (ConstructorLeaves c) Top 1 (spell_constructor c rest) rest
take_constructor c rest formed h =
    let section = spell_section c.section rest in
    let actions = spell_option spell_actions c.actions section in
    let pattern = spell_pattern c.pattern actions in
    let display = spell_all spell_piece c.display (keyword k.Is ∷ pattern) in
    let table = take_table c.table (mark m.Colon ∷ display) h in
    let shown = take_pieces c.display (keyword k.Is ∷ pattern) formed.display (next table.after) in
    let matched = take_pattern pattern_code c.pattern actions (next shown.after) in
    let acts = take_actions pattern_code c.actions section matched.after in
    let body = take_section c.section rest acts.after in
    let low = h.low in
    let one = table.fewer in
    let two = shown.fewer in
    let three = matched.fewer in
    let four = acts.fewer in
    let five = body.fewer in
    took (record { table = table.good; display = (omega arith, shown.good); pattern = matched.good; actions = acts.good; section = body.good }) body.after (omega arith)

take_head_table : Takes InHead 0 (spell_option spell_name) (IfWritten IsName)
take_head_table = take_option spell_name IsName (take_name head_code)

take_head : (d : Head) (rest : List Sym) → At Top (spell_head d rest) → Took (HeadLeaves d) Top 1 (spell_head d rest) rest
take_head d rest h =
    let actions = spell_option spell_actions d.actions (mark m.OpenBrace ∷ rest) in
    let pattern = spell_option spell_pattern d.pattern actions in
    let table = take_head_table d.table (mark m.Colon ∷ pattern) (next h) in
    let matched = take_option spell_pattern PatternLeaves (take_pattern head_code) d.pattern actions (next table.after) in
    let acts = take_actions head_code d.actions (mark m.OpenBrace ∷ rest) matched.after in
    let one = table.fewer in
    let two = matched.fewer in
    let three = acts.fewer in
    took (record { table = table.good; pattern = matched.good; actions = acts.good }) (next acts.after) (omega arith)

take_macro : (d : Macro) (rest : List Sym) → At Top (spell_macro d rest) → Took (MacroLeaves d) Top 1 (spell_macro d rest) rest
take_macro d rest h =
    let named = next h in
    let given = take_separated body_code spell_name IsName (take_name body_code) d.parameters (mark m.Close ∷ spell_body d.body rest) (next (next named)) in
    let body = take_body d.body rest refl (next given.after) in
    let one = given.fewer in
    let two = body.fewer in
    took (record { name = named.given.0; parameters = given.good; body = body.good }) body.after (omega arith)

take_inside : (n : ℕ) (inside : Inside) (rest : List Sym) → IsInside heaviest n inside → At Top (spell_inside inside rest)
    → Took (InsideLeaves inside) Top (chain_length inside) (spell_inside inside rest) rest
take_inside n nothing rest formed h = took tt h (omega arith)
take_inside n (constructor_then c more) rest formed h =
    let one = take_constructor c (spell_inside more rest) formed.0 h in
    let others = take_inside n more rest formed.1 one.after in
    let few = one.fewer in
    took (one.good, others.good) others.after (let fewer = others.fewer in omega arith)
take_inside zero (block_then d inside more) rest formed h = absurd formed
take_inside (suc n) (block_then d inside more) rest formed h =
    let head = take_head d (spell_inside inside (mark m.CloseBrace ∷ spell_inside more rest)) h in
    let within = take_inside n inside (mark m.CloseBrace ∷ spell_inside more rest) formed.1 head.after in
    let others = take_inside (suc n) more rest formed.2 (next within.after) in
    let one = head.fewer in
    let two = within.fewer in
    let three = others.fewer in
    let low = h.low in
    took (head.good, omega arith, within.good, others.good) others.after (omega arith)

-- ---- items

take_item : (i : Item) (rest : List Sym) → IsItem heaviest deepest i → At Top (spell_item i rest) → Took (AllItemLeaves i) Top 1 (spell_item i rest) rest
take_item (define d) rest formed h =
    let inside = take_definition d (mark m.Semicolon ∷ rest) (next h) in
    took inside.good (next inside.after) (let few = inside.fewer in omega arith)
take_item (attach_list kind names members) rest formed h =
    let named = take_names names (mark m.OpenBracket ∷ spell_all spell_member members (mark m.CloseBracket ∷ mark m.Semicolon ∷ rest)) (next (next h)) in
    let all = take_list spell_member MemberLeaves take_member members (mark m.CloseBracket ∷ mark m.Semicolon ∷ rest) (next named.after) in
    let few = named.fewer in
    took (named.good, all.good) (next (next all.after)) (let fewer = all.fewer in omega arith)
take_item (attach_one kind names member) rest formed h =
    let named = take_names names (spell_member member (mark m.Semicolon ∷ rest)) (next (next h)) in
    let one = take_member member (mark m.Semicolon ∷ rest) named.after in
    let few = named.fewer in
    took (named.good, one.good) (next one.after) (let fewer = one.fewer in omega arith)
take_item (macro d) rest formed h = take_macro d rest h
take_item (constructor c) rest formed h = take_constructor c rest formed h
take_item (block d inside) rest formed h =
    let head = take_head d (spell_inside inside (mark m.CloseBrace ∷ rest)) h in
    let within = take_inside deepest inside (mark m.CloseBrace ∷ rest) formed.1 head.after in
    let one = head.fewer in
    let two = within.fewer in
    let low = h.low in
    took (head.good, omega arith, within.good) (next within.after) (omega arith)

take_items : (items : List Item) → Each (IsItem heaviest deepest) items → At Top (spell_all spell_item items [])
    → Took (Each AllItemLeaves items) Top (length items) (spell_all spell_item items []) []
take_items [] formed h = took tt h (omega arith)
take_items (i ∷ items) formed h =
    let one = take_item i (spell items) formed.0 h in
    let others = take_items items formed.1 one.after in
    let few = one.fewer in
    took (one.good, others.good) others.after (let fewer = others.fewer in omega arith)

-- the items have such leaves, and a file can count them
pub given_items : (items : List Item) → AreItems items → At Top (spell items) → (length items ≤ greatest) × Each AllItemLeaves items
given_items items formed h =
    let all = take_items items formed h in
    let few = all.fewer in
    let low = h.low in
    (omega arith, all.good)
