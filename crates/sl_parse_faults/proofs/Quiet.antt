-- Readers that never tell a name in a constraint: all outside the constraints of patterns.
use Rattle.std.proofs.Common.{◌≡◌, ℕ, zero, suc, ◌&&◌, ◌==◌, Bool, true, false, cond, nat_le, List, [], ◌∷◌, ◌++◌, length, Option, None, Some, Ok, Err, refl, codes}
use Rattle.sl_ast.specs.Operators.{Kind, in_section, in_action, in_constraint, is_section, right_rank, loosest, takes_size, takes_bits, takes_drop, missing_function, missing_statement, widest}
use Rattle.sl_ast.specs.Symbols.{plain, quoted, same_bytes, Sym, number, word, text, mark}
use Rattle.sl_ast.specs.Trees.{Name, Expression, integer, named, paren, call, sized, dropped, bits, prefix, star, binary, by_name, by_integer, set, global_set, left_name, left_bits, left_star, to_label, to_operand, direct, computed, calls, calls_computed, exports, exports_star, local, declare, assign, goto, branch, call_to, return, build, export, invoke, label, of_type, of_size, of_word_size, is_default, one, several, endian, alignment, space, bit_ranges, pcode_ops, token, context, registers, member_word, member_text, member_integer, member_negative, define, attach_list, attach_one, macro}
use Rattle.sl_ast.specs.Views.{arguments}
use Rattle.sl_ast.specs.declared.definitions.AttachKind.TheVariants as a
use Rattle.sl_ast.specs.declared.definitions.ByteOrder.TheVariants as o
use Rattle.sl_ast.specs.declared.definitions.FieldAttribute.TheVariants as fa
use Rattle.sl_ast.specs.declared.expressions.PrefixOp.{PrefixOp}
use Rattle.sl_ast.specs.declared.expressions.PrefixOp.TheVariants as p
use Rattle.sl_ast.specs.declared.symbols.Feature.{Feature}
use Rattle.sl_ast.specs.declared.symbols.Feature.TheVariants as f
use Rattle.sl_ast.specs.declared.symbols.Keyword.{Keyword}
use Rattle.sl_ast.specs.declared.symbols.Keyword.TheVariants as k
use Rattle.sl_ast.specs.declared.symbols.Mark.{Mark}
use Rattle.sl_ast.specs.declared.symbols.Mark.TheVariants as m
use Rattle.sl_parse_grammar.specs.Climb.{climb, turned}
use Rattle.sl_parse_grammar.specs.Definitions.{order_by, order, checked_size, word_size_by, type_here, size_attribute, word_size_here, space_attribute_by, space_attribute, bit_range, is_attribute, attribute_by, attribute, field, name_list, names_by, names, alignment_here, space_here, bit_ranges_here, pcode_ops_here, token_here, context_here, registers_here, definition_by, definition, kind_by, attach_kind, member_by, member}
use Rattle.sl_parse_grammar.specs.Expressions.{turn, bracketed, called, called_by, after_name, name_in, missing_name_in, atom, atom_by, size_behind, drop_behind, bits_behind, behind, postfix, prefixed, space_in, starred, prefix_by, tight, expression, with_room, whole}
use Rattle.sl_parse_grammar.specs.Items.{define_here, attach_here, macro_here}
use Rattle.sl_parse_grammar.specs.Lists.{many_from, many, separated_from, separated, listed}
use Rattle.sl_parse_grammar.specs.Reader.{Form, nesting, unsupported, fault, Input, at, left, first, Outcome, Reader, and_then, ◌>>=◌, ◌>>◌, pure, skip, enter, refused_as, refuse, look, is_mark, is_keyword, expect, expect_keyword, number_by, integer_here, name_by, name_here, size_by, size_here, optional, size_option}
use Rattle.sl_parse_grammar.specs.Statements.{operand_by, operand, space_name, star_form, label_here, direct_by, direct_here, exported_by, exported, build_here, export_here, until, global_set_here, value_here, computed_here, dest_by, dest, target_by, target, local_here, goto_here, branch_here, call_here, return_here, star_here, declare_here, assign_here, bits_here, invoke_here, invoke_by, named_by, begun_by, statement_by, statement, body, set_here, action_by, action, actions}

-- how a name in a constraint is told
abbrev pub name_there : Form
name_there = unsupported f.NameInConstraint 0

abbrev pub TellsName : {A : Type 0} → Outcome A → Type 0
TellsName (Ok p) = ⊥
TellsName (Err e) = e.form ≡ name_there

pub record Quiet {A : Type 0} (p : Reader A) : Type 0 where
  pub quiet : (i : Input) → TellsName (p i) → ⊥

-- ---- steps

then_silent : {A B : Type 0} (o : Outcome A) (go : A → Reader B) → (TellsName o → ⊥) → ((a : A) → Quiet (go a)) → TellsName (and_then o go) → ⊥
then_silent (Ok p) go here later told = (later p.0).quiet p.1 told
then_silent (Err e) go here later told = here told

quiet_then : {A B : Type 0} {p : Reader A} {go : A → Reader B} → Quiet p → ((a : A) → Quiet (go a)) → Quiet (p >>= go)
quiet_then {p = p} {go = go} here later = record { quiet = λ i told. then_silent (p i) go (here.quiet i) later told }

quiet_pure : {A : Type 0} (a : A) → Quiet (pure a)
quiet_pure a = record { quiet = λ i told. told }

quiet_skip : Quiet skip
quiet_skip = record { quiet = λ i told. told }

quiet_skips : {A : Type 0} {p : Reader A} → Quiet p → Quiet (skip >> p)
quiet_skips here = quiet_then quiet_skip (λ _. here)

quiet_fault : {A : Type 0} (form : Form) → (form ≡ name_there → ⊥) → Quiet {A = A} (λ i. Err (fault form (left i)))
quiet_fault form other = record { quiet = λ i told. other told }

pub refused_otherwise : (o : Option Sym) → refused_as o ≡ name_there → ⊥
refused_otherwise (Some (mark m.Floating)) e = absurd (cc)
refused_otherwise (Some (word (quoted k.InstNext2))) e = absurd (cc)
refused_otherwise o e = absurd (cc)

quiet_refuse : {A : Type 0} → Quiet {A = A} refuse
quiet_refuse = record { quiet = λ i told. refused_otherwise (first i.rest) told }

quiet_peek : {A : Type 0} {go : Option Sym → Reader A} → ((o : Option Sym) → Quiet (go o)) → Quiet (λ i. go (first i.rest) i)
quiet_peek here = record { quiet = λ i told. (here (first i.rest)).quiet i told }

quiet_if : {A : Type 0} (b : Bool) {p q : Reader A} → Quiet p → Quiet q → Quiet (λ i. cond {A = Reader A} b p q i)
quiet_if true there not_there = there
quiet_if false there not_there = not_there

quiet_look : {A : Type 0} (test : Option Sym → Bool) {p q : Reader A} → Quiet p → Quiet q → Quiet (look test p q)
quiet_look test there not_there = quiet_peek (λ o. quiet_if (test o) there not_there)

quiet_expect : (k : Mark) → Quiet (expect k)
unfolding expect
quiet_expect k = quiet_look (is_mark k) quiet_skip quiet_refuse

quiet_keyword : (k : Keyword) → Quiet (expect_keyword k)
unfolding expect_keyword
quiet_keyword k = quiet_look (is_keyword k) quiet_skip quiet_refuse

number_by_quiet : (o : Option Sym) → Quiet (number_by o)
number_by_quiet (Some (number n)) = quiet_skips (quiet_pure n)
number_by_quiet o = quiet_refuse

quiet_integer : Quiet integer_here
unfolding integer_here
quiet_integer = quiet_peek number_by_quiet

name_by_quiet : (o : Option Sym) → Quiet (name_by o)
name_by_quiet (Some (word (plain w))) = quiet_skips (quiet_pure w)
name_by_quiet o = quiet_refuse

quiet_name : Quiet name_here
unfolding name_here
quiet_name = quiet_peek name_by_quiet

size_by_quiet : (o : Option Sym) → Quiet (size_by o)
size_by_quiet (Some (number n)) = quiet_if (nat_le n widest) (quiet_skips (quiet_pure n)) (quiet_fault (unsupported f.WideValue 0) (λ e. absurd (cc)))
size_by_quiet o = quiet_refuse

quiet_size : Quiet size_here
unfolding size_here
quiet_size = quiet_peek size_by_quiet

quiet_optional : {A : Type 0} (test : Option Sym → Bool) {p : Reader A} → Quiet p → Quiet (optional test p)
quiet_optional test here = quiet_look test (quiet_then here (λ a. quiet_pure (Some a))) (quiet_pure None)

quiet_size_option : Quiet size_option
unfolding size_option
quiet_size_option = quiet_optional (is_mark m.Colon) (quiet_skips quiet_size)

enter_silent : (i : Input) (r : ℕ) → TellsName (enter (at i.rest r)) → ⊥
unfolding enter
enter_silent i zero told = absurd (cc)
enter_silent i (suc r) told = told

quiet_enter : Quiet enter
quiet_enter = record { quiet = λ i told. enter_silent i i.room told }

quiet_enters : {A : Type 0} {p : Reader A} → Quiet p → Quiet (enter >> p)
quiet_enters here = quiet_then quiet_enter (λ _. here)

quiet_rounds : {A : Type 0} {q : ℕ → Reader A} → ((n : ℕ) → Quiet (q n)) → Quiet (λ i. q (suc (length i.rest)) i)
quiet_rounds here = record { quiet = λ i told. (here (suc (length i.rest))).quiet i told }

many_from_quiet : {A : Type 0} (goes : Option Sym → Bool) (p : Reader A) → Quiet p → (n : ℕ) (found : List A) → Quiet (many_from goes p n found)
unfolding many_from
many_from_quiet goes p here zero found = quiet_refuse
many_from_quiet goes p here (suc n) found = quiet_look goes (quiet_then here (λ a. many_from_quiet goes p here n (found ++ a ∷ []))) (quiet_pure found)

quiet_many : {A : Type 0} (goes : Option Sym → Bool) {p : Reader A} → Quiet p → Quiet (many goes p)
quiet_many goes {p = p} here = quiet_rounds {q = λ n. many_from goes p n []} (λ n. many_from_quiet goes p here n [])

separated_from_quiet : {A : Type 0} (p : Reader A) → Quiet p → (n : ℕ) (found : List A) → Quiet (separated_from p n found)
unfolding separated_from
separated_from_quiet p here zero found = quiet_refuse
separated_from_quiet p here (suc n) found =
    quiet_then here (λ a. quiet_look (is_mark m.Comma) (quiet_skips (separated_from_quiet p here n (found ++ a ∷ []))) (quiet_pure (found ++ a ∷ [])))

quiet_separated : {A : Type 0} {p : Reader A} → Quiet p → Quiet (separated p)
quiet_separated {p = p} here = quiet_rounds {q = λ n. separated_from p n []} (λ n. separated_from_quiet p here n [])

quiet_listed : {A : Type 0} {p : Reader A} → Quiet p → Quiet (listed p)
unfolding listed
quiet_listed here = quiet_look (is_mark m.Close) (quiet_pure []) (quiet_separated here)

-- a tree that is wrapped
quiet_wrap : {A B : Type 0} {p : Reader A} (wrap : A → B) → Quiet p → Quiet (p >>= (λ a. pure (wrap a)))
quiet_wrap wrap here = quiet_then here (λ a. quiet_pure (wrap a))

-- before a semicolon
quiet_ended : {A : Type 0} (a : A) → Quiet (expect m.Semicolon >> pure a)
quiet_ended a = quiet_then (quiet_expect m.Semicolon) (λ _. quiet_pure a)

room_silent : {A : Type 0} (r : ℕ) (o : Outcome A) → (TellsName o → ⊥) → TellsName (with_room r o) → ⊥
room_silent r (Ok p) h told = told
room_silent r (Err e) h told = h told

-- ---- expressions of sections and actions

abbrev pub HasNames : Kind → Type 0
HasNames in_constraint = ⊥
HasNames kind = Unit {0}

module _ {A Op : Type 0} (step : A → Option Sym → Option Op) (right : Op → ℕ) (join : Op → A → A → A) (inner : ℕ → Reader A) (here : (n : ℕ) → Quiet (inner n)) where
  turned_quiet : (go : Op → Reader A) → ((op : Op) → Quiet (go op)) → (l : A) (x : Option Op) → Quiet (turned go l x)
  turned_quiet go goes l None = quiet_pure l
  turned_quiet go goes l (Some op) = goes op

  climb_quiet : (n : ℕ) (l : A) → Quiet (climb step right join inner n l)
  unfolding climb
  climb_quiet zero l = quiet_pure l
  climb_quiet (suc n) l =
      quiet_peek (λ o. turned_quiet _ (λ op. quiet_enters (quiet_then (here (right op)) (λ r. climb_quiet n (join op l r)))) l (step l o))

  grown_quiet : (l : A) → Quiet (λ i. climb step right join inner (suc i.room) l i)
  grown_quiet l = record { quiet = λ i told. (climb_quiet (suc i.room) l).quiet i told }

module _ (kind : Kind) (names : HasNames kind) (inner : ℕ → Reader Expression) (here : (n : ℕ) → Quiet (inner n)) where
  bracketed_quiet : Quiet (bracketed kind inner)
  unfolding bracketed
  bracketed_quiet = quiet_enters (quiet_then (here loosest) (λ e. quiet_then (quiet_expect m.Close) (λ _. quiet_pure (paren e))))

  called_quiet : (w : Name) → Quiet (called kind inner w)
  unfolding called
  called_quiet w = quiet_enters (quiet_then (quiet_separated (here loosest)) (λ es. quiet_then (quiet_expect m.Close) (λ _. quiet_pure (call w (arguments es)))))

  called_by_quiet : (w : Name) (x : Option Feature) → Quiet (called_by kind inner w x)
  called_by_quiet w None = called_quiet w
  called_by_quiet w (Some feature) = quiet_fault (unsupported feature 1) (λ e. absurd (cc))

  after_name_quiet : (w : Name) → Quiet (after_name kind inner w)
  unfolding after_name
  after_name_quiet w = quiet_look (is_mark m.Open) (called_by_quiet w (missing_function w)) (quiet_pure (named w))

  name_in_quiet : (place : Kind) → HasNames place → (w : Name) → Quiet (name_in kind inner place w)
  name_in_quiet in_section has w = quiet_skips (after_name_quiet w)
  name_in_quiet in_action has w = quiet_skips (quiet_pure (named w))
  name_in_quiet in_constraint has w = absurd has

  missing_name_quiet : (place : Kind) → HasNames place → Quiet (missing_name_in kind inner place)
  missing_name_quiet in_section has = quiet_refuse
  missing_name_quiet in_action has = quiet_refuse
  missing_name_quiet in_constraint has = absurd has

  atom_by_quiet : (o : Option Sym) → Quiet (atom_by kind inner o)
  atom_by_quiet (Some (number n)) = quiet_skips (quiet_pure (integer n))
  atom_by_quiet (Some (word (plain w))) = name_in_quiet kind names w
  atom_by_quiet (Some (word (quoted k.InstNext2))) = missing_name_quiet kind names
  atom_by_quiet (Some (mark m.Open)) = bracketed_quiet
  atom_by_quiet o = quiet_refuse

  size_behind_quiet : (e : Expression) → Quiet (size_behind e)
  unfolding size_behind
  size_behind_quiet e = quiet_skips (quiet_then quiet_size (λ n. quiet_pure (sized e n)))

  drop_behind_quiet : (e : Expression) → Quiet (drop_behind e)
  unfolding drop_behind
  drop_behind_quiet e = quiet_enters (quiet_then quiet_integer (λ n. quiet_then (quiet_expect m.Close) (λ _. quiet_pure (dropped e n))))

  bits_behind_quiet : (e : Expression) → Quiet (bits_behind e)
  unfolding bits_behind
  bits_behind_quiet e =
      quiet_enters (quiet_then quiet_integer (λ l. quiet_then (quiet_expect m.Comma) (λ _. quiet_then quiet_integer (λ c. quiet_then (quiet_expect m.CloseBracket)
      (λ _. quiet_pure (bits e l c))))))

  behind_quiet : (e : Expression) → Quiet (behind e)
  unfolding behind
  behind_quiet e =
      quiet_look (λ o. is_mark m.Colon o && takes_size e) (size_behind_quiet e)
      (quiet_look (λ o. is_mark m.Open o && takes_drop e) (drop_behind_quiet e)
      (quiet_look (λ o. is_mark m.OpenBracket o && takes_bits e) (bits_behind_quiet e) (quiet_pure e)))

  postfix_quiet : Quiet (postfix kind inner)
  unfolding postfix atom
  postfix_quiet = quiet_then (quiet_peek atom_by_quiet) (λ e. quiet_if (is_section kind) (behind_quiet e) (quiet_pure e))

  prefixed_quiet : (op : PrefixOp) → Quiet (prefixed kind inner op)
  unfolding prefixed
  prefixed_quiet op = quiet_enters (quiet_then (here 0) (λ e. quiet_pure (prefix op e)))

  space_quiet : Quiet space_in
  unfolding space_in
  space_quiet = quiet_optional (is_mark m.OpenBracket) (quiet_enters (quiet_then quiet_name (λ w. quiet_then (quiet_expect m.CloseBracket) (λ _. quiet_pure w))))

  starred_quiet : Quiet (starred kind inner)
  unfolding starred
  starred_quiet = quiet_enters (quiet_then space_quiet (λ place. quiet_then quiet_size_option (λ width. quiet_then (here 0) (λ e. quiet_pure (star place width e)))))

  prefix_by_quiet : (o : Option Sym) → Quiet (prefix_by kind inner o)
  prefix_by_quiet (Some (mark m.Minus)) = prefixed_quiet p.Negate
  prefix_by_quiet (Some (mark m.Tilde)) = prefixed_quiet p.Complement
  prefix_by_quiet (Some (mark m.Exclamation)) = quiet_if (is_section kind) (prefixed_quiet p.Not) quiet_refuse
  prefix_by_quiet (Some (mark m.Star)) = quiet_if (is_section kind) starred_quiet quiet_refuse
  prefix_by_quiet (Some (mark m.Ampersand)) = quiet_fault (unsupported f.AddressOf 0) (λ e. absurd (cc))
  prefix_by_quiet o = postfix_quiet

  tight_quiet : Quiet (tight kind inner)
  unfolding tight
  tight_quiet = quiet_peek prefix_by_quiet

expression_quiet : (kind : Kind) → HasNames kind → (n rank : ℕ) → Quiet (expression kind n rank)
unfolding expression
expression_quiet kind names zero rank = quiet_fault nesting (λ e. absurd (cc))
expression_quiet kind names (suc n) rank =
    quiet_then (tight_quiet kind names (expression kind n) (expression_quiet kind names n))
    (λ e. grown_quiet (turn kind rank) right_rank binary (expression kind n) (expression_quiet kind names n) e)

-- ---- parts of statements

operand_by_quiet : (o : Option Sym) → Quiet (operand_by o)
operand_by_quiet (Some (number n)) = quiet_skips (quiet_pure (by_integer n))
operand_by_quiet (Some (word (plain w))) = quiet_skips (quiet_pure (by_name w))
operand_by_quiet o = quiet_refuse

operand_quiet : Quiet operand
unfolding operand
operand_quiet = quiet_peek operand_by_quiet

space_name_quiet : Quiet space_name
unfolding space_name
space_name_quiet = quiet_then (quiet_expect m.OpenBracket) (λ _. quiet_then quiet_name (λ w. quiet_then (quiet_expect m.CloseBracket) (λ _. quiet_pure w)))

star_form_quiet : Quiet star_form
unfolding star_form
star_form_quiet =
    quiet_then (quiet_expect m.Star) (λ _. quiet_then (quiet_optional (is_mark m.OpenBracket) space_name_quiet)
    (λ space. quiet_then quiet_size_option (λ size. quiet_pure (record { space = space; size = size }))))

label_quiet : Quiet label_here
unfolding label_here
label_quiet = quiet_then (quiet_expect m.Less) (λ _. quiet_then quiet_name (λ w. quiet_then (quiet_expect m.Greater) (λ _. quiet_pure w)))

direct_by_quiet : (o : Option Sym) → Quiet (direct_by o)
direct_by_quiet (Some (mark m.Less)) = quiet_wrap to_label label_quiet
direct_by_quiet o = quiet_wrap to_operand operand_quiet

direct_quiet : Quiet direct_here
unfolding direct_here
direct_quiet = quiet_peek direct_by_quiet

exported_by_quiet : (o : Option Sym) → Quiet (exported_by o)
exported_by_quiet (Some (mark m.Star)) = quiet_then star_form_quiet (λ form. quiet_then operand_quiet (λ pointer. quiet_pure (exports_star form pointer)))
exported_by_quiet o = quiet_wrap exports quiet_name

exported_quiet : Quiet exported
unfolding exported
exported_quiet = quiet_peek exported_by_quiet

build_quiet : Quiet build_here
unfolding build_here
build_quiet = quiet_then (quiet_keyword k.Build) (λ _. quiet_then quiet_name (λ w. quiet_ended (build w)))

export_quiet : Quiet export_here
unfolding export_here
export_quiet = quiet_then (quiet_keyword k.Export) (λ _. quiet_then exported_quiet (λ what. quiet_ended (export what)))

global_set_quiet : Quiet global_set_here
unfolding global_set_here
global_set_quiet =
    quiet_then (quiet_keyword k.GlobalSet) (λ _. quiet_then (quiet_expect m.Open) (λ _. quiet_then operand_quiet (λ to. quiet_then (quiet_expect m.Comma)
    (λ _. quiet_then quiet_name (λ w. quiet_then (quiet_expect m.Close) (λ _. quiet_ended (global_set to w)))))))

by_tests : (b c : Bool) (feature : Feature) → cond b (Some f.Crossbuild) (cond c (Some f.DelaySlot) None) ≡ Some feature → unsupported feature 0 ≡ name_there → ⊥
by_tests true c feature is told = absurd (cc)
by_tests false true feature is told = absurd (cc)
by_tests false false feature is told = absurd (cc)

-- a word that begins no statement is told otherwise
no_statement : (w : Name) (feature : Feature) → missing_statement w ≡ Some feature → unsupported feature 0 ≡ name_there → ⊥
unfolding missing_statement
no_statement w feature is told = by_tests (same_bytes w (codes "crossbuild")) (same_bytes w (codes "delayslot")) feature is told

-- ---- sections and actions, within a limit of operators and opening brackets

module _ (most : ℕ) where
  whole_quiet : (kind : Kind) → HasNames kind → Quiet (whole most kind)
  unfolding whole
  whole_quiet kind names = record {
    quiet = λ i told. room_silent i.room _ (λ t. (expression_quiet kind names (suc most) loosest).quiet (at i.rest most) t) told;
  }

  value_quiet : Quiet (value_here most)
  unfolding value_here
  value_quiet = quiet_then (quiet_expect m.Equals) (λ _. quiet_wrap (λ e. e) (whole_quiet in_section tt))

  computed_quiet : Quiet (computed_here most)
  unfolding computed_here
  computed_quiet = quiet_then (quiet_expect m.OpenBracket) (λ _. quiet_then (whole_quiet in_section tt) (λ e. quiet_then (quiet_expect m.CloseBracket) (λ _. quiet_pure e)))

  dest_by_quiet : (o : Option Sym) → Quiet (dest_by most o)
  dest_by_quiet (Some (mark m.OpenBracket)) = quiet_wrap computed computed_quiet
  dest_by_quiet o = quiet_wrap direct direct_quiet

  dest_quiet : Quiet (dest most)
  unfolding dest
  dest_quiet = quiet_peek dest_by_quiet

  target_by_quiet : (o : Option Sym) → Quiet (target_by most o)
  target_by_quiet (Some (mark m.OpenBracket)) = quiet_wrap calls_computed computed_quiet
  target_by_quiet o = quiet_wrap calls operand_quiet

  target_quiet : Quiet (target most)
  unfolding target
  target_quiet = quiet_peek target_by_quiet

  local_quiet : Quiet (local_here most)
  unfolding local_here
  local_quiet =
      quiet_then (quiet_keyword k.Local) (λ _. quiet_then quiet_name (λ w. quiet_then quiet_size_option
      (λ size. quiet_then (quiet_optional (is_mark m.Equals) value_quiet) (λ value. quiet_ended (local w size value)))))

  goto_quiet : Quiet (goto_here most)
  unfolding goto_here
  goto_quiet = quiet_then (quiet_keyword k.Goto) (λ _. quiet_then dest_quiet (λ to. quiet_ended (goto to)))

  branch_quiet : Quiet (branch_here most)
  unfolding branch_here
  branch_quiet =
      quiet_then (quiet_keyword k.If) (λ _. quiet_then (whole_quiet in_section tt) (λ e. quiet_then (quiet_keyword k.Goto) (λ _. quiet_then direct_quiet (λ to. quiet_ended (branch e to)))))

  call_quiet : Quiet (call_here most)
  unfolding call_here
  call_quiet = quiet_then (quiet_keyword k.Call) (λ _. quiet_then target_quiet (λ to. quiet_ended (call_to to)))

  return_quiet : Quiet (return_here most)
  unfolding return_here
  return_quiet = quiet_then (quiet_keyword k.Return) (λ _. quiet_then computed_quiet (λ e. quiet_ended (return e)))

  star_quiet : Quiet (star_here most)
  unfolding star_here
  star_quiet = quiet_then star_form_quiet (λ form. quiet_then (whole_quiet in_section tt) (λ pointer. quiet_then value_quiet (λ e. quiet_ended (assign (left_star form pointer) e))))

  declare_quiet : (w : Name) → Quiet (declare_here most w)
  unfolding declare_here
  declare_quiet w = quiet_then (quiet_expect m.Colon) (λ _. quiet_then quiet_size (λ n. quiet_then value_quiet (λ e. quiet_ended (declare w n e))))

  assign_quiet : (w : Name) → Quiet (assign_here most w)
  unfolding assign_here
  assign_quiet w = quiet_then value_quiet (λ e. quiet_ended (assign (left_name w) e))

  bits_quiet : (w : Name) → Quiet (bits_here most w)
  unfolding bits_here
  bits_quiet w =
      quiet_then (quiet_expect m.OpenBracket) (λ _. quiet_then quiet_integer (λ l. quiet_then (quiet_expect m.Comma) (λ _. quiet_then quiet_integer
      (λ c. quiet_then (quiet_expect m.CloseBracket) (λ _. quiet_then value_quiet (λ e. quiet_ended (assign (left_bits w l c) e)))))))

  invoke_quiet : (w : Name) → Quiet (invoke_here most w)
  unfolding invoke_here
  invoke_quiet w = quiet_then (quiet_expect m.Open) (λ _. quiet_then (quiet_listed (whole_quiet in_section tt)) (λ es. quiet_then (quiet_expect m.Close) (λ _. quiet_ended (invoke w es))))

  invoke_by_quiet : (w : Name) (x : Option Feature) → Quiet (invoke_by most w x)
  invoke_by_quiet w None = invoke_quiet w
  invoke_by_quiet w (Some feature) = quiet_fault (unsupported feature 1) (λ e. absurd (cc))

  named_by_quiet : (w : Name) (o : Option Sym) → Quiet (named_by most w o)
  named_by_quiet w (Some (mark m.Colon)) = declare_quiet w
  named_by_quiet w (Some (mark m.OpenBracket)) = bits_quiet w
  named_by_quiet w (Some (mark m.Open)) = invoke_by_quiet w (missing_function w)
  named_by_quiet w o = assign_quiet w

  begun_by_quiet : (w : Name) (x : Option Feature) → missing_statement w ≡ x → Quiet (begun_by most w x)
  begun_by_quiet w None is = quiet_skips (quiet_peek (named_by_quiet w))
  begun_by_quiet w (Some feature) is = quiet_fault (unsupported feature 0) (λ e. no_statement w feature is e)

  statement_by_quiet : (o : Option Sym) → Quiet (statement_by most o)
  statement_by_quiet (Some (word (quoted k.Local))) = local_quiet
  statement_by_quiet (Some (word (quoted k.Goto))) = goto_quiet
  statement_by_quiet (Some (word (quoted k.If))) = branch_quiet
  statement_by_quiet (Some (word (quoted k.Call))) = call_quiet
  statement_by_quiet (Some (word (quoted k.Return))) = return_quiet
  statement_by_quiet (Some (word (quoted k.Build))) = build_quiet
  statement_by_quiet (Some (word (quoted k.Export))) = export_quiet
  statement_by_quiet (Some (word (plain w))) = begun_by_quiet w (missing_statement w) refl
  statement_by_quiet (Some (mark m.Star)) = star_quiet
  statement_by_quiet (Some (mark m.Less)) = quiet_wrap label label_quiet
  statement_by_quiet o = quiet_refuse

  statement_quiet : Quiet (statement most)
  unfolding statement
  statement_quiet = quiet_peek statement_by_quiet

  pub body_quiet : Quiet (body most)
  unfolding body
  body_quiet = quiet_then (quiet_expect m.OpenBrace) (λ _. quiet_then (quiet_many (until m.CloseBrace) statement_quiet) (λ found. quiet_then (quiet_expect m.CloseBrace) (λ _. quiet_pure found)))

  pub macro_quiet : Quiet (macro_here most)
  unfolding macro_here
  macro_quiet =
      quiet_then (quiet_keyword k.Macro) (λ _. quiet_then quiet_name (λ w. quiet_then (quiet_expect m.Open) (λ _. quiet_then (quiet_listed quiet_name)
      (λ parameters. quiet_then (quiet_expect m.Close) (λ _. quiet_wrap (λ found. macro (record { name = w; parameters = parameters; body = found })) body_quiet)))))

  set_quiet : Quiet (set_here most)
  unfolding set_here
  set_quiet = quiet_then quiet_name (λ w. quiet_then (quiet_expect m.Equals) (λ _. quiet_then (whole_quiet in_action tt) (λ e. quiet_ended (set w e))))

  action_by_quiet : (o : Option Sym) → Quiet (action_by most o)
  action_by_quiet (Some (word (quoted k.GlobalSet))) = global_set_quiet
  action_by_quiet o = set_quiet

  action_quiet : Quiet (action most)
  unfolding action
  action_quiet = quiet_peek action_by_quiet

  pub actions_quiet : Quiet (actions most)
  unfolding actions
  actions_quiet =
      quiet_then (quiet_expect m.OpenBracket) (λ _. quiet_then (quiet_many (until m.CloseBracket) action_quiet) (λ found. quiet_then (quiet_expect m.CloseBracket) (λ _. quiet_pure found)))

-- ---- definitions and attached lists

order_by_quiet : (s : Option Sym) → Quiet (order_by s)
order_by_quiet (Some (word (quoted k.Big))) = quiet_skips (quiet_pure o.Big)
order_by_quiet (Some (word (quoted k.Little))) = quiet_skips (quiet_pure o.Little)
order_by_quiet s = quiet_refuse

order_quiet : Quiet order
unfolding order
order_quiet = quiet_then (quiet_keyword k.Endian) (λ _. quiet_then (quiet_expect m.Equals) (λ _. quiet_peek order_by_quiet))

word_size_by_quiet : (s : Option Sym) → Quiet (word_size_by s)
unfolding checked_size
word_size_by_quiet (Some (number n)) = quiet_if (n == 1) (quiet_skips (quiet_pure (of_word_size n))) (quiet_fault (unsupported f.WordSize 2) (λ e. absurd (cc)))
word_size_by_quiet s = quiet_refuse

type_quiet : Quiet type_here
unfolding type_here
type_quiet = quiet_then (quiet_keyword k.Type) (λ _. quiet_then (quiet_expect m.Equals) (λ _. quiet_wrap of_type quiet_name))

size_attribute_quiet : Quiet size_attribute
unfolding size_attribute
size_attribute_quiet = quiet_then (quiet_keyword k.Size) (λ _. quiet_then (quiet_expect m.Equals) (λ _. quiet_wrap of_size quiet_integer))

word_size_quiet : Quiet word_size_here
unfolding word_size_here
word_size_quiet = quiet_then (quiet_keyword k.WordSize) (λ _. quiet_then (quiet_expect m.Equals) (λ _. quiet_peek word_size_by_quiet))

space_attribute_by_quiet : (s : Option Sym) → Quiet (space_attribute_by s)
space_attribute_by_quiet (Some (word (quoted k.Type))) = type_quiet
space_attribute_by_quiet (Some (word (quoted k.Size))) = size_attribute_quiet
space_attribute_by_quiet (Some (word (quoted k.WordSize))) = word_size_quiet
space_attribute_by_quiet (Some (word (quoted k.Default))) = quiet_skips (quiet_pure is_default)
space_attribute_by_quiet s = quiet_refuse

space_attribute_quiet : Quiet space_attribute
unfolding space_attribute
space_attribute_quiet = quiet_peek space_attribute_by_quiet

bit_range_quiet : Quiet bit_range
unfolding bit_range
bit_range_quiet =
    quiet_then quiet_name (λ w. quiet_then (quiet_expect m.Equals) (λ _. quiet_then quiet_name (λ register. quiet_then (quiet_expect m.OpenBracket) (λ _. quiet_then quiet_integer
    (λ low. quiet_then (quiet_expect m.Comma) (λ _. quiet_then quiet_integer (λ count. quiet_then (quiet_expect m.CloseBracket)
    (λ _. quiet_pure (record { name = w; register = register; low = low; count = count })))))))))

attribute_by_quiet : (s : Option Sym) → Quiet (attribute_by s)
attribute_by_quiet (Some (word (quoted k.Signed))) = quiet_skips (quiet_pure fa.Signed)
attribute_by_quiet (Some (word (quoted k.Hex))) = quiet_skips (quiet_pure fa.Hex)
attribute_by_quiet (Some (word (quoted k.Dec))) = quiet_skips (quiet_pure fa.Dec)
attribute_by_quiet (Some (word (quoted k.NoFlow))) = quiet_skips (quiet_pure fa.NoFlow)
attribute_by_quiet s = quiet_refuse

field_quiet : Quiet field
unfolding field attribute
field_quiet =
    quiet_then quiet_name (λ w. quiet_then (quiet_expect m.Equals) (λ _. quiet_then (quiet_expect m.Open) (λ _. quiet_then quiet_integer (λ low. quiet_then (quiet_expect m.Comma)
    (λ _. quiet_then quiet_integer (λ high. quiet_then (quiet_expect m.Close) (λ _. quiet_then (quiet_many is_attribute (quiet_peek attribute_by_quiet))
    (λ attributes. quiet_pure (record { name = w; low = low; high = high; attributes = attributes })))))))))

name_list_quiet : Quiet name_list
unfolding name_list
name_list_quiet =
    quiet_then (quiet_expect m.OpenBracket) (λ _. quiet_then (quiet_many (until m.CloseBracket) quiet_name) (λ ws. quiet_then (quiet_expect m.CloseBracket) (λ _. quiet_pure (several ws))))

names_by_quiet : (s : Option Sym) → Quiet (names_by s)
names_by_quiet (Some (mark m.OpenBracket)) = name_list_quiet
names_by_quiet s = quiet_wrap one quiet_name

names_quiet : Quiet names
unfolding names
names_quiet = quiet_peek names_by_quiet

alignment_quiet : Quiet alignment_here
unfolding alignment_here
alignment_quiet = quiet_then (quiet_keyword k.Alignment) (λ _. quiet_then (quiet_expect m.Equals) (λ _. quiet_wrap alignment quiet_integer))

space_quiet_here : Quiet space_here
unfolding space_here
space_quiet_here = quiet_then (quiet_keyword k.Space) (λ _. quiet_then quiet_name (λ w. quiet_wrap (space w) (quiet_many (until m.Semicolon) space_attribute_quiet)))

bit_ranges_quiet : Quiet bit_ranges_here
unfolding bit_ranges_here
bit_ranges_quiet = quiet_then (quiet_keyword k.BitRange) (λ _. quiet_then bit_range_quiet (λ head. quiet_wrap (bit_ranges head) (quiet_many (until m.Semicolon) bit_range_quiet)))

pcode_ops_quiet : Quiet pcode_ops_here
unfolding pcode_ops_here
pcode_ops_quiet = quiet_then (quiet_keyword k.PcodeOp) (λ _. quiet_wrap pcode_ops names_quiet)

token_quiet : Quiet token_here
unfolding token_here
token_quiet =
    quiet_then (quiet_keyword k.Token) (λ _. quiet_then quiet_name (λ w. quiet_then (quiet_expect m.Open) (λ _. quiet_then quiet_integer (λ size. quiet_then (quiet_expect m.Close)
    (λ _. quiet_then (quiet_optional (is_keyword k.Endian) order_quiet) (λ own. quiet_wrap (token w size own) (quiet_many (until m.Semicolon) field_quiet)))))))

context_quiet : Quiet context_here
unfolding context_here
context_quiet = quiet_then (quiet_keyword k.Context) (λ _. quiet_then quiet_name (λ w. quiet_wrap (context w) (quiet_many (until m.Semicolon) field_quiet)))

registers_quiet : Quiet registers_here
unfolding registers_here
registers_quiet =
    quiet_then quiet_name (λ w. quiet_then (quiet_keyword k.Offset) (λ _. quiet_then (quiet_expect m.Equals) (λ _. quiet_then quiet_integer (λ offset. quiet_then (quiet_keyword k.Size)
    (λ _. quiet_then (quiet_expect m.Equals) (λ _. quiet_then quiet_integer (λ size. quiet_wrap (registers w offset size) names_quiet)))))))

definition_by_quiet : (s : Option Sym) → Quiet (definition_by s)
definition_by_quiet (Some (word (quoted k.Endian))) = quiet_wrap endian order_quiet
definition_by_quiet (Some (word (quoted k.Alignment))) = alignment_quiet
definition_by_quiet (Some (word (quoted k.Space))) = space_quiet_here
definition_by_quiet (Some (word (quoted k.BitRange))) = bit_ranges_quiet
definition_by_quiet (Some (word (quoted k.PcodeOp))) = pcode_ops_quiet
definition_by_quiet (Some (word (quoted k.Token))) = token_quiet
definition_by_quiet (Some (word (quoted k.Context))) = context_quiet
definition_by_quiet s = registers_quiet

pub define_quiet : Quiet define_here
unfolding define_here definition
define_quiet = quiet_then (quiet_keyword k.Define) (λ _. quiet_then (quiet_peek definition_by_quiet) (λ d. quiet_ended (define d)))

kind_by_quiet : (s : Option Sym) → Quiet (kind_by s)
kind_by_quiet (Some (word (quoted k.Variables))) = quiet_skips (quiet_pure a.Variables)
kind_by_quiet (Some (word (quoted k.Names))) = quiet_skips (quiet_pure a.Names)
kind_by_quiet (Some (word (quoted k.Values))) = quiet_skips (quiet_pure a.Values)
kind_by_quiet s = quiet_refuse

member_by_quiet : (s : Option Sym) → Quiet (member_by s)
member_by_quiet (Some (number n)) = quiet_skips (quiet_pure (member_integer n))
member_by_quiet (Some (text t)) = quiet_skips (quiet_pure (member_text t))
member_by_quiet (Some (mark m.Minus)) = quiet_skips (quiet_wrap member_negative quiet_integer)
member_by_quiet (Some (word (quoted k.InstNext2))) = quiet_refuse
member_by_quiet (Some (word w)) = quiet_skips (quiet_pure (member_word w))
member_by_quiet s = quiet_refuse

member_quiet : Quiet member
unfolding member
member_quiet = quiet_peek member_by_quiet

pub attach_quiet : Quiet attach_here
unfolding attach_here attach_kind
attach_quiet =
    quiet_then (quiet_keyword k.Attach) (λ _. quiet_then (quiet_peek kind_by_quiet) (λ kind. quiet_then names_quiet (λ ws.
    quiet_look (is_mark m.OpenBracket)
    (quiet_then (quiet_expect m.OpenBracket) (λ _. quiet_then (quiet_many (until m.CloseBracket) member_quiet)
    (λ members. quiet_then (quiet_expect m.CloseBracket) (λ _. quiet_ended (attach_list kind ws members)))))
    (quiet_then member_quiet (λ x. quiet_ended (attach_one kind ws x))))))
