-- Where the reader of specifications ends at a limit, the count goes past one.
use Rattle.std.proofs.Common.{◌≡◌, ℕ, zero, suc, ◌+◌, ◌<◌, ◌≤◌, ◌⊎◌, inl, inr, Bool, true, false, cond, List, [], ◌∷◌, ◌++◌, drop, length, Option, None, Some, Ok, Err, Result, arith, refl, ap, sym, ◌∙◌, subst, append_assoc, append-nil}
use Rattle.std.specs.Prelude.{nat_lt}
use Rattle.sl_ast.specs.Operators.{in_section, in_action, missing_function, missing_statement}
use Rattle.sl_ast.specs.Spelling.{name, keyword, spell_option, spell_actions, spell_pattern, spell_inside}
use Rattle.sl_ast.specs.Symbols.{plain, quoted, Sym, number, word, mark}
use Rattle.sl_ast.specs.Trees.{Name, Expression, Pattern, Action, Head, Inside, nothing, Item}
use Rattle.sl_ast.specs.Validity.{AreItemsWithin, Each, IfWritten, IsAction, IsPattern, deepest, heaviest, pattern_weight, weight}
use Rattle.sl_ast.specs.declared.symbols.Feature.{Feature}
use Rattle.sl_ast.specs.declared.symbols.Keyword.{Keyword}
use Rattle.sl_ast.specs.declared.symbols.Keyword.TheVariants as kw
use Rattle.sl_ast.specs.declared.symbols.Mark.{Mark}
use Rattle.sl_ast.specs.declared.symbols.Mark.TheVariants as m
use Rattle.sl_parse_grammar.specs.Expressions.{whole, expression, tight, postfix, atom}
use Rattle.sl_parse_grammar.specs.Items.{is_name, is_shown, piece, is_pattern, inside_by, inside_from, inside, is_there, value_of, section_by, section, constructor_here, head, block_at, macro_here, item_by, item, specification_within, specification}
use Rattle.sl_parse_grammar.specs.Lists.{many_from, many, separated_from, listed}
use Rattle.sl_parse_grammar.specs.Patterns.{whole_pattern}
use Rattle.sl_parse_grammar.specs.Reader.{Form, nesting, syntax, Fault, fault, Input, at, left, first, Outcome, Reader, and_then, ◌>>=◌, ◌>>◌, pure, skip, is_mark, expect, expect_keyword, integer_here, name_here, size_here, optional, size_option}
use Rattle.sl_parse_grammar.specs.Statements.{star_form, until, value_here, computed_here, dest_by, dest, target_by, target, local_here, goto_here, branch_here, call_here, return_here, star_here, declare_here, assign_here, bits_here, invoke_here, invoke_by, named_by, begun_by, statement_by, statement, body, set_here, action_by, action, actions}
use Rattle.sl_parse_grammar.proofs.BodyRules.{action_rule, actions_rule}
use Rattle.sl_parse_grammar.proofs.ConstructorRules.{display_rule, table_rule, constructor_ok, head_ok}
use Rattle.sl_parse_grammar.proofs.PartRules.{pattern_rule, size_option_takes, star_rule, whole_takes}
use Rattle.sl_parse_grammar.proofs.Rules.{optional_ok}
use Rattle.sl_parse_grammar.proofs.StatementRules.{statement_rule}
use Rattle.sl_parse_grammar.proofs.Taken.{expect_ok, expect_keyword_ok, first_is, integer_ok, mark_first, name_ok, size_ok}
use Rattle.sl_parse_grammar.proofs.Faults.{none_begins_within, sound}
use Rattle.sl_parse_grammar.proofs.ItemRules.{block_ok, item_ok, parameters_ok}
use Rattle.sl_parse_faults.specs.Forms.{BeginsATree, BeginsAnyTree}
use Rattle.sl_parse_faults.specs.Causes.{limit}
use Rattle.sl_parse_faults.specs.Laws.{IsNesting}
use Rattle.sl_parse_faults.proofs.Begins.{begins_up_to}
use Rattle.sl_parse_faults.proofs.Wider.{wider_items}
use Rattle.sl_parse_faults.proofs.RaisedParts.{wider_whole, wider_whole_pattern}
use Rattle.sl_test_laws.specs.Counting as mode
use Rattle.sl_test_laws.specs.Counting.{GoesPast, NestingIsCounted, Mode, State, counted, counted_from, going_on, step}
use Rattle.sl_test_laws.proofs.Counting.{chosen, counts_inside, counts_item, counts_parameters, enters, head_table, over, trees_keep, begins_here, counts_action, counts_actions, counts_constructor, counts_display, counts_here, counts_pattern, counts_star, counts_statement, section_counts, size_written, stepped, table_first, value_counts}
use Rattle.sl_test_laws.proofs.Within.{some_behind}
use Rattle.sl_test_laws.proofs.Rooms.{whole_past, whole_pattern_past}

-- ---- two readings, of which the first has less room

go_on : {A B : Type 0} (start : Option State) (o : Outcome A) (go to : A → Reader B) → ((a : A) (j : Input) → o ≡ Ok (a, j) → (go a j ≡ to a j) ⊎ (start ≡ None))
    → (and_then o go ≡ and_then o to) ⊎ (start ≡ None)
go_on start (Ok q) go to h = h q.0 q.1 refl
go_on start (Err e) go to h = inl refl

then_past : {A B : Type 0} (start : Option State) (o x : Outcome A) (go to : A → Reader B) → (o ≡ x) ⊎ (start ≡ None)
    → ((a : A) (j : Input) → o ≡ Ok (a, j) → (go a j ≡ to a j) ⊎ (start ≡ None)) → (and_then o go ≡ and_then x to) ⊎ (start ≡ None)
then_past start o x go to (inr none) h = inr none
then_past start o x go to (inl e) h = subst (λ y. (and_then o go ≡ and_then y to) ⊎ (start ≡ None)) e (go_on start o go to h)

carried : {A : Type 0} {x y : A} (start other : Option State) → start ≡ other → (x ≡ y) ⊎ (other ≡ None) → (x ≡ y) ⊎ (start ≡ None)
carried start other same (inl e) = inl e
carried start other same (inr none) = inr (same ∙ none)

module _ (blocks : ℕ) where
  abbrev run : Mode → List Sym → Option State
  run mode xs = counted_from blocks mode xs

  -- Both read the same, or the count goes past a limit.
  record Past {A : Type 0} (mode : Mode) (p q : Reader A) : Type 0 where
    past : (i : Input) → (p i ≡ q i) ⊎ (run mode i.rest ≡ None)

  -- what is read takes the count from one mode to another
  record Moves {A : Type 0} (from : Mode) (to : A → Mode) (p : Reader A) : Type 0 where
    moves : (i j : Input) (a : A) → p i ≡ Ok (a, j) → run from i.rest ≡ run (to a) j.rest

  past_same : {A : Type 0} (mode : Mode) (p : Reader A) → Past mode p p
  past_same mode p = record { past = λ i. inl refl }

  past_then : {A B : Type 0} (from : Mode) (next : A → Mode) {p q : Reader A} {go to : A → Reader B} → Past from p q → Moves from next p → ((a : A) → Past (next a) (go a) (to a)) → Past from (p >>= go) (q >>= to)
  past_then from next {p = p} {q = q} {go = go} {to = to} here move later = record {
    past = λ i.
        then_past (run from i.rest) (p i) (q i) go to (here.past i) (λ a j e. carried (run from i.rest) (run (next a) j.rest) (move.moves i j a e) ((later a).past j));
  }

  -- behind a reader without a limit
  past_behind : {A B : Type 0} (from : Mode) (next : A → Mode) (p : Reader A) {go to : A → Reader B} → Moves from next p → ((a : A) → Past (next a) (go a) (to a)) → Past from (p >>= go) (p >>= to)
  past_behind from next p move later = past_then from next (past_same from p) move later

  -- before readers without a limit
  past_before : {A B : Type 0} (from : Mode) {p q : Reader A} (go : A → Reader B) → Past from p q → Past from (p >>= go) (q >>= go)
  past_before from {p = p} {q = q} go here = record { past = λ i. then_past (run from i.rest) (p i) (q i) go go (here.past i) (λ a j e. inl refl) }

  past_peek : {A : Type 0} (from : Mode) {go to : Option Sym → Reader A} → ((o : Option Sym) → Past from (go o) (to o)) → Past from (λ i. go (first i.rest) i) (λ i. to (first i.rest) i)
  past_peek from here = record { past = λ i. (here (first i.rest)).past i }

  past_if : {A : Type 0} (from : Mode) (b : Bool) {p q s t : Reader A} → Past from p q → Past from s t → Past from (λ i. cond {A = Reader A} b p s i) (λ i. cond {A = Reader A} b q t i)
  past_if from true there not_there = there
  past_if from false there not_there = not_there

  past_optional : {A : Type 0} (from : Mode) (test : Option Sym → Bool) {p q : Reader A} → Past from p q → Past from (optional test p) (optional test q)
  past_optional from test here = past_peek from (λ o. past_if from (test o) (past_before from (λ a. pure (Some a)) here) (past_same from (pure None)))

  many_from_past : {A : Type 0} (mode : Mode) (goes : Option Sym → Bool) (p q : Reader A) → Past mode p q → Moves mode (λ _. mode) p → (n : ℕ) (found : List A)
      → Past mode (many_from goes p n found) (many_from goes q n found)
  unfolding many_from
  many_from_past mode goes p q here move zero found = past_same mode _
  many_from_past mode goes p q here move (suc n) found =
      past_peek mode (λ o. past_if mode (goes o) (past_then mode (λ _. mode) here move (λ a. many_from_past mode goes p q here move n (found ++ a ∷ []))) (past_same mode (pure found)))

  past_many : {A : Type 0} (mode : Mode) (goes : Option Sym → Bool) (p q : Reader A) → Past mode p q → Moves mode (λ _. mode) p → Past mode (many goes p) (many goes q)
  past_many mode goes p q here move = record { past = λ i. (many_from_past mode goes p q here move (suc (left i)) []).past i }

  -- ---- what is taken

  taken_one : (from to : Mode) (x : Sym) (xs ys : List Sym) → xs ≡ x ∷ ys → step blocks from x ≡ Some (blocks, to) → run from xs ≡ run to ys
  taken_one from to x xs ys e is = ap (λ zs. run from zs) e ∙ stepped blocks blocks from to x ys is

  moves_expect : (k : Mark) (from to : Mode) → step blocks from (mark k) ≡ Some (blocks, to) → Moves from (λ _. to) (expect k)
  moves_expect k from to is = record { moves = λ i j u e. taken_one from to (mark k) i.rest j.rest (expect_ok k i j u e).tokens is }

  moves_keyword : (k : Keyword) (from to : Mode) → step blocks from (keyword k) ≡ Some (blocks, to) → Moves from (λ _. to) (expect_keyword k)
  moves_keyword k from to is = record { moves = λ i j u e. taken_one from to (keyword k) i.rest j.rest (expect_keyword_ok k i j u e).tokens is }

  moves_name : (mode : Mode) → ((w : Name) → step blocks mode (name w) ≡ Some (blocks, mode)) → Moves mode (λ _. mode) name_here
  moves_name mode is = record { moves = λ i j w e. taken_one mode mode (name w) i.rest j.rest (name_ok i j w e).tokens (is w) }

  moves_integer : Moves mode.Statement (λ _. mode.Statement) integer_here
  moves_integer = record { moves = λ i j n e. taken_one mode.Statement mode.Statement (number n) i.rest j.rest (integer_ok i j n e).tokens refl }

  moves_size : Moves mode.Statement (λ _. mode.Statement) size_here
  moves_size = record { moves = λ i j n e. taken_one mode.Statement mode.Statement (number n) i.rest j.rest (size_ok i j n e).took.tokens refl }

  moves_size_option : Moves mode.Statement (λ _. mode.Statement) size_option
  moves_size_option = record { moves = λ i j x e. ap (λ xs. run mode.Statement xs) (size_option_takes i j x e).tokens ∙ size_written blocks x j.rest }

  moves_star : Moves mode.Statement (λ _. mode.Star) star_form
  moves_star = record { moves = λ i j form e. ap (λ xs. run mode.Statement xs) (star_rule.sound i j form e).tokens ∙ counts_star blocks form j.rest }

  moves_whole : Moves (mode.Expression 0 0) (λ x. mode.Expression 0 (weight x)) (whole heaviest in_section)
  moves_whole = record {
    moves = λ i j x e. let took = whole_takes heaviest in_section i j x e in
        ap (λ xs. run (mode.Expression 0 0) xs) took.tokens ∙ counts_here blocks x j.rest took.good;
  }

  moves_statement : Moves mode.Statement (λ _. mode.Statement) (statement heaviest)
  moves_statement = record {
    moves = λ i j s e. let took = (statement_rule heaviest).sound i j s e in
        ap (λ xs. run mode.Statement xs) took.tokens ∙ counts_statement blocks s j.rest took.good;
  }

  module _ (more : ℕ) where
    by_limit : {A : Type 0} (start : Option State) (o x : Outcome A) → IsNesting o ⊎ (o ≡ x) → (IsNesting o → start ≡ None) → (o ≡ x) ⊎ (start ≡ None)
    by_limit start o x (inl h) f = inr (f h)
    by_limit start o x (inr e) f = inl e

    past_whole : Past (mode.Expression 0 0) (whole heaviest in_section) (whole (more + heaviest) in_section)
    past_whole = record {
      past = λ i.
          by_limit (run (mode.Expression 0 0) i.rest) (whole heaviest in_section i) (whole (more + heaviest) in_section i) ((wider_whole more heaviest in_section).wide i) (whole_past blocks mode.Expression in_section (section_counts blocks) i);
    }

    past_action_value : (in_head : Bool) → Past (mode.Value in_head 0) (whole heaviest in_action) (whole (more + heaviest) in_action)
    past_action_value in_head = record {
      past = λ i.
          by_limit (run (mode.Value in_head 0) i.rest) (whole heaviest in_action i) (whole (more + heaviest) in_action i) ((wider_whole more heaviest in_action).wide i)
          (whole_past blocks (λ d n. mode.Value in_head n) in_action (value_counts blocks in_head) i);
    }

    past_pattern : (in_head : Bool) → Past (mode.Pattern in_head 0) (whole_pattern heaviest) (whole_pattern (more + heaviest))
    past_pattern in_head = record {
      past = λ i.
          by_limit (run (mode.Pattern in_head 0) i.rest) (whole_pattern heaviest i) (whole_pattern (more + heaviest) i) ((wider_whole_pattern more heaviest).wide i) (whole_pattern_past blocks in_head i);
    }

    -- the pointer of a star form on the left
    syntax_only : {A : Type 0} → syntax ≡ nesting → A
    syntax_only e = absurd (cc)

    pointer_past : (xs : List Sym) (r : ℕ) → IsNesting (whole heaviest in_section (at xs r)) → run mode.Star xs ≡ None
    unfolding whole expression tight postfix atom
    pointer_past [] r h = syntax_only h
    pointer_past (mark m.OpenBracket ∷ xs) r h = syntax_only h
    pointer_past (mark m.Colon ∷ xs) r h = syntax_only h
    pointer_past (x ∷ xs) r h = whole_past blocks mode.Expression in_section (section_counts blocks) (at (x ∷ xs) r) h

    past_pointer : Past mode.Star (whole heaviest in_section) (whole (more + heaviest) in_section)
    past_pointer = record {
      past = λ i.
          by_limit (run mode.Star i.rest) (whole heaviest in_section i) (whole (more + heaviest) in_section i) ((wider_whole more heaviest in_section).wide i) (pointer_past i.rest i.room);
    }

    -- ---- statements

    past_value : (from : Mode) → step blocks from (mark m.Equals) ≡ Some (blocks, mode.Expression 0 0) → Past from (value_here heaviest) (value_here (more + heaviest))
    unfolding value_here
    past_value from is = past_behind from (λ _. mode.Expression 0 0) (expect m.Equals) (moves_expect m.Equals from (mode.Expression 0 0) is) (λ _. past_before (mode.Expression 0 0) _ past_whole)

    past_computed : Past mode.Jump (computed_here heaviest) (computed_here (more + heaviest))
    unfolding computed_here
    past_computed =
        past_behind mode.Jump (λ _. mode.Expression 0 0) (expect m.OpenBracket) (moves_expect m.OpenBracket mode.Jump (mode.Expression 0 0) refl) (λ _. past_before (mode.Expression 0 0) _ past_whole)

    dest_by_past : (o : Option Sym) → Past mode.Jump (dest_by heaviest o) (dest_by (more + heaviest) o)
    dest_by_past (Some (mark m.OpenBracket)) = past_before mode.Jump _ past_computed
    dest_by_past o = past_same mode.Jump _

    target_by_past : (o : Option Sym) → Past mode.Jump (target_by heaviest o) (target_by (more + heaviest) o)
    target_by_past (Some (mark m.OpenBracket)) = past_before mode.Jump _ past_computed
    target_by_past o = past_same mode.Jump _

    local_past : Past mode.Statement (local_here heaviest) (local_here (more + heaviest))
    unfolding local_here
    local_past =
        past_behind mode.Statement (λ _. mode.Statement) (expect_keyword kw.Local) (moves_keyword kw.Local mode.Statement mode.Statement refl)
        (λ _. past_behind mode.Statement (λ _. mode.Statement) name_here (moves_name mode.Statement (λ w. refl)) (λ w. past_behind mode.Statement (λ _. mode.Statement) size_option moves_size_option
        (λ size. past_before mode.Statement _ (past_optional mode.Statement (is_mark m.Equals) (past_value mode.Statement refl)))))

    goto_past : Past mode.Statement (goto_here heaviest) (goto_here (more + heaviest))
    unfolding goto_here dest
    goto_past = past_behind mode.Statement (λ _. mode.Jump) (expect_keyword kw.Goto) (moves_keyword kw.Goto mode.Statement mode.Jump refl) (λ _. past_before mode.Jump _ (past_peek mode.Jump dest_by_past))

    branch_past : Past mode.Statement (branch_here heaviest) (branch_here (more + heaviest))
    unfolding branch_here
    branch_past =
        past_behind mode.Statement (λ _. mode.Expression 0 0) (expect_keyword kw.If) (moves_keyword kw.If mode.Statement (mode.Expression 0 0) refl) (λ _. past_before (mode.Expression 0 0) _ past_whole)

    call_past : Past mode.Statement (call_here heaviest) (call_here (more + heaviest))
    unfolding call_here target
    call_past = past_behind mode.Statement (λ _. mode.Jump) (expect_keyword kw.Call) (moves_keyword kw.Call mode.Statement mode.Jump refl) (λ _. past_before mode.Jump _ (past_peek mode.Jump target_by_past))

    return_past : Past mode.Statement (return_here heaviest) (return_here (more + heaviest))
    unfolding return_here
    return_past = past_behind mode.Statement (λ _. mode.Jump) (expect_keyword kw.Return) (moves_keyword kw.Return mode.Statement mode.Jump refl) (λ _. past_before mode.Jump _ past_computed)

    moves_pointer : Moves mode.Star (λ x. mode.Expression 0 (weight x)) (whole heaviest in_section)
    moves_pointer = record {
      moves = λ i j x e. let took = whole_takes heaviest in_section i j x e in
          ap (λ xs. run mode.Star xs) took.tokens ∙ begins_here blocks x j.rest ∙ counts_here blocks x j.rest took.good;
    }

    star_past : Past mode.Statement (star_here heaviest) (star_here (more + heaviest))
    unfolding star_here
    star_past =
        past_behind mode.Statement (λ _. mode.Star) star_form moves_star (λ form. past_then mode.Star (λ x. mode.Expression 0 (weight x)) past_pointer moves_pointer
        (λ x. past_before (mode.Expression 0 (weight x)) _ (past_value (mode.Expression 0 (weight x)) refl)))

    declare_past : (w : Name) → Past mode.Statement (declare_here heaviest w) (declare_here (more + heaviest) w)
    unfolding declare_here
    declare_past w =
        past_behind mode.Statement (λ _. mode.Statement) (expect m.Colon) (moves_expect m.Colon mode.Statement mode.Statement refl)
        (λ _. past_behind mode.Statement (λ _. mode.Statement) size_here moves_size (λ n. past_before mode.Statement _ (past_value mode.Statement refl)))

    assign_past : (w : Name) → Past mode.Statement (assign_here heaviest w) (assign_here (more + heaviest) w)
    unfolding assign_here
    assign_past w = past_before mode.Statement _ (past_value mode.Statement refl)

    bits_past : (w : Name) → Past mode.Statement (bits_here heaviest w) (bits_here (more + heaviest) w)
    unfolding bits_here
    bits_past w =
        past_behind mode.Statement (λ _. mode.Statement) (expect m.OpenBracket) (moves_expect m.OpenBracket mode.Statement mode.Statement refl)
        (λ _. past_behind mode.Statement (λ _. mode.Statement) integer_here moves_integer
        (λ l. past_behind mode.Statement (λ _. mode.Statement) (expect m.Comma) (moves_expect m.Comma mode.Statement mode.Statement refl)
        (λ _. past_behind mode.Statement (λ _. mode.Statement) integer_here moves_integer
        (λ c. past_behind mode.Statement (λ _. mode.Statement) (expect m.CloseBracket) (moves_expect m.CloseBracket mode.Statement mode.Statement refl)
        (λ _. past_before mode.Statement _ (past_value mode.Statement refl))))))

    -- behind an argument
    comma_by : {A : Type 0} (n : ℕ) (p q r : Reader A) → Past (mode.Expression 0 0) p q → (i : Input) (b : Bool) → is_mark m.Comma (first i.rest) ≡ b
        → (cond {A = Reader A} b (skip >> p) r i ≡ cond {A = Reader A} b (skip >> q) r i) ⊎ (run (mode.Expression 0 n) i.rest ≡ None)
    comma_by n p q r here i true is =
        carried (run (mode.Expression 0 n) i.rest) (run (mode.Expression 0 0) (drop 1 i.rest))
        (taken_one (mode.Expression 0 n) (mode.Expression 0 0) (mark m.Comma) i.rest (drop 1 i.rest) (first_is i.rest (mark m.Comma) (mark_first m.Comma (first i.rest) is)) refl)
        (here.past (at (drop 1 i.rest) i.room))
    comma_by n p q r here i false is = inl refl

    separated_past : (n : ℕ) (found : List Expression) → Past (mode.Expression 0 0) (separated_from (whole heaviest in_section) n found) (separated_from (whole (more + heaviest) in_section) n found)
    unfolding separated_from
    separated_past zero found = past_same (mode.Expression 0 0) _
    separated_past (suc n) found =
        past_then (mode.Expression 0 0) (λ x. mode.Expression 0 (weight x)) past_whole moves_whole
        (λ x. record { past = λ i. comma_by (weight x) _ _ (pure (found ++ x ∷ [])) (separated_past n (found ++ x ∷ [])) i (is_mark m.Comma (first i.rest)) refl })

    listed_past : Past (mode.Expression 0 0) (listed (whole heaviest in_section)) (listed (whole (more + heaviest) in_section))
    unfolding listed
    listed_past =
        past_peek (mode.Expression 0 0) (λ o. past_if (mode.Expression 0 0) (is_mark m.Close o) (past_same (mode.Expression 0 0) (pure []))
        (record { past = λ i. (separated_past (suc (left i)) []).past i }))

    invoke_past : (w : Name) → Past mode.Statement (invoke_here heaviest w) (invoke_here (more + heaviest) w)
    unfolding invoke_here
    invoke_past w =
        past_behind mode.Statement (λ _. mode.Expression 0 0) (expect m.Open) (moves_expect m.Open mode.Statement (mode.Expression 0 0) refl) (λ _. past_before (mode.Expression 0 0) _ listed_past)

    invoke_by_past : (w : Name) (x : Option Feature) → Past mode.Statement (invoke_by heaviest w x) (invoke_by (more + heaviest) w x)
    invoke_by_past w None = invoke_past w
    invoke_by_past w (Some feature) = past_same mode.Statement _

    named_by_past : (w : Name) (o : Option Sym) → Past mode.Statement (named_by heaviest w o) (named_by (more + heaviest) w o)
    named_by_past w (Some (mark m.Colon)) = declare_past w
    named_by_past w (Some (mark m.OpenBracket)) = bits_past w
    named_by_past w (Some (mark m.Open)) = invoke_by_past w (missing_function w)
    named_by_past w o = assign_past w

    abbrev Here : {A : Type 0} → Mode → Reader A → Reader A → Input → Type 0
    Here from p q i = (p i ≡ q i) ⊎ (run from i.rest ≡ None)

    begun_by_past : (w : Name) (x : Option Feature) (i : Input) → first i.rest ≡ Some (name w) → Here mode.Statement (begun_by heaviest w x) (begun_by (more + heaviest) w x) i
    begun_by_past w None i is =
        carried (run mode.Statement i.rest) (run mode.Statement (drop 1 i.rest))
        (taken_one mode.Statement mode.Statement (name w) i.rest (drop 1 i.rest) (first_is i.rest (name w) is) refl)
        ((past_peek mode.Statement (named_by_past w)).past (at (drop 1 i.rest) i.room))
    begun_by_past w (Some feature) i is = inl refl

    statement_by_past : (o : Option Sym) (i : Input) → first i.rest ≡ o → Here mode.Statement (statement_by heaviest o) (statement_by (more + heaviest) o) i
    statement_by_past (Some (word (quoted kw.Local))) i is = local_past.past i
    statement_by_past (Some (word (quoted kw.Goto))) i is = goto_past.past i
    statement_by_past (Some (word (quoted kw.If))) i is = branch_past.past i
    statement_by_past (Some (word (quoted kw.Call))) i is = call_past.past i
    statement_by_past (Some (word (quoted kw.Return))) i is = return_past.past i
    statement_by_past (Some (word (quoted kw.Build))) i is = inl refl
    statement_by_past (Some (word (quoted kw.Export))) i is = inl refl
    statement_by_past (Some (word (plain w))) i is = begun_by_past w (missing_statement w) i is
    statement_by_past (Some (mark m.Star)) i is = star_past.past i
    statement_by_past (Some (mark m.Less)) i is = inl refl
    statement_by_past o i is = inl refl

    statement_past : Past mode.Statement (statement heaviest) (statement (more + heaviest))
    unfolding statement
    statement_past = record { past = λ i. statement_by_past (first i.rest) i refl }

    body_past : (from : Mode) → step blocks from (mark m.OpenBrace) ≡ Some (blocks, mode.Statement) → Past from (body heaviest) (body (more + heaviest))
    unfolding body
    body_past from is =
        past_behind from (λ _. mode.Statement) (expect m.OpenBrace) (moves_expect m.OpenBrace from mode.Statement is)
        (λ _. past_before mode.Statement _ (past_many mode.Statement (until m.CloseBrace) (statement heaviest) (statement (more + heaviest)) statement_past moves_statement))

    -- ---- actions

    module _ (in_head : Bool) where
      set_past : Past (mode.Actions in_head) (set_here heaviest) (set_here (more + heaviest))
      unfolding set_here
      set_past =
          past_behind (mode.Actions in_head) (λ _. mode.Actions in_head) name_here (moves_name (mode.Actions in_head) (λ w. refl))
          (λ w. past_behind (mode.Actions in_head) (λ _. mode.Value in_head 0) (expect m.Equals) (moves_expect m.Equals (mode.Actions in_head) (mode.Value in_head 0) refl)
          (λ _. past_before (mode.Value in_head 0) _ (past_action_value in_head)))

      action_by_past : (o : Option Sym) → Past (mode.Actions in_head) (action_by heaviest o) (action_by (more + heaviest) o)
      action_by_past (Some (word (quoted kw.GlobalSet))) = past_same (mode.Actions in_head) _
      action_by_past o = set_past

      moves_action : Moves (mode.Actions in_head) (λ _. mode.Actions in_head) (action heaviest)
      moves_action = record {
        moves = λ i j x e. let took = (action_rule heaviest).sound i j x e in
            ap (λ xs. run (mode.Actions in_head) xs) took.tokens ∙ counts_action blocks in_head x j.rest took.good;
      }

      action_past : Past (mode.Actions in_head) (action heaviest) (action (more + heaviest))
      unfolding action
      action_past = past_peek (mode.Actions in_head) action_by_past

      actions_past : (n : ℕ) → Past (mode.Pattern in_head n) (actions heaviest) (actions (more + heaviest))
      unfolding actions
      actions_past n =
          past_behind (mode.Pattern in_head n) (λ _. mode.Actions in_head) (expect m.OpenBracket) (moves_expect m.OpenBracket (mode.Pattern in_head n) (mode.Actions in_head) refl)
          (λ _. past_before (mode.Actions in_head) _ (past_many (mode.Actions in_head) (until m.CloseBracket) (action heaviest) (action (more + heaviest)) action_past moves_action))

      written_past : (n : ℕ) → Past (mode.Pattern in_head n) (optional (is_mark m.OpenBracket) (actions heaviest)) (optional (is_mark m.OpenBracket) (actions (more + heaviest)))
      written_past n = past_optional (mode.Pattern in_head n) (is_mark m.OpenBracket) (actions_past n)

      moves_pattern : Moves (mode.Pattern in_head 0) (λ q. mode.Pattern in_head (pattern_weight q)) (whole_pattern heaviest)
      moves_pattern = record {
        moves = λ i j q e. let took = (pattern_rule heaviest).sound i j q e in
            ap (λ xs. run (mode.Pattern in_head 0) xs) took.tokens ∙ counts_pattern blocks in_head q 0 (pattern_weight q) j.rest took.good.0 (omega arith) took.good.1;
      }

    after_actions : ℕ → Option (List Action) → Mode
    after_actions n None = mode.Pattern false n
    after_actions n (Some written) = mode.Pattern false 0

    spelled_actions : (n : ℕ) (x : Option (List Action)) (xs : List Sym) → IfWritten (Each (IsAction heaviest)) x → run (mode.Pattern false n) (spell_option spell_actions x xs) ≡ run (after_actions n x) xs
    unfolding after_actions
    spelled_actions n None xs good = refl
    spelled_actions n (Some actions) xs good = counts_actions blocks false actions (mark m.CloseBracket ∷ xs) good

    moves_actions : (n : ℕ) → Moves (mode.Pattern false n) (after_actions n) (optional (is_mark m.OpenBracket) (actions heaviest))
    moves_actions n = record {
      moves = λ i j x e. let took = optional_ok spell_actions (Each (IsAction heaviest)) (is_mark m.OpenBracket) (actions heaviest) (actions_rule heaviest).sound i j x e in
          ap (λ xs. run (mode.Pattern false n) xs) took.tokens ∙ spelled_actions n x j.rest took.good;
    }

    -- ---- constructors

    section_by_past : (n : ℕ) (o : Option Sym) → Past (mode.Pattern false n) (section_by heaviest o) (section_by (more + heaviest) o)
    section_by_past n (Some (mark m.OpenBrace)) = past_before (mode.Pattern false n) _ (body_past (mode.Pattern false n) refl)
    section_by_past n (Some (word (quoted kw.Unimpl))) = past_same (mode.Pattern false n) _
    section_by_past n o = past_same (mode.Pattern false n) _

    section_past : (n : ℕ) → Past (mode.Pattern false n) (section heaviest) (section (more + heaviest))
    unfolding section
    section_past n = past_peek (mode.Pattern false n) (section_by_past n)

    section_behind : (n : ℕ) (x : Option (List Action)) → Past (after_actions n x) (section heaviest) (section (more + heaviest))
    unfolding after_actions
    section_behind n None = section_past n
    section_behind n (Some written) = section_past 0

    constructor_past : Past mode.Items (constructor_here heaviest) (constructor_here (more + heaviest))
    unfolding constructor_here
    constructor_past =
        past_behind mode.Items (λ _. mode.Items) (optional is_name name_here) (record { moves = λ i j x e. ap (λ xs. run mode.Items xs) (table_rule.sound i j x e).tokens ∙ table_first blocks x j.rest })
        (λ table. past_behind mode.Items (λ _. mode.Display) (expect m.Colon) (moves_expect m.Colon mode.Items mode.Display refl)
        (λ _. past_behind mode.Display (λ _. mode.Display) (many is_shown piece)
        (record { moves = λ i j x e. let took = display_rule.sound i j x e in ap (λ xs. run mode.Display xs) took.tokens ∙ counts_display blocks x j.rest took.good })
        (λ display. past_behind mode.Display (λ _. mode.Pattern false 0) (expect_keyword kw.Is) (moves_keyword kw.Is mode.Display (mode.Pattern false 0) refl)
        (λ _. past_then (mode.Pattern false 0) (λ q. mode.Pattern false (pattern_weight q)) (past_pattern false) (moves_pattern false)
        (λ q. past_then (mode.Pattern false (pattern_weight q)) (after_actions (pattern_weight q)) (written_past false (pattern_weight q)) (moves_actions (pattern_weight q))
        (λ acts. past_before (after_actions (pattern_weight q) acts) _ (section_behind (pattern_weight q) acts)))))))

-- ---- heads of blocks

head_tail : ℕ → Reader Head
head_tail most = do
  table ← optional is_name name_here
  expect m.Colon
  pattern ← optional is_pattern (whole_pattern most)
  acts ← optional (is_mark m.OpenBracket) (actions most)
  expect m.OpenBrace
  pure (record { table = table; pattern = pattern; actions = acts })

weight_of : Option Pattern → ℕ
weight_of None = 0
weight_of (Some q) = pattern_weight q

module _ (more : ℕ) where
  spelled_pattern : (blocks : ℕ) (x : Option Pattern) (xs : List Sym) → IfWritten (IsPattern heaviest) x
      → counted_from blocks (mode.Pattern true 0) (spell_option spell_pattern x xs) ≡ counted_from blocks (mode.Pattern true (weight_of x)) xs
  unfolding weight_of
  spelled_pattern blocks None xs good = refl
  spelled_pattern blocks (Some q) xs good = counts_pattern blocks true q 0 (pattern_weight q) xs good.0 (omega arith) good.1

  head_table_moves : (blocks : ℕ) → Moves blocks mode.Head (λ _. mode.Head) (optional is_name name_here)
  head_table_moves blocks = record { moves = λ i j x e. ap (λ xs. counted_from blocks mode.Head xs) (table_rule.sound i j x e).tokens ∙ head_table blocks x j.rest }

  head_tail_past : (blocks : ℕ) → Past blocks mode.Head (head_tail heaviest) (head_tail (more + heaviest))
  unfolding head_tail
  head_tail_past blocks =
      past_behind blocks mode.Head (λ _. mode.Head) (optional is_name name_here) (head_table_moves blocks)
      (λ table. past_behind blocks mode.Head (λ _. mode.Pattern true 0) (expect m.Colon) (moves_expect blocks m.Colon mode.Head (mode.Pattern true 0) refl)
      (λ _. past_then blocks (mode.Pattern true 0) (λ x. mode.Pattern true (weight_of x)) (past_optional blocks (mode.Pattern true 0) is_pattern (past_pattern blocks more true))
      (record {
        moves = λ i j x e. let took = optional_ok spell_pattern (IsPattern heaviest) is_pattern (whole_pattern heaviest) (pattern_rule heaviest).sound i j x e in
            ap (λ xs. counted_from blocks (mode.Pattern true 0) xs) took.tokens ∙ spelled_pattern blocks x j.rest took.good;
      })
      (λ x. past_before blocks (mode.Pattern true (weight_of x)) _ (written_past blocks more true (weight_of x)))))

  head_past : (blocks : ℕ) → blocks < suc deepest → (i : Input) → (head heaviest i ≡ head (more + heaviest) i) ⊎ (counted_from blocks mode.Items i.rest ≡ None)
  unfolding head head_tail
  head_past blocks less i =
      then_past (counted_from blocks mode.Items i.rest) (expect_keyword kw.With i) (expect_keyword kw.With i) (λ _. head_tail heaviest) (λ _. head_tail (more + heaviest)) (inl refl)
      (λ u j e. carried (counted_from blocks mode.Items i.rest) (counted_from (suc blocks) mode.Head j.rest)
      (ap (λ xs. counted_from blocks mode.Items xs) (expect_keyword_ok kw.With i j u e).tokens
      ∙ stepped blocks (suc blocks) mode.Items mode.Head (keyword kw.With) j.rest (chosen blocks (suc deepest) (suc blocks, mode.Head) (nat_lt blocks (suc deepest)) refl less))
      ((head_tail_past (suc blocks)).past j))

  moves_constructor : (blocks : ℕ) → Moves blocks mode.Items (λ _. mode.Items) (constructor_here heaviest)
  moves_constructor blocks = record {
    moves = λ i j x e. let took = constructor_ok heaviest i j x e in
        ap (λ xs. counted_from blocks mode.Items xs) took.tokens ∙ counts_constructor blocks x j.rest took.good;
  }

  -- ---- what stands inside a block

  module _ (blocks n l : ℕ) (here : (i : Input) → first i.rest ≡ Some (keyword kw.With) → (block_at heaviest n i ≡ block_at (more + heaviest) l i) ⊎ (counted_from blocks mode.Items i.rest ≡ None))
      (move : Moves blocks mode.Items (λ _. mode.Items) (block_at heaviest n)) where
    inside_by_past : (later after : Reader Inside) → Past blocks mode.Items later after → (o : Option Sym) (i : Input) → first i.rest ≡ o
        → (inside_by (constructor_here heaviest) (block_at heaviest n) later o i ≡ inside_by (constructor_here (more + heaviest)) (block_at (more + heaviest) l) after o i)
        ⊎ (counted_from blocks mode.Items i.rest ≡ None)
    inside_by_past later after there (Some (word (quoted kw.With))) i is =
        then_past (counted_from blocks mode.Items i.rest) (block_at heaviest n i) (block_at (more + heaviest) l i) _ _ (here i is)
        (λ b j e. carried (counted_from blocks mode.Items i.rest) (counted_from blocks mode.Items j.rest) (move.moves i j b e) ((past_before blocks mode.Items _ there).past j))
    inside_by_past later after there o i is =
        (past_then blocks mode.Items (λ _. mode.Items) (constructor_past blocks more) (moves_constructor blocks) (λ c. past_before blocks mode.Items _ there)).past i

    inside_from_past : (r : ℕ) → Past blocks mode.Items (inside_from (constructor_here heaviest) (block_at heaviest n) r) (inside_from (constructor_here (more + heaviest)) (block_at (more + heaviest) l) r)
    unfolding inside_from
    inside_from_past zero = past_same blocks mode.Items _
    inside_from_past (suc r) =
        past_peek blocks mode.Items (λ o. past_if blocks mode.Items (is_mark m.CloseBrace o) (past_same blocks mode.Items (pure nothing))
        (record { past = λ i. inside_by_past _ _ (inside_from_past r) (first i.rest) i refl }))

    inside_past : Past blocks mode.Items (inside (constructor_here heaviest) (block_at heaviest n)) (inside (constructor_here (more + heaviest)) (block_at (more + heaviest) l))
    inside_past = record { past = λ i. (inside_from_past (suc (left i))).past i }

  -- ---- blocks

  moves_block : (n blocks : ℕ) → blocks + n ≡ suc deepest → Moves blocks mode.Items (λ _. mode.Items) (block_at heaviest n)
  unfolding block_at
  moves_block zero blocks sum = record { moves = λ i j b e. absurd (cc) }
  moves_block (suc n) blocks sum = record {
    moves = λ i j b e. let took = block_ok heaviest (suc n) i j b e in
        ap (λ xs. counted_from blocks mode.Items xs) took.tokens ∙ enters blocks b.0 (spell_inside b.1 (mark m.CloseBrace ∷ j.rest)) (omega (arith, sum)) took.good.0
        ∙ counts_inside b.1 (suc blocks) n (mark m.CloseBrace ∷ j.rest) took.good.1 (omega (arith, sum));
  }

  block_past : (n l blocks : ℕ) → n ≤ l → blocks + n ≡ suc deepest → (i : Input) → first i.rest ≡ Some (keyword kw.With)
      → (block_at heaviest n i ≡ block_at (more + heaviest) l i) ⊎ (counted_from blocks mode.Items i.rest ≡ None)
  unfolding block_at
  block_past zero l blocks le sum i is =
      let full : blocks ≡ suc deepest = omega (arith, sum) in
      inr (ap (λ xs. counted_from blocks mode.Items xs) (first_is i.rest (keyword kw.With) is) ∙ ap (λ k. counted_from k mode.Items (keyword kw.With ∷ drop 1 i.rest)) full)
  block_past (suc n) zero blocks le sum i is = absurd (omega (arith, le))
  block_past (suc n) (suc l) blocks le sum i is =
      then_past (counted_from blocks mode.Items i.rest) (head heaviest i) (head (more + heaviest) i) _ _ (head_past blocks (omega (arith, sum)) i)
      (λ h j e. let took = head_ok heaviest i j h e in
      carried (counted_from blocks mode.Items i.rest) (counted_from (suc blocks) mode.Items j.rest)
      (ap (λ xs. counted_from blocks mode.Items xs) took.tokens ∙ enters blocks h j.rest (omega (arith, sum)) took.good)
      ((past_before (suc blocks) mode.Items _ (inside_past (suc blocks) n l (block_past n l (suc blocks) (omega (arith, le)) (omega (arith, sum))) (moves_block n (suc blocks) (omega (arith, sum))))).past j))

  -- ---- items

  macro_past : Past 0 mode.Items (macro_here heaviest) (macro_here (more + heaviest))
  unfolding macro_here
  macro_past =
      past_behind 0 mode.Items (λ _. mode.Parameters) (expect_keyword kw.Macro) (moves_keyword 0 kw.Macro mode.Items mode.Parameters refl)
      (λ _. past_behind 0 mode.Parameters (λ _. mode.Parameters) name_here (moves_name 0 mode.Parameters (λ w. refl))
      (λ w. past_behind 0 mode.Parameters (λ _. mode.Parameters) (expect m.Open) (moves_expect 0 m.Open mode.Parameters mode.Parameters refl)
      (λ _. past_behind 0 mode.Parameters (λ _. mode.Parameters) (listed name_here)
      (record { moves = λ i j ws e. ap (λ xs. counted_from 0 mode.Parameters xs) (parameters_ok i j ws e).tokens ∙ counts_parameters 0 ws j.rest })
      (λ ws. past_behind 0 mode.Parameters (λ _. mode.Parameters) (expect m.Close) (moves_expect 0 m.Close mode.Parameters mode.Parameters refl)
      (λ _. past_before 0 mode.Parameters _ (body_past 0 more mode.Parameters refl))))))

  module _ (deep : ℕ) (le : deepest ≤ deep) where
    item_by_past : (o : Option Sym) (i : Input) → first i.rest ≡ o → (item_by heaviest deepest o i ≡ item_by (more + heaviest) deep o i) ⊎ (counted_from 0 mode.Items i.rest ≡ None)
    item_by_past (Some (word (quoted kw.Define))) i is = inl refl
    item_by_past (Some (word (quoted kw.Attach))) i is = inl refl
    item_by_past (Some (word (quoted kw.Macro))) i is = macro_past.past i
    item_by_past (Some (word (quoted kw.With))) i is =
        then_past (counted_from 0 mode.Items i.rest) (block_at heaviest (suc deepest) i) (block_at (more + heaviest) (suc deep) i) _ _
        (block_past (suc deepest) (suc deep) 0 (omega (arith, le)) refl i is) (λ b j e. inl refl)
    item_by_past o i is = (past_before 0 mode.Items _ (constructor_past 0 more)).past i

    item_past : Past 0 mode.Items (item heaviest deepest) (item (more + heaviest) deep)
    unfolding item
    item_past = record { past = λ i. item_by_past (first i.rest) i refl }

    moves_item : Moves 0 mode.Items (λ _. mode.Items) (item heaviest deepest)
    moves_item = record { moves = λ i j x e. let took = item_ok heaviest deepest i j x e in ap (λ xs. counted_from 0 mode.Items xs) took.tokens ∙ counts_item x j.rest took.good }

    -- Within wider limits the symbols are read the same, or the count goes past a limit.
    pub specification_past : (symbols : List Sym) → (specification_within heaviest deepest symbols ≡ specification_within (more + heaviest) deep symbols) ⊎ (counted symbols ≡ None)
    unfolding specification_within
    specification_past symbols = elim ((past_many 0 mode.Items is_there (item heaviest deepest) (item (more + heaviest) deep) item_past moves_item).past (at symbols 0)) [
      | inl e ↦ inl (ap value_of e)
      | inr none ↦ inr none
    ]

-- ---- faults of nesting

-- symbols after which some trees go on, but none within the limits
module _ (before : List Sym) (x : Sym) (any : BeginsAnyTree (before ++ x ∷ [])) (none : BeginsATree (before ++ x ∷ []) → ⊥) where
  symbols : List Sym
  symbols = before ++ x ∷ []

  wide_good : AreItemsWithin (any.0 + heaviest) (any.1 + deepest) any.2.items
  wide_good = wider_items any.0 (any.0 + heaviest) any.1 (any.1 + deepest) any.2.items (omega arith) (omega arith) any.2.good

  -- The wide reader refuses no symbol of them: it is the end at most.
  at_end_only : (form : Form) (y : Sym) (xs ys : List Sym) → before ++ x ∷ [] ≡ xs ++ y ∷ ys
      → specification_within (any.0 + heaviest) (any.1 + deepest) (before ++ x ∷ []) ≡ Err (fault form (suc (length ys))) → ⊥
  at_end_only form y xs ys parts e =
      none_begins_within (any.0 + heaviest) (any.1 + deepest) form y xs ys (ys ++ any.2.rest) any.2.items (ap (specification_within (any.0 + heaviest) (any.1 + deepest)) (sym parts) ∙ e) wide_good
      (any.2.spells ∙ ap (λ zs. zs ++ any.2.rest) parts ∙ append_assoc xs (y ∷ ys) any.2.rest)

  by_rest : (xs ys : List Sym) (form : Form) (n : ℕ) → before ++ x ∷ [] ≡ xs ++ ys → length ys ≡ n → BeginsATree xs
      → specification_within (any.0 + heaviest) (any.1 + deepest) (before ++ x ∷ []) ≡ Err (fault form n) → ⊥
  by_rest xs [] form n parts count begins e = none (subst BeginsATree (sym (parts ∙ append-nil xs)) begins)
  by_rest xs (y ∷ ys) form n parts count begins e =
      at_end_only form y xs ys parts (e ∙ ap (λ k. let r : Result (List Item) Fault = Err (fault form k) in r) (sym count))

  same_reading : (o : Result (List Item) Fault) → specification_within heaviest deepest (before ++ x ∷ []) ≡ o
      → specification_within heaviest deepest (before ++ x ∷ []) ≡ specification_within (any.0 + heaviest) (any.1 + deepest) (before ++ x ∷ []) → ⊥
  unfolding specification
  same_reading (Ok items) is same =
      let read = sound (before ++ x ∷ []) items is in none (record { items = items; good = read.1; rest = []; spells = sym read.0 ∙ sym (append-nil (before ++ x ∷ [])) })
  same_reading (Err e) is same =
      let up = begins_up_to (before ++ x ∷ []) e is in
      by_rest up.0 up.1 e.form e.left up.2 up.3 up.4 (sym same ∙ is)

  none_counted : counted (before ++ x ∷ []) ≡ None
  none_counted = elim (specification_past any.0 (any.1 + deepest) (omega arith) (before ++ x ∷ [])) [
    | inl same ↦ absurd (same_reading (specification_within heaviest deepest (before ++ x ∷ [])) refl same)
    | inr past ↦ past
  ]

no_state : (s : Option State) → going_on s (λ t. counted_from t.0 t.1 []) ≡ None → s ≡ None
no_state None e = refl
no_state (Some s) e = absurd (cc)

goes_past : (before : List Sym) (x : Sym) → BeginsATree before → BeginsAnyTree (before ++ x ∷ []) → (BeginsATree (before ++ x ∷ []) → ⊥) → GoesPast before x
goes_past before x begins any none =
    let whole_count = sym (over 0 mode.Items before begins.rest) ∙ ap counted (sym begins.spells) ∙ trees_keep begins.items begins.good in
    let some = some_behind (counted before) (λ t. counted_from t.0 t.1 begins.rest) (0, mode.Items) whole_count in
    let past = ap (λ s. going_on s (λ t. counted_from t.0 t.1 (x ∷ []))) (sym some.1) ∙ sym (over 0 mode.Items before (x ∷ [])) ∙ none_counted before x any none in
    record { blocks = some.0.0; mode = some.0.1; is = some.1; past = no_state (step some.0.0 some.0.1 x) past }

pub nesting_is_counted : NestingIsCounted
nesting_is_counted before after x begins (limit any none) = goes_past before x begins any none
