-- The rules of sections' bodies and of lists of actions.
use Rattle.std.proofs.Common.{◌≡◌, ℕ, ◌<◌, ◌≤◌, true, List, [], ◌∷◌, length, Option, None, Some, Ok, refl, arith}
use Rattle.sl_ast.specs.Operators.{in_action}
use Rattle.sl_ast.specs.Spelling.{Spelling, name, keyword, spell_option, spell_size, spell_expression, spell_star, spell_value, spell_direct, spell_dest, spell_target, spell_exported, spell_operand, spell_left, spell_statement, spell_commas, spell_separated, spell_all, spell_body, spell_action, spell_actions}
use Rattle.sl_ast.specs.Symbols.{quoted, Sym, word, mark}
use Rattle.sl_ast.specs.Trees.{Name, Expression, Operand, by_name, by_integer, Action, set, global_set, StarForm, Left, left_name, left_bits, left_star, Direct, to_label, to_operand, Dest, direct, computed, Target, calls, calls_computed, Exported, exports, exports_star, Statement, local, declare, assign, goto, branch, call_to, return, build, export, invoke, label}
use Rattle.sl_ast.specs.Validity.{Each, IsExpression, IsStatement, IsAction}
use Rattle.sl_ast.specs.declared.symbols.Keyword.TheVariants as k
use Rattle.sl_ast.specs.declared.symbols.Mark.TheVariants as m
use Rattle.sl_parse_grammar.specs.Expressions.{whole}
use Rattle.sl_parse_grammar.specs.Lists.{many}
use Rattle.sl_parse_grammar.specs.Parallel.{Local}
use Rattle.sl_parse_grammar.specs.Reader.{Input, at, first, same_mark, same_keyword, expect, expect_keyword, name_here}
use Rattle.sl_parse_grammar.specs.Statements.{operand, statement, until, body, set_here, global_set_here, action_by, action, actions}
use Rattle.sl_parse_grammar.proofs.ExpressionComplete as ec
use Rattle.sl_parse_grammar.proofs.ExpressionLocal.{whole_local}
use Rattle.sl_parse_grammar.proofs.ListsTaken.{Takes}
use Rattle.sl_parse_grammar.proofs.LocalSteps.{local_then, local_pure, local_peek, local_expect, local_expect_keyword, local_name}
use Rattle.sl_parse_grammar.proofs.Measures.{long_expression, long_space, long_size}
use Rattle.sl_parse_grammar.proofs.PartRules.{symbol_then, tree_then, whole_takes, Free, stops_semicolon, operand_rule}
use Rattle.sl_parse_grammar.proofs.Rules.{Rule, Any, Ends, Long, many_rule, long_all}
use Rattle.sl_parse_grammar.proofs.StatementRules.{statement_rule}
use Rattle.sl_parse_grammar.proofs.Taken.{then_ok, along, expect_ok, expect_keyword_ok, name_ok}

-- ---- a statement has a symbol at least

long_operand : (x : Operand) (rest : List Sym) → length rest < length (spell_operand x rest)
long_operand (by_name w) rest = omega arith
long_operand (by_integer n) rest = omega arith

long_star : (form : StarForm) (rest : List Sym) → length rest < length (spell_star form rest)
long_star form rest = omega (arith, long_space form.space (spell_option spell_size form.size rest), long_size form.size rest)

long_value : (value : Option Expression) (rest : List Sym) → length rest ≤ length (spell_option spell_value value rest)
long_value None rest = omega arith
long_value (Some e) rest = omega (arith, long_expression e rest)

long_left : (left : Left) (rest : List Sym) → length rest < length (spell_left left rest)
long_left (left_name w) rest = omega arith
long_left (left_bits w l c) rest = omega arith
long_left (left_star form e) rest = omega (arith, long_star form (spell_expression e rest), long_expression e rest)

long_direct : (to : Direct) (rest : List Sym) → length rest < length (spell_direct to rest)
long_direct (to_label w) rest = omega arith
long_direct (to_operand x) rest = long_operand x rest

long_dest : (to : Dest) (rest : List Sym) → length rest < length (spell_dest to rest)
long_dest (direct to) rest = long_direct to rest
long_dest (computed e) rest = omega (arith, long_expression e (mark m.CloseBracket ∷ rest))

long_target : (to : Target) (rest : List Sym) → length rest < length (spell_target to rest)
long_target (calls x) rest = long_operand x rest
long_target (calls_computed e) rest = omega (arith, long_expression e (mark m.CloseBracket ∷ rest))

long_exported : (x : Exported) (rest : List Sym) → length rest < length (spell_exported x rest)
long_exported (exports w) rest = omega arith
long_exported (exports_star form pointer) rest = omega (arith, long_star form (spell_operand pointer rest), long_operand pointer rest)

long_commas : {A : Type 0} (spell : Spelling A) → Long spell → (as' : List A) (rest : List Sym) → length rest ≤ length (spell_commas spell as' rest)
long_commas spell long [] rest = omega arith
long_commas spell long (a ∷ as') rest = omega (arith, long a (spell_commas spell as' rest), long_commas spell long as' rest)

pub long_separated : {A : Type 0} (spell : Spelling A) → Long spell → (as' : List A) (rest : List Sym) → length rest ≤ length (spell_separated spell as' rest)
long_separated spell long [] rest = omega arith
long_separated spell long (a ∷ as') rest = omega (arith, long a (spell_commas spell as' rest), long_commas spell long as' rest)

pub long_statement : (s : Statement) (rest : List Sym) → length rest < length (spell_statement s rest)
long_statement (local w size value) rest = omega (arith, long_size size (spell_option spell_value value (mark m.Semicolon ∷ rest)), long_value value (mark m.Semicolon ∷ rest))
long_statement (declare w n e) rest = omega (arith, long_expression e (mark m.Semicolon ∷ rest))
long_statement (assign left e) rest = omega (arith, long_left left (mark m.Equals ∷ spell_expression e (mark m.Semicolon ∷ rest)), long_expression e (mark m.Semicolon ∷ rest))
long_statement (goto to) rest = omega (arith, long_dest to (mark m.Semicolon ∷ rest))
long_statement (branch e to) rest = omega (arith, long_expression e (keyword k.Goto ∷ spell_direct to (mark m.Semicolon ∷ rest)), long_direct to (mark m.Semicolon ∷ rest))
long_statement (call_to to) rest = omega (arith, long_target to (mark m.Semicolon ∷ rest))
long_statement (return e) rest = omega (arith, long_expression e (mark m.CloseBracket ∷ mark m.Semicolon ∷ rest))
long_statement (build w) rest = omega arith
long_statement (export x) rest = omega (arith, long_exported x (mark m.Semicolon ∷ rest))
long_statement (invoke w es) rest = omega (arith, long_separated spell_expression long_expression es (mark m.Close ∷ mark m.Semicolon ∷ rest))
long_statement (label w) rest = omega arith

-- ---- bodies

-- no statement begins with a closing brace
goes_on : (s : Statement) (rest : List Sym) → until m.CloseBrace (first (spell_statement s rest)) ≡ true
unfolding same_mark
goes_on (local w size value) rest = refl
goes_on (declare w n e) rest = refl
goes_on (assign (left_name w) e) rest = refl
goes_on (assign (left_bits w l c) e) rest = refl
goes_on (assign (left_star form p) e) rest = refl
goes_on (goto to) rest = refl
goes_on (branch e to) rest = refl
goes_on (call_to to) rest = refl
goes_on (return e) rest = refl
goes_on (build w) rest = refl
goes_on (export x) rest = refl
goes_on (invoke w es) rest = refl
goes_on (label w) rest = refl

brace_ends : (rest : List Sym) → Ends (until m.CloseBrace) Any (mark m.CloseBrace ∷ rest)
unfolding same_mark
brace_ends rest = (refl, tt)

pub long_body : (ss : List Statement) (rest : List Sym) → length rest < length (spell_body ss rest)
long_body ss rest = omega (arith, long_all spell_statement long_statement ss (mark m.CloseBrace ∷ rest))

global_set_is : (to : Operand) (w : Name) (rest : List Sym) (r : ℕ) → global_set_here (at (spell_action (global_set to w) rest) r) ≡ Ok (global_set to w, at rest r)
unfolding global_set_here expect expect_keyword same_mark same_keyword name_here
global_set_is to w rest r = rw (operand_rule.complete to (mark m.Comma ∷ name w ∷ mark m.Close ∷ mark m.Semicolon ∷ rest) r tt tt) refl

global_set_local : Local Action global_set_here
unfolding global_set_here
global_set_local = local_then (expect_keyword k.GlobalSet) _ (local_expect_keyword k.GlobalSet) (λ _. local_then (expect m.Open) _ (local_expect m.Open) (λ _. local_then operand _ operand_rule.here
    (λ to. local_then (expect m.Comma) _ (local_expect m.Comma) (λ _. local_then name_here _ local_name (λ w. local_then (expect m.Close) _ (local_expect m.Close)
    (λ _. local_then (expect m.Semicolon) _ (local_expect m.Semicolon) (λ _. local_pure (global_set to w))))))))

long_action : (x : Action) (rest : List Sym) → length rest < length (spell_action x rest)
long_action (set w e) rest = omega (arith, long_expression e (mark m.Semicolon ∷ rest))
long_action (global_set to w) rest = omega (arith, long_operand to (mark m.Comma ∷ name w ∷ mark m.Close ∷ mark m.Semicolon ∷ rest))

acts_on : (x : Action) (rest : List Sym) → until m.CloseBracket (first (spell_action x rest)) ≡ true
unfolding same_mark
acts_on (set w e) rest = refl
acts_on (global_set to w) rest = refl

pub bracket_ends : (rest : List Sym) → Ends (until m.CloseBracket) Any (mark m.CloseBracket ∷ rest)
unfolding same_mark
bracket_ends rest = (refl, tt)

pub long_actions : (xs : List Action) (rest : List Sym) → length rest < length (spell_actions xs rest)
long_actions xs rest = omega (arith, long_all spell_action long_action xs (mark m.CloseBracket ∷ rest))

-- ---- within a limit of operators and opening brackets

module _ (most : ℕ) where
  pub statements_rule : Rule (spell_all spell_statement) (Each (IsStatement most)) (Ends (until m.CloseBrace) Any) (many (until m.CloseBrace) (statement most))
  statements_rule = many_rule spell_statement (IsStatement most) Any (until m.CloseBrace) (statement most) (statement_rule most) long_statement (record {
    begins = λ s rest good. goes_on s rest;
    follows = λ s rest good. tt;
  })

  body_is : (ss : List Statement) (rest : List Sym) (r : ℕ) → Each (IsStatement most) ss → body most (at (spell_body ss rest) r) ≡ Ok (ss, at rest r)
  unfolding body expect same_mark
  body_is ss rest r good = rw (statements_rule.complete ss (mark m.CloseBrace ∷ rest) r good (brace_ends rest)) refl

  body_ok : (i j : Input) (ss : List Statement) → body most i ≡ Ok (ss, j) → Takes spell_body (Each (IsStatement most)) i ss j
  unfolding body
  body_ok i j ss h =
      let a = then_ok (expect m.OpenBrace i) _ ss j h in
      let b = then_ok (many (until m.CloseBrace) (statement most) a.1) _ ss j a.3 in
      let c = then_ok (expect m.CloseBrace b.1) _ ss j b.3 in
      let found = statements_rule.sound a.1 b.1 b.0 b.2 in
      along (λ y l. Takes spell_body (Each (IsStatement most)) i y l) b.0 ss c.1 j c.3 (record {
        tokens = symbol_then i (mark m.OpenBrace) a.1 _ (expect_ok m.OpenBrace i a.1 a.0 a.2)
            (tree_then (spell_all spell_statement) (Each (IsStatement most)) a.1 b.0 b.1 _ found (expect_ok m.CloseBrace b.1 c.1 c.0 c.2).tokens);
        good = found.good;
      })

  body_local : Local (List Statement) (body most)
  unfolding body
  body_local = local_then (expect m.OpenBrace) _ (local_expect m.OpenBrace) (λ _. local_then (many (until m.CloseBrace) (statement most)) _ statements_rule.here
      (λ found. local_then (expect m.CloseBrace) _ (local_expect m.CloseBrace) (λ _. local_pure found)))

  pub body_rule : Rule spell_body (Each (IsStatement most)) Any (body most)
  body_rule = record { complete = λ ss rest r good may. body_is ss rest r good; sound = body_ok; here = body_local }

  -- ---- actions

  set_is : (w : Name) (e : Expression) (rest : List Sym) (r : ℕ) → IsExpression most in_action e → set_here most (at (spell_action (set w e) rest) r) ≡ Ok (set w e, at rest r)
  unfolding set_here expect same_mark name_here
  set_is w e rest r good = rw (ec.complete most in_action e (mark m.Semicolon ∷ rest) r good (stops_semicolon in_action rest)) refl

  set_ok : (i j : Input) (x : Action) → set_here most i ≡ Ok (x, j) → Takes spell_action (IsAction most) i x j
  unfolding set_here
  set_ok i j x h =
      let a = then_ok (name_here i) _ x j h in
      let b = then_ok (expect m.Equals a.1) _ x j a.3 in
      let c = then_ok (whole most in_action b.1) _ x j b.3 in
      let d = then_ok (expect m.Semicolon c.1) _ x j c.3 in
      let value = whole_takes most in_action b.1 c.1 c.0 c.2 in
      along (λ y l. Takes spell_action (IsAction most) i y l) (set a.0 c.0) x d.1 j d.3 (record {
        tokens = symbol_then i (name a.0) a.1 _ (name_ok i a.1 a.0 a.2) (symbol_then a.1 (mark m.Equals) b.1 _ (expect_ok m.Equals a.1 b.1 b.0 b.2)
            (tree_then spell_expression (IsExpression most in_action) b.1 c.0 c.1 _ value (expect_ok m.Semicolon c.1 d.1 d.0 d.2).tokens));
        good = value.good;
      })

  set_local : Local Action (set_here most)
  unfolding set_here
  set_local = local_then name_here _ local_name (λ w. local_then (expect m.Equals) _ (local_expect m.Equals) (λ _. local_then (whole most in_action) _ (whole_local most in_action)
      (λ e. local_then (expect m.Semicolon) _ (local_expect m.Semicolon) (λ _. local_pure (set w e)))))

  global_set_ok : (i j : Input) (x : Action) → global_set_here i ≡ Ok (x, j) → Takes spell_action (IsAction most) i x j
  unfolding global_set_here
  global_set_ok i j x h =
      let a = then_ok (expect_keyword k.GlobalSet i) _ x j h in
      let b = then_ok (expect m.Open a.1) _ x j a.3 in
      let c = then_ok (operand b.1) _ x j b.3 in
      let d = then_ok (expect m.Comma c.1) _ x j c.3 in
      let e = then_ok (name_here d.1) _ x j d.3 in
      let f = then_ok (expect m.Close e.1) _ x j e.3 in
      let g = then_ok (expect m.Semicolon f.1) _ x j f.3 in
      along (λ y l. Takes spell_action (IsAction most) i y l) (global_set c.0 e.0) x g.1 j g.3 (record {
        tokens = symbol_then i (keyword k.GlobalSet) a.1 _ (expect_keyword_ok k.GlobalSet i a.1 a.0 a.2) (symbol_then a.1 (mark m.Open) b.1 _ (expect_ok m.Open a.1 b.1 b.0 b.2)
            (tree_then spell_operand Free b.1 c.0 c.1 _ (operand_rule.sound b.1 c.1 c.0 c.2) (symbol_then c.1 (mark m.Comma) d.1 _ (expect_ok m.Comma c.1 d.1 d.0 d.2)
            (symbol_then d.1 (name e.0) e.1 _ (name_ok d.1 e.1 e.0 e.2) (symbol_then e.1 (mark m.Close) f.1 _ (expect_ok m.Close e.1 f.1 f.0 f.2)
            (expect_ok m.Semicolon f.1 g.1 g.0 g.2).tokens)))));
        good = tt;
      })

  action_is : (x : Action) (rest : List Sym) (r : ℕ) → IsAction most x → action most (at (spell_action x rest) r) ≡ Ok (x, at rest r)
  unfolding action
  action_is (set w e) rest r good = set_is w e rest r good
  action_is (global_set to w) rest r good = global_set_is to w rest r

  action_by_ok : (o : Option Sym) (i j : Input) (x : Action) → action_by most o i ≡ Ok (x, j) → Takes spell_action (IsAction most) i x j
  action_by_ok (Some (word (quoted k.GlobalSet))) i j x h = global_set_ok i j x h
  action_by_ok o i j x h = set_ok i j x h

  action_ok : (i j : Input) (x : Action) → action most i ≡ Ok (x, j) → Takes spell_action (IsAction most) i x j
  unfolding action
  action_ok i j x h = action_by_ok (first i.rest) i j x h

  action_by_local : (o : Option Sym) → Local Action (action_by most o)
  action_by_local (Some (word (quoted k.GlobalSet))) = global_set_local
  action_by_local o = set_local

  action_local : Local Action (action most)
  unfolding action
  action_local = local_peek (action_by most) action_by_local

  pub action_rule : Rule spell_action (IsAction most) Any (action most)
  action_rule = record { complete = λ x rest r good may. action_is x rest r good; sound = action_ok; here = action_local }

  pub many_actions_rule : Rule (spell_all spell_action) (Each (IsAction most)) (Ends (until m.CloseBracket) Any) (many (until m.CloseBracket) (action most))
  many_actions_rule = many_rule spell_action (IsAction most) Any (until m.CloseBracket) (action most) action_rule long_action (record {
    begins = λ x rest good. acts_on x rest;
    follows = λ x rest good. tt;
  })

  actions_are : (xs : List Action) (rest : List Sym) (r : ℕ) → Each (IsAction most) xs → actions most (at (spell_actions xs rest) r) ≡ Ok (xs, at rest r)
  unfolding actions expect same_mark
  actions_are xs rest r good = rw (many_actions_rule.complete xs (mark m.CloseBracket ∷ rest) r good (bracket_ends rest)) refl

  actions_ok : (i j : Input) (xs : List Action) → actions most i ≡ Ok (xs, j) → Takes spell_actions (Each (IsAction most)) i xs j
  unfolding actions
  actions_ok i j xs h =
      let a = then_ok (expect m.OpenBracket i) _ xs j h in
      let b = then_ok (many (until m.CloseBracket) (action most) a.1) _ xs j a.3 in
      let c = then_ok (expect m.CloseBracket b.1) _ xs j b.3 in
      let found = many_actions_rule.sound a.1 b.1 b.0 b.2 in
      along (λ y l. Takes spell_actions (Each (IsAction most)) i y l) b.0 xs c.1 j c.3 (record {
        tokens = symbol_then i (mark m.OpenBracket) a.1 _ (expect_ok m.OpenBracket i a.1 a.0 a.2)
            (tree_then (spell_all spell_action) (Each (IsAction most)) a.1 b.0 b.1 _ found (expect_ok m.CloseBracket b.1 c.1 c.0 c.2).tokens);
        good = found.good;
      })

  actions_local : Local (List Action) (actions most)
  unfolding actions
  actions_local = local_then (expect m.OpenBracket) _ (local_expect m.OpenBracket) (λ _. local_then (many (until m.CloseBracket) (action most)) _ many_actions_rule.here
      (λ found. local_then (expect m.CloseBracket) _ (local_expect m.CloseBracket) (λ _. local_pure found)))

  pub actions_rule : Rule spell_actions (Each (IsAction most)) Any (actions most)
  actions_rule = record { complete = λ xs rest r good may. actions_are xs rest r good; sound = actions_ok; here = actions_local }
