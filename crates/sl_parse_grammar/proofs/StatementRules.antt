-- The rules of statements and of disassembly actions.
use Rattle.std.proofs.Common.{◌≡◌, ℕ, true, false, List, ◌∷◌, Option, None, Some, Ok, refl, ◌∙◌}
use Rattle.sl_ast.specs.Operators.{in_section, loosest, missing_function, missing_statement}
use Rattle.sl_ast.specs.Spelling.{name, keyword, spell_option, spell_size, spell_expression, spell_star, spell_value, spell_label, spell_computed, spell_direct, spell_dest, spell_target, spell_exported, spell_statement, spell_separated}
use Rattle.sl_ast.specs.Symbols.{plain, quoted, Sym, number, word, mark}
use Rattle.sl_ast.specs.Trees.{Name, Expression, StarForm, left_name, left_bits, left_star, Direct, Dest, Target, Exported, Statement, local, declare, assign, goto, branch, call_to, return, build, export, invoke, label}
use Rattle.sl_ast.specs.Validity.{Each, IfWritten, IsWidth, IsExpression, IsStarForm, IsFirst, IsDest, IsTarget, IsExported, IsStatement}
use Rattle.sl_ast.specs.declared.symbols.Feature.{Feature}
use Rattle.sl_ast.specs.declared.symbols.Keyword.TheVariants as k
use Rattle.sl_ast.specs.declared.symbols.Mark.TheVariants as m
use Rattle.sl_parse_grammar.specs.Expressions.{whole}
use Rattle.sl_parse_grammar.specs.Lists.{listed}
use Rattle.sl_parse_grammar.specs.Parallel.{Local}
use Rattle.sl_parse_grammar.specs.Reader.{Input, at, first, Reader, ◌>>=◌, ◌>>◌, pure, peek, next, is_mark, same_mark, same_keyword, unsupported, expect, expect_keyword, integer_here, name_here, size_here, size_option, optional}
use Rattle.sl_parse_grammar.specs.Statements.{star_form, value_here, label_here, computed_here, direct_here, dest, target, exported, local_here, goto_here, branch_here, call_here, return_here, build_here, export_here, star_here, declare_here, assign_here, bits_here, invoke_here, invoke_by, named_by, begun_by, statement_by, statement}
use Rattle.sl_parse_grammar.proofs.ExpressionComplete as ec
use Rattle.sl_parse_grammar.proofs.ExpressionLocal.{whole_local}
use Rattle.sl_parse_grammar.proofs.ExpressionSound.{whole_ok}
use Rattle.sl_parse_grammar.proofs.ExpressionSteps.{Stops, stops_close, stops_comma, begins}
use Rattle.sl_parse_grammar.proofs.ListsTaken.{Takes}
use Rattle.sl_parse_grammar.proofs.LocalSteps.{local_then, local_pure, local_fault, local_peek, local_refuse, local_skips, local_expect, local_expect_keyword, local_integer, local_name, local_size, local_size_option}
use Rattle.sl_parse_grammar.proofs.Measures.{long_expression}
use Rattle.sl_parse_grammar.proofs.PartRules.{symbol_then, tree_then, whole_takes, size_option_takes, Free, stops_semicolon, stops_equals, stops_goto, whole_rule, NoStarTail, star_rule, value_rule, label_rule, computed_rule, wrap_ok, wrap_local, direct_rule, dest_rule, target_rule, exported_rule}
use Rattle.sl_parse_grammar.proofs.Rules.{Rule, Any, Ends, Separated, listed_is, listed_ok, listed_local, rule_shrinks, optional_rule}
use Rattle.sl_parse_grammar.proofs.Steps.{size_is, size_option_is}
use Rattle.sl_parse_grammar.proofs.Taken.{then_ok, along, Took, took_next, expect_ok, expect_keyword_ok, integer_ok, name_ok, size_ok}

-- ---- local

value_begins : (e : Expression) (rest : List Sym) → is_mark m.Equals (first (spell_value e rest)) ≡ true
unfolding same_mark
value_begins e rest = refl

value_no_colon : (value : Option Expression) (rest : List Sym) → is_mark m.Colon (first (spell_option spell_value value (mark m.Semicolon ∷ rest))) ≡ false
unfolding same_mark
value_no_colon None rest = refl
value_no_colon (Some e) rest = refl

semicolon_ends : (rest : List Sym) → Ends (is_mark m.Equals) (Stops in_section loosest) (mark m.Semicolon ∷ rest)
unfolding same_mark
semicolon_ends rest = (refl, stops_semicolon in_section rest)

-- a statement's end
ended_local : {A : Type 0} (a : A) → Local A (expect m.Semicolon >> pure a)
ended_local a = local_then (expect m.Semicolon) _ (local_expect m.Semicolon) (λ _. local_pure a)

-- ---- builds and exports

build_is : (w : Name) (rest : List Sym) (r : ℕ) → build_here (at (spell_statement (build w) rest) r) ≡ Ok (build w, at rest r)
unfolding build_here expect_keyword expect same_keyword same_mark name_here
build_is w rest r = refl

build_local : Local Statement build_here
unfolding build_here
build_local = local_then (expect_keyword k.Build) _ (local_expect_keyword k.Build) (λ _. local_then name_here _ local_name (λ w. ended_local (build w)))

export_is : (x : Exported) (rest : List Sym) (r : ℕ) → IsExported x → export_here (at (spell_statement (export x) rest) r) ≡ Ok (export x, at rest r)
unfolding export_here expect_keyword expect same_keyword same_mark
export_is x rest r good = rw (exported_rule.complete x (mark m.Semicolon ∷ rest) r good tt) refl

export_local : Local Statement export_here
unfolding export_here
export_local = local_then (expect_keyword k.Export) _ (local_expect_keyword k.Export) (λ _. local_then exported _ exported_rule.here (λ what. ended_local (export what)))

-- ---- assignments

no_star_tail : (e : Expression) (rest : List Sym) → NoStarTail (spell_expression e rest)
no_star_tail e rest = let b = begins e rest in record { no_colon = b.no_colon; no_bracket = b.no_bracket }

-- ---- calls of macros and operations

argument : Separated spell_expression (Stops in_section loosest)
argument = record { begins = λ e rest. (begins e rest).no_close; comma = λ rest. stops_comma in_section loosest rest; close = λ rest. stops_close in_section loosest rest }

-- ---- within a limit of operators and opening brackets

module _ (most : ℕ) where
  -- the reader's statement has the spelling that was taken
  abbrev Tells : Reader Statement → Type 0
  Tells p = (i j : Input) (s : Statement) → p i ≡ Ok (s, j) → Takes spell_statement (IsStatement most) i s j

  -- behind a name that was taken
  abbrev TellsBehind : Name → Reader Statement → Type 0
  TellsBehind w p = (i k j : Input) (s : Statement) → Took i (name w) k → IsFirst w → p k ≡ Ok (s, j) → Takes spell_statement (IsStatement most) i s j

  value_option : Rule (spell_option spell_value) (IfWritten (IsExpression most in_section)) (Ends (is_mark m.Equals) (Stops in_section loosest)) (optional (is_mark m.Equals) (value_here most))
  value_option = optional_rule spell_value (IsExpression most in_section) (Stops in_section loosest) (is_mark m.Equals) (value_here most) (value_rule most) value_begins

  local_is : (w : Name) (size : Option ℕ) (value : Option Expression) (rest : List Sym) (r : ℕ) → IsStatement most (local w size value)
      → local_here most (at (spell_statement (local w size value) rest) r) ≡ Ok (local w size value, at rest r)
  unfolding local_here expect_keyword expect same_keyword same_mark name_here
  local_is w size value rest r good =
      rw (
        size_option_is size (spell_option spell_value value (mark m.Semicolon ∷ rest)) r good.0 (value_no_colon value rest),
        value_option.complete value (mark m.Semicolon ∷ rest) r good.1 (semicolon_ends rest),
      ) refl

  local_ok : Tells (local_here most)
  unfolding local_here
  local_ok i j s h =
      let a = then_ok (expect_keyword k.Local i) _ s j h in
      let b = then_ok (name_here a.1) _ s j a.3 in
      let c = then_ok (size_option b.1) _ s j b.3 in
      let d = then_ok (optional (is_mark m.Equals) (value_here most) c.1) _ s j c.3 in
      let e = then_ok (expect m.Semicolon d.1) _ s j d.3 in
      let size = size_option_takes b.1 c.1 c.0 c.2 in
      let value = value_option.sound c.1 d.1 d.0 d.2 in
      along (λ y l. Takes spell_statement (IsStatement most) i y l) (local b.0 c.0 d.0) s e.1 j e.3 (record {
        tokens = symbol_then i (keyword k.Local) a.1 _ (expect_keyword_ok k.Local i a.1 a.0 a.2) (symbol_then a.1 (name b.0) b.1 _ (name_ok a.1 b.1 b.0 b.2)
            (tree_then (spell_option spell_size) (IfWritten IsWidth) b.1 c.0 c.1 _ size (tree_then (spell_option spell_value) (IfWritten (IsExpression most in_section)) c.1 d.0 d.1 _ value
            (expect_ok m.Semicolon d.1 e.1 e.0 e.2).tokens)));
        good = (size.good, value.good);
      })

  local_local : Local Statement (local_here most)
  unfolding local_here
  local_local = local_then (expect_keyword k.Local) _ (local_expect_keyword k.Local) (λ _. local_then name_here _ local_name (λ w. local_then size_option _ local_size_option
      (λ size. local_then (optional (is_mark m.Equals) (value_here most)) _ value_option.here (λ value. ended_local (local w size value)))))

  -- ---- jumps and calls

  goto_is : (to : Dest) (rest : List Sym) (r : ℕ) → IsDest most to → goto_here most (at (spell_statement (goto to) rest) r) ≡ Ok (goto to, at rest r)
  unfolding goto_here expect_keyword expect same_keyword same_mark
  goto_is to rest r good = rw ((dest_rule most).complete to (mark m.Semicolon ∷ rest) r good tt) refl

  goto_ok : Tells (goto_here most)
  unfolding goto_here
  goto_ok i j s h =
      let a = then_ok (expect_keyword k.Goto i) _ s j h in
      let b = then_ok (dest most a.1) _ s j a.3 in
      let c = then_ok (expect m.Semicolon b.1) _ s j b.3 in
      let to = (dest_rule most).sound a.1 b.1 b.0 b.2 in
      along (λ y l. Takes spell_statement (IsStatement most) i y l) (goto b.0) s c.1 j c.3 (record {
        tokens = symbol_then i (keyword k.Goto) a.1 _ (expect_keyword_ok k.Goto i a.1 a.0 a.2) (tree_then spell_dest (IsDest most) a.1 b.0 b.1 _ to (expect_ok m.Semicolon b.1 c.1 c.0 c.2).tokens);
        good = to.good;
      })

  goto_local : Local Statement (goto_here most)
  unfolding goto_here
  goto_local = local_then (expect_keyword k.Goto) _ (local_expect_keyword k.Goto) (λ _. local_then (dest most) _ (dest_rule most).here (λ to. ended_local (goto to)))

  branch_is : (e : Expression) (to : Direct) (rest : List Sym) (r : ℕ) → IsExpression most in_section e → branch_here most (at (spell_statement (branch e to) rest) r) ≡ Ok (branch e to, at rest r)
  unfolding branch_here expect_keyword expect same_keyword same_mark
  branch_is e to rest r good =
      rw (
        (ec.complete most) in_section e (keyword k.Goto ∷ spell_direct to (mark m.Semicolon ∷ rest)) r good (stops_goto in_section (spell_direct to (mark m.Semicolon ∷ rest))),
        direct_rule.complete to (mark m.Semicolon ∷ rest) r tt tt,
      ) refl

  branch_ok : Tells (branch_here most)
  unfolding branch_here
  branch_ok i j s h =
      let a = then_ok (expect_keyword k.If i) _ s j h in
      let b = then_ok (whole most in_section a.1) _ s j a.3 in
      let c = then_ok (expect_keyword k.Goto b.1) _ s j b.3 in
      let d = then_ok (direct_here c.1) _ s j c.3 in
      let e = then_ok (expect m.Semicolon d.1) _ s j d.3 in
      let test = whole_takes most in_section a.1 b.1 b.0 b.2 in
      let to = direct_rule.sound c.1 d.1 d.0 d.2 in
      along (λ y l. Takes spell_statement (IsStatement most) i y l) (branch b.0 d.0) s e.1 j e.3 (record {
        tokens = symbol_then i (keyword k.If) a.1 _ (expect_keyword_ok k.If i a.1 a.0 a.2) (tree_then spell_expression (IsExpression most in_section) a.1 b.0 b.1 _ test
            (symbol_then b.1 (keyword k.Goto) c.1 _ (expect_keyword_ok k.Goto b.1 c.1 c.0 c.2) (tree_then spell_direct Free c.1 d.0 d.1 _ to (expect_ok m.Semicolon d.1 e.1 e.0 e.2).tokens)));
        good = test.good;
      })

  branch_local : Local Statement (branch_here most)
  unfolding branch_here
  branch_local = local_then (expect_keyword k.If) _ (local_expect_keyword k.If) (λ _. local_then (whole most in_section) _ (whole_local most in_section)
      (λ e. local_then (expect_keyword k.Goto) _ (local_expect_keyword k.Goto) (λ _. local_then direct_here _ direct_rule.here (λ to. ended_local (branch e to)))))

  call_is : (to : Target) (rest : List Sym) (r : ℕ) → IsTarget most to → call_here most (at (spell_statement (call_to to) rest) r) ≡ Ok (call_to to, at rest r)
  unfolding call_here expect_keyword expect same_keyword same_mark
  call_is to rest r good = rw ((target_rule most).complete to (mark m.Semicolon ∷ rest) r good tt) refl

  call_ok : Tells (call_here most)
  unfolding call_here
  call_ok i j s h =
      let a = then_ok (expect_keyword k.Call i) _ s j h in
      let b = then_ok (target most a.1) _ s j a.3 in
      let c = then_ok (expect m.Semicolon b.1) _ s j b.3 in
      let to = (target_rule most).sound a.1 b.1 b.0 b.2 in
      along (λ y l. Takes spell_statement (IsStatement most) i y l) (call_to b.0) s c.1 j c.3 (record {
        tokens = symbol_then i (keyword k.Call) a.1 _ (expect_keyword_ok k.Call i a.1 a.0 a.2) (tree_then spell_target (IsTarget most) a.1 b.0 b.1 _ to (expect_ok m.Semicolon b.1 c.1 c.0 c.2).tokens);
        good = to.good;
      })

  call_local : Local Statement (call_here most)
  unfolding call_here
  call_local = local_then (expect_keyword k.Call) _ (local_expect_keyword k.Call) (λ _. local_then (target most) _ (target_rule most).here (λ to. ended_local (call_to to)))

  return_is : (e : Expression) (rest : List Sym) (r : ℕ) → IsExpression most in_section e → return_here most (at (spell_statement (return e) rest) r) ≡ Ok (return e, at rest r)
  unfolding return_here expect_keyword expect same_keyword same_mark
  return_is e rest r good = rw ((computed_rule most).complete e (mark m.Semicolon ∷ rest) r good tt) refl

  return_ok : Tells (return_here most)
  unfolding return_here
  return_ok i j s h =
      let a = then_ok (expect_keyword k.Return i) _ s j h in
      let b = then_ok (computed_here most a.1) _ s j a.3 in
      let c = then_ok (expect m.Semicolon b.1) _ s j b.3 in
      let to = (computed_rule most).sound a.1 b.1 b.0 b.2 in
      along (λ y l. Takes spell_statement (IsStatement most) i y l) (return b.0) s c.1 j c.3 (record {
        tokens = symbol_then i (keyword k.Return) a.1 _ (expect_keyword_ok k.Return i a.1 a.0 a.2)
            (tree_then spell_computed (IsExpression most in_section) a.1 b.0 b.1 _ to (expect_ok m.Semicolon b.1 c.1 c.0 c.2).tokens);
        good = to.good;
      })

  return_local : Local Statement (return_here most)
  unfolding return_here
  return_local = local_then (expect_keyword k.Return) _ (local_expect_keyword k.Return) (λ _. local_then (computed_here most) _ (computed_rule most).here (λ e. ended_local (return e)))

  build_ok : Tells build_here
  unfolding build_here
  build_ok i j s h =
      let a = then_ok (expect_keyword k.Build i) _ s j h in
      let b = then_ok (name_here a.1) _ s j a.3 in
      let c = then_ok (expect m.Semicolon b.1) _ s j b.3 in
      along (λ y l. Takes spell_statement (IsStatement most) i y l) (build b.0) s c.1 j c.3 (record {
        tokens = symbol_then i (keyword k.Build) a.1 _ (expect_keyword_ok k.Build i a.1 a.0 a.2)
            (symbol_then a.1 (name b.0) b.1 _ (name_ok a.1 b.1 b.0 b.2) (expect_ok m.Semicolon b.1 c.1 c.0 c.2).tokens);
        good = tt;
      })

  export_ok : Tells export_here
  unfolding export_here
  export_ok i j s h =
      let a = then_ok (expect_keyword k.Export i) _ s j h in
      let b = then_ok (exported a.1) _ s j a.3 in
      let c = then_ok (expect m.Semicolon b.1) _ s j b.3 in
      let what = exported_rule.sound a.1 b.1 b.0 b.2 in
      along (λ y l. Takes spell_statement (IsStatement most) i y l) (export b.0) s c.1 j c.3 (record {
        tokens = symbol_then i (keyword k.Export) a.1 _ (expect_keyword_ok k.Export i a.1 a.0 a.2) (tree_then spell_exported IsExported a.1 b.0 b.1 _ what (expect_ok m.Semicolon b.1 c.1 c.0 c.2).tokens);
        good = what.good;
      })

  star_is : (form : StarForm) (p e : Expression) (rest : List Sym) (r : ℕ) → IsStatement most (assign (left_star form p) e)
      → star_here most (at (spell_statement (assign (left_star form p) e) rest) r) ≡ Ok (assign (left_star form p) e, at rest r)
  unfolding star_here expect same_mark
  star_is form p e rest r good =
      let after = mark m.Equals ∷ spell_expression e (mark m.Semicolon ∷ rest) in
      rw (
        star_rule.complete form (spell_expression p after) r good.0.0 (no_star_tail p after),
        (ec.complete most) in_section p after r good.0.1 (stops_equals in_section (spell_expression e (mark m.Semicolon ∷ rest))),
        (value_rule most).complete e (mark m.Semicolon ∷ rest) r good.1 (stops_semicolon in_section rest),
      ) refl

  star_ok : Tells (star_here most)
  unfolding star_here
  star_ok i j s h =
      let a = then_ok (star_form i) _ s j h in
      let b = then_ok (whole most in_section a.1) _ s j a.3 in
      let c = then_ok (value_here most b.1) _ s j b.3 in
      let d = then_ok (expect m.Semicolon c.1) _ s j c.3 in
      let form = star_rule.sound i a.1 a.0 a.2 in
      let pointer = whole_takes most in_section a.1 b.1 b.0 b.2 in
      let value = (value_rule most).sound b.1 c.1 c.0 c.2 in
      along (λ y l. Takes spell_statement (IsStatement most) i y l) (assign (left_star a.0 b.0) c.0) s d.1 j d.3 (record {
        tokens = tree_then spell_star IsStarForm i a.0 a.1 _ form (tree_then spell_expression (IsExpression most in_section) a.1 b.0 b.1 _ pointer
            (tree_then spell_value (IsExpression most in_section) b.1 c.0 c.1 _ value (expect_ok m.Semicolon c.1 d.1 d.0 d.2).tokens));
        good = ((form.good, pointer.good), value.good);
      })

  star_local : Local Statement (star_here most)
  unfolding star_here
  star_local = local_then star_form _ star_rule.here (λ form. local_then (whole most in_section) _ (whole_local most in_section) (λ p. local_then (value_here most) _ (value_rule most).here
      (λ e. ended_local (assign (left_star form p) e))))

  declare_is : (w : Name) (n : ℕ) (e : Expression) (rest : List Sym) (r : ℕ) → IsWidth n → IsExpression most in_section e
      → declare_here most w (at (mark m.Colon ∷ number n ∷ mark m.Equals ∷ spell_expression e (mark m.Semicolon ∷ rest)) r) ≡ Ok (declare w n e, at rest r)
  unfolding declare_here expect same_mark
  declare_is w n e rest r fits good =
      rw (size_is n (mark m.Equals ∷ spell_expression e (mark m.Semicolon ∷ rest)) r fits, (value_rule most).complete e (mark m.Semicolon ∷ rest) r good (stops_semicolon in_section rest)) refl

  declare_ok : (w : Name) → TellsBehind w (declare_here most w)
  unfolding declare_here
  declare_ok w i k j s took starts h =
      let a = then_ok (expect m.Colon k) _ s j h in
      let b = then_ok (size_here a.1) _ s j a.3 in
      let c = then_ok (value_here most b.1) _ s j b.3 in
      let d = then_ok (expect m.Semicolon c.1) _ s j c.3 in
      let size = size_ok a.1 b.1 b.0 b.2 in
      let value = (value_rule most).sound b.1 c.1 c.0 c.2 in
      along (λ y l. Takes spell_statement (IsStatement most) i y l) (declare w b.0 c.0) s d.1 j d.3 (record {
        tokens = symbol_then i (name w) k _ took (symbol_then k (mark m.Colon) a.1 _ (expect_ok m.Colon k a.1 a.0 a.2) (symbol_then a.1 (number b.0) b.1 _ size.took
            (tree_then spell_value (IsExpression most in_section) b.1 c.0 c.1 _ value (expect_ok m.Semicolon c.1 d.1 d.0 d.2).tokens)));
        good = (starts, size.fits, value.good);
      })

  declare_local : (w : Name) → Local Statement (declare_here most w)
  unfolding declare_here
  declare_local w = local_then (expect m.Colon) _ (local_expect m.Colon) (λ _. local_then size_here _ local_size (λ n. local_then (value_here most) _ (value_rule most).here (λ e. ended_local (declare w n e))))

  assign_is : (w : Name) (e : Expression) (rest : List Sym) (r : ℕ) → IsExpression most in_section e
      → assign_here most w (at (mark m.Equals ∷ spell_expression e (mark m.Semicolon ∷ rest)) r) ≡ Ok (assign (left_name w) e, at rest r)
  unfolding assign_here expect same_mark
  assign_is w e rest r good = rw ((value_rule most).complete e (mark m.Semicolon ∷ rest) r good (stops_semicolon in_section rest)) refl

  assign_ok : (w : Name) → TellsBehind w (assign_here most w)
  unfolding assign_here
  assign_ok w i k j s took starts h =
      let a = then_ok (value_here most k) _ s j h in
      let b = then_ok (expect m.Semicolon a.1) _ s j a.3 in
      let value = (value_rule most).sound k a.1 a.0 a.2 in
      along (λ y l. Takes spell_statement (IsStatement most) i y l) (assign (left_name w) a.0) s b.1 j b.3 (record {
        tokens = symbol_then i (name w) k _ took (tree_then spell_value (IsExpression most in_section) k a.0 a.1 _ value (expect_ok m.Semicolon a.1 b.1 b.0 b.2).tokens);
        good = (starts, value.good);
      })

  assign_local : (w : Name) → Local Statement (assign_here most w)
  unfolding assign_here
  assign_local w = local_then (value_here most) _ (value_rule most).here (λ e. ended_local (assign (left_name w) e))

  bits_are : (w : Name) (l c : ℕ) (e : Expression) (rest : List Sym) (r : ℕ) → IsExpression most in_section e
      → bits_here most w (at (mark m.OpenBracket ∷ number l ∷ mark m.Comma ∷ number c ∷ mark m.CloseBracket ∷ mark m.Equals ∷ spell_expression e (mark m.Semicolon ∷ rest)) r)
      ≡ Ok (assign (left_bits w l c) e, at rest r)
  unfolding bits_here expect same_mark integer_here
  bits_are w l c e rest r good = rw ((value_rule most).complete e (mark m.Semicolon ∷ rest) r good (stops_semicolon in_section rest)) refl

  bits_ok : (w : Name) → TellsBehind w (bits_here most w)
  unfolding bits_here
  bits_ok w i k j s took starts h =
      let a = then_ok (expect m.OpenBracket k) _ s j h in
      let b = then_ok (integer_here a.1) _ s j a.3 in
      let c = then_ok (expect m.Comma b.1) _ s j b.3 in
      let d = then_ok (integer_here c.1) _ s j c.3 in
      let e = then_ok (expect m.CloseBracket d.1) _ s j d.3 in
      let f = then_ok (value_here most e.1) _ s j e.3 in
      let g = then_ok (expect m.Semicolon f.1) _ s j f.3 in
      let value = (value_rule most).sound e.1 f.1 f.0 f.2 in
      along (λ y l. Takes spell_statement (IsStatement most) i y l) (assign (left_bits w b.0 d.0) f.0) s g.1 j g.3 (record {
        tokens = symbol_then i (name w) k _ took (symbol_then k (mark m.OpenBracket) a.1 _ (expect_ok m.OpenBracket k a.1 a.0 a.2) (symbol_then a.1 (number b.0) b.1 _ (integer_ok a.1 b.1 b.0 b.2)
            (symbol_then b.1 (mark m.Comma) c.1 _ (expect_ok m.Comma b.1 c.1 c.0 c.2) (symbol_then c.1 (number d.0) d.1 _ (integer_ok c.1 d.1 d.0 d.2)
            (symbol_then d.1 (mark m.CloseBracket) e.1 _ (expect_ok m.CloseBracket d.1 e.1 e.0 e.2)
            (tree_then spell_value (IsExpression most in_section) e.1 f.0 f.1 _ value (expect_ok m.Semicolon f.1 g.1 g.0 g.2).tokens))))));
        good = (starts, value.good);
      })

  bits_local : (w : Name) → Local Statement (bits_here most w)
  unfolding bits_here
  bits_local w = local_then (expect m.OpenBracket) _ (local_expect m.OpenBracket) (λ _. local_then integer_here _ local_integer (λ l. local_then (expect m.Comma) _ (local_expect m.Comma)
      (λ _. local_then integer_here _ local_integer (λ c. local_then (expect m.CloseBracket) _ (local_expect m.CloseBracket)
      (λ _. local_then (value_here most) _ (value_rule most).here (λ e. ended_local (assign (left_bits w l c) e)))))))

  invoke_is : (w : Name) (es : List Expression) (rest : List Sym) (r : ℕ) → Each (IsExpression most in_section) es
      → invoke_here most w (at (mark m.Open ∷ spell_separated spell_expression es (mark m.Close ∷ mark m.Semicolon ∷ rest)) r) ≡ Ok (invoke w es, at rest r)
  unfolding invoke_here expect same_mark
  invoke_is w es rest r good =
      rw (listed_is spell_expression (IsExpression most in_section) (Stops in_section loosest) (whole most in_section) (whole_rule most in_section) long_expression argument es (mark m.Semicolon ∷ rest) r good) refl

  pub arguments_ok : (i j : Input) (es : List Expression) → listed (whole most in_section) i ≡ Ok (es, j) → Takes (spell_separated spell_expression) (Each (IsExpression most in_section)) i es j
  arguments_ok = listed_ok spell_expression (IsExpression most in_section) (whole most in_section)
      (λ i j e h. (let w = whole_ok most in_section i j e h in record { tokens = w.tokens; room = w.room; good = w.is }))

  invoke_ok : (w : Name) → missing_function w ≡ None → TellsBehind w (invoke_here most w)
  unfolding invoke_here
  invoke_ok w known i k j s took starts h =
      let a = then_ok (expect m.Open k) _ s j h in
      let b = then_ok (listed (whole most in_section) a.1) _ s j a.3 in
      let c = then_ok (expect m.Close b.1) _ s j b.3 in
      let d = then_ok (expect m.Semicolon c.1) _ s j c.3 in
      let given = arguments_ok a.1 b.1 b.0 b.2 in
      along (λ y l. Takes spell_statement (IsStatement most) i y l) (invoke w b.0) s d.1 j d.3 (record {
        tokens = symbol_then i (name w) k _ took (symbol_then k (mark m.Open) a.1 _ (expect_ok m.Open k a.1 a.0 a.2)
            (tree_then (spell_separated spell_expression) (Each (IsExpression most in_section)) a.1 b.0 b.1 _ given
            (symbol_then b.1 (mark m.Close) c.1 _ (expect_ok m.Close b.1 c.1 c.0 c.2) (expect_ok m.Semicolon c.1 d.1 d.0 d.2).tokens)));
        good = (starts, known, given.good);
      })

  invoke_local : (w : Name) → Local Statement (invoke_here most w)
  unfolding invoke_here
  invoke_local w = local_then (expect m.Open) _ (local_expect m.Open)
      (λ _. local_then (listed (whole most in_section)) _
      (listed_local (whole most in_section) (whole_local most in_section) (rule_shrinks spell_expression (IsExpression most in_section) (Stops in_section loosest) (whole most in_section) (whole_rule most in_section) long_expression))
      (λ es. local_then (expect m.Close) _ (local_expect m.Close) (λ _. ended_local (invoke w es))))

  -- ---- statements that begin with a name

  invoke_by_ok : (w : Name) (x : Option Feature) → missing_function w ≡ x → TellsBehind w (invoke_by most w x)
  invoke_by_ok w None known i k j s took starts h = invoke_ok w known i k j s took starts h
  invoke_by_ok w (Some feature) known i k j s took starts h = absurd (cc)

  invoke_by_local : (w : Name) (x : Option Feature) → Local Statement (invoke_by most w x)
  invoke_by_local w None = invoke_local w
  invoke_by_local w (Some feature) = local_fault (unsupported feature 1)

  named_by_ok : (w : Name) (o : Option Sym) → TellsBehind w (named_by most w o)
  named_by_ok w (Some (mark m.Colon)) i k j s took starts h = declare_ok w i k j s took starts h
  named_by_ok w (Some (mark m.OpenBracket)) i k j s took starts h = bits_ok w i k j s took starts h
  named_by_ok w (Some (mark m.Open)) i k j s took starts h = invoke_by_ok w (missing_function w) refl i k j s took starts h
  named_by_ok w o i k j s took starts h = assign_ok w i k j s took starts h

  named_by_local : (w : Name) (o : Option Sym) → Local Statement (named_by most w o)
  named_by_local w (Some (mark m.Colon)) = declare_local w
  named_by_local w (Some (mark m.OpenBracket)) = bits_local w
  named_by_local w (Some (mark m.Open)) = invoke_by_local w (missing_function w)
  named_by_local w o = assign_local w

  begun_by_ok : (w : Name) (x : Option Feature) → missing_statement w ≡ x → (i j : Input) (s : Statement) → first i.rest ≡ Some (name w) → begun_by most w x i ≡ Ok (s, j)
      → Takes spell_statement (IsStatement most) i s j
  begun_by_ok w None starts i j s is h = named_by_ok w (first (next i).rest) i (next i) j s (took_next i (name w) is) starts h
  begun_by_ok w (Some feature) starts i j s is h = absurd (cc)

  begun_by_local : (w : Name) (x : Option Feature) → Local Statement (begun_by most w x)
  begun_by_local w None = local_skips (peek >>= named_by most w) (local_peek (named_by most w) (named_by_local w))
  begun_by_local w (Some feature) = local_fault (unsupported feature 0)

  -- ---- statements

  -- the reading of a statement that begins with a name goes on behind it
  begun_is : (w : Name) (xs : List Sym) (r : ℕ) → IsFirst w → statement most (at (name w ∷ xs) r) ≡ named_by most w (first xs) (at xs r)
  unfolding statement
  begun_is w xs r starts = rw starts refl

  invoked_is : (w : Name) (xs : List Sym) (r : ℕ) → missing_function w ≡ None → named_by most w (Some (mark m.Open)) (at xs r) ≡ invoke_here most w (at xs r)
  invoked_is w xs r known = rw known refl

  by_local : (xs : List Sym) (r : ℕ) → statement most (at (keyword k.Local ∷ xs) r) ≡ local_here most (at (keyword k.Local ∷ xs) r)
  unfolding statement
  by_local xs r = refl

  statement_is : (s : Statement) (rest : List Sym) (r : ℕ) → IsStatement most s → statement most (at (spell_statement s rest) r) ≡ Ok (s, at rest r)
  unfolding statement
  statement_is (local w size value) rest r good = local_is w size value rest r good
  statement_is (declare w n e) rest r good =
      begun_is w (mark m.Colon ∷ number n ∷ mark m.Equals ∷ spell_expression e (mark m.Semicolon ∷ rest)) r good.0 ∙ declare_is w n e rest r good.1 good.2
  statement_is (assign (left_name w) e) rest r good = begun_is w (mark m.Equals ∷ spell_expression e (mark m.Semicolon ∷ rest)) r good.0 ∙ assign_is w e rest r good.1
  statement_is (assign (left_bits w l c) e) rest r good =
      begun_is w (mark m.OpenBracket ∷ number l ∷ mark m.Comma ∷ number c ∷ mark m.CloseBracket ∷ mark m.Equals ∷ spell_expression e (mark m.Semicolon ∷ rest)) r good.0
      ∙ bits_are w l c e rest r good.1
  statement_is (assign (left_star form p) e) rest r good = star_is form p e rest r good
  statement_is (goto to) rest r good = goto_is to rest r good
  statement_is (branch e to) rest r good = branch_is e to rest r good
  statement_is (call_to to) rest r good = call_is to rest r good
  statement_is (return e) rest r good = return_is e rest r good
  statement_is (build w) rest r good = build_is w rest r
  statement_is (export what) rest r good = export_is what rest r good
  statement_is (invoke w es) rest r good =
      begun_is w (mark m.Open ∷ spell_separated spell_expression es (mark m.Close ∷ mark m.Semicolon ∷ rest)) r good.0
      ∙ invoked_is w (mark m.Open ∷ spell_separated spell_expression es (mark m.Close ∷ mark m.Semicolon ∷ rest)) r good.1 ∙ invoke_is w es rest r good.2
  statement_is (label w) rest r good = rw (label_rule.complete w rest r tt tt) refl

  statement_by_ok : (o : Option Sym) (i j : Input) (s : Statement) → first i.rest ≡ o → statement_by most o i ≡ Ok (s, j) → Takes spell_statement (IsStatement most) i s j
  statement_by_ok (Some (word (quoted k.Local))) i j s is h = local_ok i j s h
  statement_by_ok (Some (word (quoted k.Goto))) i j s is h = goto_ok i j s h
  statement_by_ok (Some (word (quoted k.If))) i j s is h = branch_ok i j s h
  statement_by_ok (Some (word (quoted k.Call))) i j s is h = call_ok i j s h
  statement_by_ok (Some (word (quoted k.Return))) i j s is h = return_ok i j s h
  statement_by_ok (Some (word (quoted k.Build))) i j s is h = build_ok i j s h
  statement_by_ok (Some (word (quoted k.Export))) i j s is h = export_ok i j s h
  statement_by_ok (Some (word (plain w))) i j s is h = begun_by_ok w (missing_statement w) refl i j s is h
  statement_by_ok (Some (mark m.Star)) i j s is h = star_ok i j s h
  statement_by_ok (Some (mark m.Less)) i j s is h =
      wrap_ok spell_label Free spell_statement (IsStatement most) label_here label label_rule.sound (λ i j w t. record { tokens = t.tokens; good = tt }) i j s h
  statement_by_ok o i j s is h = absurd (cc)

  statement_ok : Tells (statement most)
  unfolding statement
  statement_ok i j s h = statement_by_ok (first i.rest) i j s refl h

  statement_by_local : (o : Option Sym) → Local Statement (statement_by most o)
  statement_by_local (Some (word (quoted k.Local))) = local_local
  statement_by_local (Some (word (quoted k.Goto))) = goto_local
  statement_by_local (Some (word (quoted k.If))) = branch_local
  statement_by_local (Some (word (quoted k.Call))) = call_local
  statement_by_local (Some (word (quoted k.Return))) = return_local
  statement_by_local (Some (word (quoted k.Build))) = build_local
  statement_by_local (Some (word (quoted k.Export))) = export_local
  statement_by_local (Some (word (plain w))) = begun_by_local w (missing_statement w)
  statement_by_local (Some (mark m.Star)) = star_local
  statement_by_local (Some (mark m.Less)) = wrap_local label_here label label_rule.here
  statement_by_local o = local_refuse

  statement_local : Local Statement (statement most)
  unfolding statement
  statement_local = local_peek (statement_by most) statement_by_local

  pub statement_rule : Rule spell_statement (IsStatement most) Any (statement most)
  statement_rule = record { complete = λ s rest r good may. statement_is s rest r good; sound = statement_ok; here = statement_local }
