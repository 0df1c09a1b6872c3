-- Statements and actions that complete what was read.
use Rattle.std.proofs.Common.{◌≡◌, ℕ, zero, suc, ◌+◌, Bool, true, false, cond, List, [], ◌∷◌, length, Option, None, Some, Ok, Err, refl, ap, sym, ◌∙◌, subst, arith}
use Rattle.sl_ast.specs.Operators.{Kind, in_section, in_action, loosest, pattern_loosest, missing_function, missing_statement}
use Rattle.sl_ast.specs.Spelling.{name, spell_name, spell_option, spell_size, spell_space, spell_expression, spell_pattern, spell_operand, spell_star, spell_value, spell_label, spell_computed, spell_direct, spell_dest, spell_target, spell_exported, spell_statement, spell_separated, spell_body, spell_action, spell_actions}
use Rattle.sl_ast.specs.Symbols.{plain, quoted, Sym, number, word, mark}
use Rattle.sl_ast.specs.Trees.{Name, Expression, integer, Pattern, bare, by_integer, set, global_set, left_name, left_bits, left_star, to_label, to_operand, direct, computed, calls, calls_computed, exports, exports_star, Statement, local, declare, assign, goto, branch, call_to, return, build, export, invoke, label}
use Rattle.sl_ast.specs.Validity.{Each, IfWritten, IsWidth, IsExpression, IsPattern, IsAction, IsStarForm, IsFirst, IsDest, IsTarget, IsExported, IsStatement}
use Rattle.sl_ast.specs.declared.symbols.Feature.{Feature}
use Rattle.sl_ast.specs.declared.symbols.Feature.TheVariants as f
use Rattle.sl_ast.specs.declared.symbols.Keyword.TheVariants as k
use Rattle.sl_ast.specs.declared.symbols.Mark.TheVariants as m
use Rattle.sl_parse_grammar.specs.Expressions.{expression, whole, with_room}
use Rattle.sl_parse_grammar.specs.Patterns.{pattern, whole_pattern}
use Rattle.sl_parse_grammar.specs.Reader.{Input, at, left, first, unsupported, Fault, fault, Outcome, Reader, ◌>>=◌, pure, next, is_mark, size_option, size_here, integer_here, name_here}
use Rattle.sl_parse_grammar.specs.Statements.{operand_by, operand, space_name, star_form, value_here, label_here, computed_here, direct_by, direct_here, dest_by, dest, target_by, target, exported_by, exported, local_here, goto_here, branch_here, call_here, return_here, build_here, export_here, star_here, declare_here, assign_here, bits_here, invoke_here, invoke_by, named_by, begun_by, statement_by, statement, until, body, set_here, global_set_here, action_by, action, actions}
use Rattle.sl_parse_grammar.proofs.BodyRules.{body_rule, action_rule, actions_rule}
use Rattle.sl_parse_grammar.proofs.Keeps.{keeps_expression, keeps_pattern, keeps_operand, keeps_space, keeps_star, keeps_value, keeps_label, keeps_computed, keeps_direct, keeps_dest, keeps_target, keeps_exported, keeps_statement, keeps_body, keeps_action, keeps_actions}
use Rattle.sl_parse_grammar.proofs.ListsTaken.{Takes}
use Rattle.sl_parse_grammar.proofs.PartRules.{Free, operand_rule, space_rule, star_rule, label_rule, direct_rule, exported_rule, whole_rule, pattern_rule, value_rule, computed_rule, dest_rule, target_rule}
use Rattle.sl_parse_grammar.proofs.StatementRules.{statement_rule, arguments_ok}
use Rattle.sl_parse_grammar.proofs.Taken.{took_next, first_is}
use Rattle.sl_parse_faults.proofs.Closes.{AllKeep, Mended, Closes, mended_at, same_error}
use Rattle.sl_parse_faults.proofs.Goes.{Goes, one_more, place, at_place, there}
use Rattle.sl_parse_faults.proofs.Leaves.{keeps_one, mended_refused, part_integer, part_name, part_size, part_size_option, spell_number}
use Rattle.sl_parse_faults.proofs.MendExpressions.{Fits, nothing_keeps, expression_mends}
use Rattle.sl_parse_faults.proofs.MendPatterns.{PatternFits, pattern_mends}
use Rattle.sl_parse_faults.proofs.PartLists.{Anywhere, Whole, mended_as, whole_many, whole_optional}
use Rattle.sl_parse_faults.proofs.Rules.{then_mark, then_keyword, then_part, done, whole_of, takes_wider, wrap_mends, whole_listed}
use Rattle.sl_parse_faults.proofs.Wider.{wider_each, wider_expression, wider_pattern, wider_dest, wider_target, wider_statement, wider_statements, wider_action, wider_actions}
use Rattle.sl_parse_faults.specs.Forms.{other}

-- ---- parts that have no limit

module _ (extra : ℕ) where
  pub whole_name : Whole extra spell_name Free name_here
  whole_name = part_name extra (λ r. Unit {0})

  pub whole_integer : Whole extra spell_number Free integer_here
  whole_integer = part_integer extra (λ r. Unit {0})

  pub whole_size : Whole extra spell_number IsWidth size_here
  whole_size = part_size extra (λ r. Unit {0})

  pub whole_size_option : Whole extra (spell_option spell_size) (IfWritten IsWidth) size_option
  whole_size_option = part_size_option extra (λ r. Unit {0})

  pub nothing : AllKeep extra (λ rest. rest)
  nothing = nothing_keeps extra

  operand_by_mends : (o : Option Sym) (i : Input) (e : Fault) → operand_by o i ≡ Err e → Mended extra spell_operand Free i.rest e
  operand_by_mends (Some (number n)) i e h = absurd (cc)
  operand_by_mends (Some (word (plain w))) i e h = absurd (cc)
  operand_by_mends o i e h = mended_refused extra spell_operand Free (by_integer 0) tt i e h

  operand_mends : (i : Input) (e : Fault) → operand i ≡ Err e → Mended extra spell_operand Free i.rest e
  unfolding operand
  operand_mends i e h = operand_by_mends (first i.rest) i e h

  pub whole_operand : Whole extra spell_operand Free operand
  whole_operand = whole_of operand_rule.sound (λ x form n. keeps_operand (Goes extra form n) (one_more extra form n) x) (by_integer 0) tt operand_mends

  space_closes : Closes extra spell_space Free (λ rest. rest) Anywhere space_name
  unfolding space_name
  space_closes = then_mark m.OpenBracket nothing (λ keeps. then_part whole_name keeps (λ w good keep. then_mark m.CloseBracket keep (λ still. done w tt (λ rest. refl))))

  whole_space : Whole extra spell_space Free space_name
  whole_space = whole_of space_rule.sound (λ w form n. keeps_space (Goes extra form n) (one_more extra form n) w) other tt (λ i e h. space_closes.mend i tt e h)

  star_closes : Closes extra spell_star IsStarForm (λ rest. rest) Anywhere star_form
  unfolding star_form
  star_closes = then_mark m.Star nothing (λ keeps. then_part (whole_optional extra spell_space Free space_name whole_space (is_mark m.OpenBracket)) keeps
      (λ space good keep. then_part whole_size_option keep (λ size fits still. done (record { space = space; size = size }) fits (λ rest. refl))))

  pub whole_star : Whole extra spell_star IsStarForm star_form
  whole_star = whole_of star_rule.sound (λ form c n. keeps_star (Goes extra c n) (one_more extra c n) form) (record { space = None; size = None }) tt (λ i e h. star_closes.mend i tt e h)

  label_closes : Closes extra spell_label Free (λ rest. rest) Anywhere label_here
  unfolding label_here
  label_closes = then_mark m.Less nothing (λ keeps. then_part whole_name keeps (λ w good keep. then_mark m.Greater keep (λ still. done w tt (λ rest. refl))))

  pub whole_label : Whole extra spell_label Free label_here
  whole_label = whole_of label_rule.sound (λ w form n. keeps_label (Goes extra form n) (one_more extra form n) w) other tt (λ i e h. label_closes.mend i tt e h)

  direct_by_mends : (o : Option Sym) (i : Input) (e : Fault) → direct_by o i ≡ Err e → Mended extra spell_direct Free i.rest e
  direct_by_mends (Some (mark m.Less)) i e h = wrap_mends whole_label to_label (λ w good. tt) (λ w rest. refl) i e h
  direct_by_mends o i e h = wrap_mends whole_operand to_operand (λ x good. tt) (λ x rest. refl) i e h

  direct_mends : (i : Input) (e : Fault) → direct_here i ≡ Err e → Mended extra spell_direct Free i.rest e
  unfolding direct_here
  direct_mends i e h = direct_by_mends (first i.rest) i e h

  pub whole_direct : Whole extra spell_direct Free direct_here
  whole_direct = whole_of direct_rule.sound (λ x form n. keeps_direct (Goes extra form n) (one_more extra form n) x) (to_operand (by_integer 0)) tt direct_mends

  exports_star_closes : Closes extra spell_exported IsExported (λ rest. rest) Anywhere (star_form >>= (λ form. operand >>= (λ pointer. pure (exports_star form pointer))))
  exports_star_closes = then_part whole_star nothing (λ form good keep. then_part whole_operand keep (λ x fine still. done (exports_star form x) good (λ rest. refl)))

  exported_by_mends : (o : Option Sym) (i : Input) (e : Fault) → exported_by o i ≡ Err e → Mended extra spell_exported IsExported i.rest e
  exported_by_mends (Some (mark m.Star)) i e h = exports_star_closes.mend i tt e h
  exported_by_mends o i e h = wrap_mends whole_name exports (λ w good. tt) (λ w rest. refl) i e h

  exported_mends : (i : Input) (e : Fault) → exported i ≡ Err e → Mended extra spell_exported IsExported i.rest e
  unfolding exported
  exported_mends i e h = exported_by_mends (first i.rest) i e h

  pub whole_exported : Whole extra spell_exported IsExported exported
  whole_exported = whole_of exported_rule.sound (λ x form n. keeps_exported (Goes extra form n) (one_more extra form n) x) (exports other) tt exported_mends

-- ---- outermost expressions and patterns

module _ (extra most : ℕ) where
  abbrev Most : ℕ
  Most = extra + most

  room_err : {A : Type 0} (r : ℕ) (o : Outcome A) (e : Fault) → with_room r o ≡ Err e → o ≡ Err e
  room_err r (Ok x) e h = absurd (cc)
  room_err r (Err d) e h = ap (λ y. Err y) (same_error d e h)

  whole_mends : (kind : Kind) (i : Input) (e : Fault) → whole most kind i ≡ Err e → Mended extra spell_expression (IsExpression Most kind) i.rest e
  unfolding whole
  whole_mends kind i e h =
      mended_as extra spell_expression (Fits extra most kind loosest 0) spell_expression (IsExpression Most kind) (λ a. a) i.rest e e refl (λ a fits. (let few = fits.few in (fits.binds, omega (arith, few)))) (λ a rest. refl)
      (expression_mends extra kind (suc most) most loosest 0 (omega arith) (at i.rest most) (omega arith) e (room_err i.room (expression kind (suc most) loosest (at i.rest most)) e h))

  whole_takes : (kind : Kind) (i j : Input) (a : Expression) → whole most kind i ≡ Ok (a, j) → Takes spell_expression (IsExpression Most kind) i a j
  whole_takes kind i j a h =
      takes_wider spell_expression (IsExpression most kind) (IsExpression Most kind) i j a (λ good. wider_expression most Most kind a (omega arith) good) ((whole_rule most kind).sound i j a h)

  pub whole_expression : (kind : Kind) → Whole extra spell_expression (IsExpression Most kind) (whole most kind)
  whole_expression kind = whole_of (whole_takes kind) (λ a form n. keeps_expression (Goes extra form n) (one_more extra form n) a) (integer 0) (tt, omega arith) (whole_mends kind)

  pattern_wholly_mends : (i : Input) (e : Fault) → whole_pattern most i ≡ Err e → Mended extra spell_pattern (IsPattern Most) i.rest e
  unfolding whole_pattern
  pattern_wholly_mends i e h =
      mended_as extra spell_pattern (PatternFits extra most pattern_loosest 0) spell_pattern (IsPattern Most) (λ a. a) i.rest e e refl (λ a fits. (let few = fits.few in (fits.binds, omega (arith, few)))) (λ a rest. refl)
      (pattern_mends extra most (suc most) most pattern_loosest 0 (omega arith) (omega arith) (at i.rest most) (omega arith) e (room_err i.room (pattern most (suc most) pattern_loosest (at i.rest most)) e h))

  pattern_takes : (i j : Input) (a : Pattern) → whole_pattern most i ≡ Ok (a, j) → Takes spell_pattern (IsPattern Most) i a j
  pattern_takes i j a h = takes_wider spell_pattern (IsPattern most) (IsPattern Most) i j a (λ good. wider_pattern most Most a (omega arith) good) ((pattern_rule most).sound i j a h)

  pub whole_pattern_part : Whole extra spell_pattern (IsPattern Most) (whole_pattern most)
  whole_pattern_part = whole_of pattern_takes (λ a form n. keeps_pattern (Goes extra form n) (one_more extra form n) a) (bare other) (tt, omega arith) pattern_wholly_mends

  -- ---- parts of statements

  value_closes : Closes extra spell_value (IsExpression Most in_section) (λ rest. rest) Anywhere (value_here most)
  unfolding value_here
  value_closes = then_mark m.Equals (nothing extra) (λ keeps. then_part (whole_expression in_section) keeps (λ a good keep. done a good (λ rest. refl)))

  value_takes : (i j : Input) (a : Expression) → value_here most i ≡ Ok (a, j) → Takes spell_value (IsExpression Most in_section) i a j
  value_takes i j a h =
      takes_wider spell_value (IsExpression most in_section) (IsExpression Most in_section) i j a (λ good. wider_expression most Most in_section a (omega arith) good) ((value_rule most).sound i j a h)

  whole_value : Whole extra spell_value (IsExpression Most in_section) (value_here most)
  whole_value = whole_of value_takes (λ a form n. keeps_value (Goes extra form n) (one_more extra form n) a) (integer 0) (tt, omega arith) (λ i e h. value_closes.mend i tt e h)

  computed_closes : Closes extra spell_computed (IsExpression Most in_section) (λ rest. rest) Anywhere (computed_here most)
  unfolding computed_here
  computed_closes = then_mark m.OpenBracket (nothing extra) (λ keeps. then_part (whole_expression in_section) keeps (λ a good keep. then_mark m.CloseBracket keep (λ still. done a good (λ rest. refl))))

  computed_takes : (i j : Input) (a : Expression) → computed_here most i ≡ Ok (a, j) → Takes spell_computed (IsExpression Most in_section) i a j
  computed_takes i j a h =
      takes_wider spell_computed (IsExpression most in_section) (IsExpression Most in_section) i j a (λ good. wider_expression most Most in_section a (omega arith) good) ((computed_rule most).sound i j a h)

  whole_computed : Whole extra spell_computed (IsExpression Most in_section) (computed_here most)
  whole_computed = whole_of computed_takes (λ a form n. keeps_computed (Goes extra form n) (one_more extra form n) a) (integer 0) (tt, omega arith) (λ i e h. computed_closes.mend i tt e h)

  dest_by_mends : (o : Option Sym) (i : Input) (e : Fault) → dest_by most o i ≡ Err e → Mended extra spell_dest (IsDest Most) i.rest e
  dest_by_mends (Some (mark m.OpenBracket)) i e h = wrap_mends whole_computed computed (λ a good. good) (λ a rest. refl) i e h
  dest_by_mends o i e h = wrap_mends (whole_direct extra) direct (λ x good. tt) (λ x rest. refl) i e h

  dest_mends : (i : Input) (e : Fault) → dest most i ≡ Err e → Mended extra spell_dest (IsDest Most) i.rest e
  unfolding dest
  dest_mends i e h = dest_by_mends (first i.rest) i e h

  whole_dest : Whole extra spell_dest (IsDest Most) (dest most)
  whole_dest = whole_of (λ i j x h. takes_wider spell_dest (IsDest most) (IsDest Most) i j x (λ good. wider_dest most Most x (omega arith) good) ((dest_rule most).sound i j x h))
      (λ x form n. keeps_dest (Goes extra form n) (one_more extra form n) x) (direct (to_operand (by_integer 0))) tt dest_mends

  target_by_mends : (o : Option Sym) (i : Input) (e : Fault) → target_by most o i ≡ Err e → Mended extra spell_target (IsTarget Most) i.rest e
  target_by_mends (Some (mark m.OpenBracket)) i e h = wrap_mends whole_computed calls_computed (λ a good. good) (λ a rest. refl) i e h
  target_by_mends o i e h = wrap_mends (whole_operand extra) calls (λ x good. tt) (λ x rest. refl) i e h

  target_mends : (i : Input) (e : Fault) → target most i ≡ Err e → Mended extra spell_target (IsTarget Most) i.rest e
  unfolding target
  target_mends i e h = target_by_mends (first i.rest) i e h

  whole_target : Whole extra spell_target (IsTarget Most) (target most)
  whole_target = whole_of (λ i j x h. takes_wider spell_target (IsTarget most) (IsTarget Most) i j x (λ good. wider_target most Most x (omega arith) good) ((target_rule most).sound i j x h))
      (λ x form n. keeps_target (Goes extra form n) (one_more extra form n) x) (calls (by_integer 0)) tt target_mends

  -- ---- statements

  abbrev StatementCloses : (List Sym → List Sym) → Reader Statement → Type 0
  StatementCloses front q = Closes extra spell_statement (IsStatement Most) front Anywhere q

  local_closes : StatementCloses (λ rest. rest) (local_here most)
  unfolding local_here
  local_closes = then_keyword k.Local (nothing extra) (λ keeps. then_part (whole_name extra) keeps (λ w good keep. then_part (whole_size_option extra) keep
      (λ size fits kept. then_part (whole_optional extra spell_value (IsExpression Most in_section) (value_here most) whole_value (is_mark m.Equals)) kept
      (λ value fine still. then_mark m.Semicolon still (λ ended. done (local w size value) (fits, fine) (λ rest. refl))))))

  goto_closes : StatementCloses (λ rest. rest) (goto_here most)
  unfolding goto_here
  goto_closes = then_keyword k.Goto (nothing extra) (λ keeps. then_part whole_dest keeps (λ to good keep. then_mark m.Semicolon keep (λ ended. done (goto to) good (λ rest. refl))))

  branch_closes : StatementCloses (λ rest. rest) (branch_here most)
  unfolding branch_here
  branch_closes = then_keyword k.If (nothing extra) (λ keeps. then_part (whole_expression in_section) keeps (λ a good keep. then_keyword k.Goto keep (λ kept. then_part (whole_direct extra) kept
      (λ to fine still. then_mark m.Semicolon still (λ ended. done (branch a to) good (λ rest. refl))))))

  call_closes : StatementCloses (λ rest. rest) (call_here most)
  unfolding call_here
  call_closes = then_keyword k.Call (nothing extra) (λ keeps. then_part whole_target keeps (λ to good keep. then_mark m.Semicolon keep (λ ended. done (call_to to) good (λ rest. refl))))

  return_closes : StatementCloses (λ rest. rest) (return_here most)
  unfolding return_here
  return_closes = then_keyword k.Return (nothing extra) (λ keeps. then_part whole_computed keeps (λ a good keep. then_mark m.Semicolon keep (λ ended. done (return a) good (λ rest. refl))))

  build_closes : StatementCloses (λ rest. rest) build_here
  unfolding build_here
  build_closes = then_keyword k.Build (nothing extra) (λ keeps. then_part (whole_name extra) keeps (λ w good keep. then_mark m.Semicolon keep (λ ended. done (build w) tt (λ rest. refl))))

  export_closes : StatementCloses (λ rest. rest) export_here
  unfolding export_here
  export_closes = then_keyword k.Export (nothing extra) (λ keeps. then_part (whole_exported extra) keeps (λ x good keep. then_mark m.Semicolon keep (λ ended. done (export x) good (λ rest. refl))))

  star_statement_closes : StatementCloses (λ rest. rest) (star_here most)
  unfolding star_here
  star_statement_closes = then_part (whole_star extra) (nothing extra) (λ form good keeps. then_part (whole_expression in_section) keeps (λ p fine keep. then_part whole_value keep
      (λ a fair still. then_mark m.Semicolon still (λ ended. done (assign (left_star form p) a) ((good, fine), fair) (λ rest. refl)))))

  -- behind a name that may begin a statement
  module _ (w : Name) (starts : IsFirst w) where
    declare_closes : StatementCloses (λ rest. name w ∷ rest) (declare_here most w)
    unfolding declare_here
    declare_closes = then_mark m.Colon (keeps_one extra (name w)) (λ keeps. then_part (whole_size extra) keeps (λ n wide keep. then_part whole_value keep
        (λ a good still. then_mark m.Semicolon still (λ ended. done (declare w n a) (starts, wide, good) (λ rest. refl)))))

    assign_closes : StatementCloses (λ rest. name w ∷ rest) (assign_here most w)
    unfolding assign_here
    assign_closes = then_part whole_value (keeps_one extra (name w)) (λ a good still. then_mark m.Semicolon still (λ ended. done (assign (left_name w) a) (starts, good) (λ rest. refl)))

    bits_closes : StatementCloses (λ rest. name w ∷ rest) (bits_here most w)
    unfolding bits_here
    bits_closes = then_mark m.OpenBracket (keeps_one extra (name w)) (λ a. then_part (whole_integer extra) a (λ l good b. then_mark m.Comma b (λ c. then_part (whole_integer extra) c
        (λ n fine d. then_mark m.CloseBracket d (λ g. then_part whole_value g (λ v fair h. then_mark m.Semicolon h (λ ended. done (assign (left_bits w l n) v) (starts, fair) (λ rest. refl))))))))

    invoke_closes : missing_function w ≡ None → StatementCloses (λ rest. name w ∷ rest) (invoke_here most w)
    unfolding invoke_here
    invoke_closes known = then_mark m.Open (keeps_one extra (name w)) (λ a. then_part (whole_listed extra spell_expression (IsExpression Most in_section) (whole most in_section) (whole_expression in_section)
        (λ i j given h. takes_wider (spell_separated spell_expression) (Each (IsExpression most in_section)) (Each (IsExpression Most in_section)) i j given
        (λ goods. wider_each (IsExpression most in_section) (IsExpression Most in_section) (λ x good. wider_expression most Most in_section x (omega arith) good) given goods) (arguments_ok most i j given h))) a
        (λ given goods b. then_mark m.Close b (λ c. then_mark m.Semicolon c (λ ended. done (invoke w given) (starts, known, goods) (λ rest. refl)))))

  -- ---- statements that are left out

  -- a call of another name, without arguments; and without a hint what may stand behind the name
  abbrev stands_for_call : ℕ → Name → Statement
  stands_for_call zero w = assign (left_name w) (integer 0)
  stands_for_call (suc n) w = invoke other []

  call_is_good : (n : ℕ) (w : Name) → IsFirst w → IsStatement Most (stands_for_call n w)
  unfolding missing_statement missing_function
  call_is_good zero w starts = (starts, (tt, omega arith))
  call_is_good (suc n) w starts = (refl, refl, tt)

  abbrev Behind : Input → List Sym
  Behind j = (next j).rest

  opens : (w : Name) (i j : Input) → i.rest ≡ name w ∷ j.rest → first j.rest ≡ Some (mark m.Open) → i.rest ≡ name w ∷ mark m.Open ∷ Behind j
  opens w i j same is = same ∙ ap (λ ys. name w ∷ ys) (first_is j.rest (mark m.Open) is)

  call_goes : (n : ℕ) (feature : Feature) (w : Name) (i j : Input) (rest : List Sym) → i.rest ≡ name w ∷ j.rest → first j.rest ≡ Some (mark m.Open) → missing_function w ≡ Some feature
      → Goes n (unsupported feature 1) (place n (fault (unsupported feature 1) (left j))) i.rest (spell_statement (stands_for_call n w) rest)
  call_goes zero feature w i j rest same is missing =
      subst (λ ys. Goes zero (unsupported feature 1) (left j) ys (spell_statement (assign (left_name w) (integer 0)) rest)) (sym same)
      (there (at_place refl (mark m.Equals ∷ number 0 ∷ mark m.Semicolon ∷ rest, refl) tt))
  call_goes (suc n) feature w i j rest same is missing =
      at_place (omega (arith, ap length same)) (mark m.Close ∷ mark m.Semicolon ∷ rest, refl) (w, Behind j, opens w i j same is, missing)

  -- another name that begins a statement
  abbrev stands_for_first : ℕ → Statement
  stands_for_first zero = label other
  stands_for_first (suc n) = assign (left_name other) (integer 0)

  first_is_good : (n : ℕ) → IsStatement Most (stands_for_first n)
  unfolding missing_statement
  first_is_good zero = tt
  first_is_good (suc n) = (refl, (tt, omega arith))

  -- the words that begin no statement
  data Missing (w : Name) : Feature → Type 0 where
    crossbuild : missing_statement w ≡ Some f.Crossbuild → Missing w f.Crossbuild
    delay_slot : missing_statement w ≡ Some f.DelaySlot → Missing w f.DelaySlot

  missing_by : (w : Name) (a b : Bool) (feature : Feature) → missing_statement w ≡ Some feature → cond a (Some f.Crossbuild) (cond b (Some f.DelaySlot) None) ≡ Some feature → Missing w feature
  missing_by w true b feature is h = let same : f.Crossbuild ≡ feature = cc in subst (Missing w) same (crossbuild (is ∙ sym h))
  missing_by w false true feature is h = let same : f.DelaySlot ≡ feature = cc in subst (Missing w) same (delay_slot (is ∙ sym h))
  missing_by w false false feature is h = absurd (cc)

  is_missing : (w : Name) (feature : Feature) → missing_statement w ≡ Some feature → Missing w feature
  unfolding missing_statement
  is_missing w feature is = missing_by w _ _ feature is is

  first_goes : (n : ℕ) (feature : Feature) (w : Name) (i : Input) (rest : List Sym) → first i.rest ≡ Some (name w) → Missing w feature
      → Goes n (unsupported feature 0) (place n (fault (unsupported feature 0) (left i))) i.rest (spell_statement (stands_for_first n) rest)
  first_goes zero _ w i rest is (crossbuild h) = at_place refl (spell_statement (label other) rest, refl) tt
  first_goes zero _ w i rest is (delay_slot h) = at_place refl (spell_statement (label other) rest, refl) tt
  first_goes (suc n) _ w i rest is (crossbuild h) = at_place (omega arith) (mark m.Equals ∷ number 0 ∷ mark m.Semicolon ∷ rest, refl) (w, is, h)
  first_goes (suc n) _ w i rest is (delay_slot h) = at_place (omega arith) (mark m.Equals ∷ number 0 ∷ mark m.Semicolon ∷ rest, refl) (w, is, h)

  -- ---- any statement

  abbrev MendedStatement : List Sym → Fault → Type 0
  MendedStatement xs e = Mended extra spell_statement (IsStatement Most) xs e

  invoke_by_mends : (w : Name) → IsFirst w → (i j : Input) → i.rest ≡ name w ∷ j.rest → first j.rest ≡ Some (mark m.Open) → (x : Option Feature) → missing_function w ≡ x → (e : Fault)
      → invoke_by most w x j ≡ Err e → MendedStatement i.rest e
  invoke_by_mends w starts i j same is None known e h =
      mended_at extra spell_statement (IsStatement Most) i.rest _ e same ((invoke_closes w starts known).mend j tt e h)
  invoke_by_mends w starts i j same is (Some feature) known e h =
      subst (λ y. MendedStatement i.rest y) (same_error (fault (unsupported feature 1) (left j)) e h)
      (record { tree = stands_for_call extra w; good = call_is_good extra w starts; goes = λ rest. call_goes extra feature w i j rest same is known })

  named_by_mends : (w : Name) → IsFirst w → (i j : Input) → i.rest ≡ name w ∷ j.rest → (o : Option Sym) → first j.rest ≡ o → (e : Fault) → named_by most w o j ≡ Err e → MendedStatement i.rest e
  named_by_mends w starts i j same (Some (mark m.Colon)) is e h = mended_at extra spell_statement (IsStatement Most) i.rest _ e same ((declare_closes w starts).mend j tt e h)
  named_by_mends w starts i j same (Some (mark m.OpenBracket)) is e h = mended_at extra spell_statement (IsStatement Most) i.rest _ e same ((bits_closes w starts).mend j tt e h)
  named_by_mends w starts i j same (Some (mark m.Open)) is e h = invoke_by_mends w starts i j same is (missing_function w) refl e h
  named_by_mends w starts i j same o is e h = mended_at extra spell_statement (IsStatement Most) i.rest _ e same ((assign_closes w starts).mend j tt e h)

  begun_by_mends : (w : Name) (x : Option Feature) → missing_statement w ≡ x → (i : Input) → first i.rest ≡ Some (name w) → (e : Fault) → begun_by most w x i ≡ Err e → MendedStatement i.rest e
  begun_by_mends w None known i is e h = named_by_mends w known i (next i) (took_next i (name w) is).tokens (first (next i).rest) refl e h
  begun_by_mends w (Some feature) known i is e h =
      subst (λ y. MendedStatement i.rest y) (same_error (fault (unsupported feature 0) (left i)) e h)
      (record { tree = stands_for_first extra; good = first_is_good extra; goes = λ rest. first_goes extra feature w i rest is (is_missing w feature known) })

  statement_by_mends : (o : Option Sym) (i : Input) → first i.rest ≡ o → (e : Fault) → statement_by most o i ≡ Err e → MendedStatement i.rest e
  statement_by_mends (Some (word (quoted k.Local))) i is e h = local_closes.mend i tt e h
  statement_by_mends (Some (word (quoted k.Goto))) i is e h = goto_closes.mend i tt e h
  statement_by_mends (Some (word (quoted k.If))) i is e h = branch_closes.mend i tt e h
  statement_by_mends (Some (word (quoted k.Call))) i is e h = call_closes.mend i tt e h
  statement_by_mends (Some (word (quoted k.Return))) i is e h = return_closes.mend i tt e h
  statement_by_mends (Some (word (quoted k.Build))) i is e h = build_closes.mend i tt e h
  statement_by_mends (Some (word (quoted k.Export))) i is e h = export_closes.mend i tt e h
  statement_by_mends (Some (word (plain w))) i is e h = begun_by_mends w (missing_statement w) refl i is e h
  statement_by_mends (Some (mark m.Star)) i is e h = star_statement_closes.mend i tt e h
  statement_by_mends (Some (mark m.Less)) i is e h = wrap_mends (whole_label extra) label (λ w good. tt) (λ w rest. refl) i e h
  statement_by_mends o i is e h = mended_refused extra spell_statement (IsStatement Most) (label other) tt i e h

  statement_mends : (i : Input) (e : Fault) → statement most i ≡ Err e → MendedStatement i.rest e
  unfolding statement
  statement_mends i e h = statement_by_mends (first i.rest) i refl e h

  whole_statement : Whole extra spell_statement (IsStatement Most) (statement most)
  whole_statement = whole_of (λ i j x h. takes_wider spell_statement (IsStatement most) (IsStatement Most) i j x (λ good. wider_statement most Most x (omega arith) good) ((statement_rule most).sound i j x h))
      (λ x form n. keeps_statement (Goes extra form n) (one_more extra form n) x) (label other) tt statement_mends

  body_closes : Closes extra spell_body (Each (IsStatement Most)) (λ rest. rest) Anywhere (body most)
  unfolding body
  body_closes = then_mark m.OpenBrace (nothing extra) (λ keeps. then_part (whole_many extra spell_statement (IsStatement Most) (statement most) whole_statement (until m.CloseBrace)) keeps
      (λ found goods keep. then_mark m.CloseBrace keep (λ ended. done found goods (λ rest. refl))))

  pub whole_body : Whole extra spell_body (Each (IsStatement Most)) (body most)
  whole_body = whole_of (λ i j x h. takes_wider spell_body (Each (IsStatement most)) (Each (IsStatement Most)) i j x (λ good. wider_statements most Most x (omega arith) good) ((body_rule most).sound i j x h))
      (λ x form n. keeps_body (Goes extra form n) (one_more extra form n) x) [] tt (λ i e h. body_closes.mend i tt e h)

  -- ---- actions

  set_closes : Closes extra spell_action (IsAction Most) (λ rest. rest) Anywhere (set_here most)
  unfolding set_here
  set_closes = then_part (whole_name extra) (nothing extra) (λ w good keeps. then_mark m.Equals keeps (λ keep. then_part (whole_expression in_action) keep
      (λ a fine still. then_mark m.Semicolon still (λ ended. done (set w a) fine (λ rest. refl)))))

  global_set_closes : Closes extra spell_action (IsAction Most) (λ rest. rest) Anywhere global_set_here
  unfolding global_set_here
  global_set_closes = then_keyword k.GlobalSet (nothing extra) (λ a. then_mark m.Open a (λ b. then_part (whole_operand extra) b (λ x good c. then_mark m.Comma c (λ d. then_part (whole_name extra) d
      (λ w fine g. then_mark m.Close g (λ h. then_mark m.Semicolon h (λ ended. done (global_set x w) tt (λ rest. refl))))))))

  action_by_mends : (o : Option Sym) (i : Input) (e : Fault) → action_by most o i ≡ Err e → Mended extra spell_action (IsAction Most) i.rest e
  action_by_mends (Some (word (quoted k.GlobalSet))) i e h = global_set_closes.mend i tt e h
  action_by_mends o i e h = set_closes.mend i tt e h

  action_mends : (i : Input) (e : Fault) → action most i ≡ Err e → Mended extra spell_action (IsAction Most) i.rest e
  unfolding action
  action_mends i e h = action_by_mends (first i.rest) i e h

  whole_action : Whole extra spell_action (IsAction Most) (action most)
  whole_action = whole_of (λ i j x h. takes_wider spell_action (IsAction most) (IsAction Most) i j x (λ good. wider_action most Most x (omega arith) good) ((action_rule most).sound i j x h))
      (λ x form n. keeps_action (Goes extra form n) (one_more extra form n) x) (global_set (by_integer 0) other) tt action_mends

  actions_close : Closes extra spell_actions (Each (IsAction Most)) (λ rest. rest) Anywhere (actions most)
  unfolding actions
  actions_close = then_mark m.OpenBracket (nothing extra) (λ keeps. then_part (whole_many extra spell_action (IsAction Most) (action most) whole_action (until m.CloseBracket)) keeps
      (λ found goods keep. then_mark m.CloseBracket keep (λ ended. done found goods (λ rest. refl))))

  pub whole_actions : Whole extra spell_actions (Each (IsAction Most)) (actions most)
  whole_actions = whole_of (λ i j x h. takes_wider spell_actions (Each (IsAction most)) (Each (IsAction Most)) i j x (λ good. wider_actions most Most x (omega arith) good) ((actions_rule most).sound i j x h))
      (λ x form n. keeps_actions (Goes extra form n) (one_more extra form n) x) [] tt (λ i e h. actions_close.mend i tt e h)
