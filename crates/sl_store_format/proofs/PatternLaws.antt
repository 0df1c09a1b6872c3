-- Patterns, each within its rank and its room, and actions.
use Rattle.std.proofs.Common.{◌≡◌, ℕ, zero, suc, ◌<◌, ◌≤◌, ◌+◌, ◌-◌, ◌&&◌, nat_le, Bool, true, false, List, [], ◌∷◌, ◌++◌, Ok, Err, refl, ap, sym, ◌∙◌, subst, arith, append_assoc}
use Rattle.sl_ast.specs.Operators.{in_action, in_constraint, pattern_rank, pattern_right_rank, pattern_loosest, loosest, takes_ellipsis}
use Rattle.sl_ast.specs.Trees.{Name, Expression, Operand, by_name, by_integer, Pattern, bare, constraint, group, ellipsis, joined, Action, set, global_set}
use Rattle.sl_ast.specs.Validity.{Binds, PatternBinds, pattern_weight, weight, heaviest, IsPattern, IsAction}
use Rattle.sl_ast.specs.declared.patterns.PatternOp.{PatternOp}
use Rattle.sl_ast.specs.declared.patterns.PatternOp.TheVariants as j
use Rattle.sl_ast.specs.declared.patterns.Relation.{Relation}
use Rattle.sl_ast.specs.declared.patterns.Relation.TheVariants as r
use Rattle.sl_store_format.specs.Expressions.{write_expression, Leaves, Fits, expression}
use Rattle.sl_store_format.specs.Forms.{pattern_forms, pattern_code}
use Rattle.sl_store_format.specs.Actions.{write_operand, OperandLeaves, operand_here, write_action, ActionLeaves, action}
use Rattle.sl_store_format.specs.PatternBytes.{joint_code, write_pattern, PatternLeaves}
use Rattle.sl_store_format.specs.Patterns.{pattern_fits, ellipsis_fits, constrained, grouped, simple_pattern, before_ellipsis, with_ellipsis, both_patterns, pattern_by, pattern, PatternFits, whole_pattern}
use Rattle.sl_store_format.specs.declared.forms.PatternForm.{PatternForm}
use Rattle.sl_store_format.specs.declared.forms.PatternForm.TheVariants as x
use Rattle.sl_store_bytes.specs.Exact.{Exact}
use Rattle.sl_store_bytes.specs.Lexemes.{write_bytes}
use Rattle.sl_store_bytes.specs.Numbers.{write_number, number, greatest}
use Rattle.sl_store_bytes.specs.Orders.{relation_code, relations}
use Rattle.sl_store_bytes.specs.Reader.{Reader, ◌>>=◌, pure}
use Rattle.sl_store_bytes.specs.Tables.{coded, coded_if}
use Rattle.sl_store_bytes.specs.Words.{name, IsName}
use Rattle.sl_store_bytes.proofs.Chains.{Behind, behind_done, behind_then, exact_from, exact_for, reads_then}
use Rattle.sl_store_bytes.proofs.LexemeLaws.{exact_name}
use Rattle.sl_store_bytes.proofs.OrderLaws.{relations_count}
use Rattle.sl_store_bytes.proofs.PartLaws.{either_behind, either_first, either_other}
use Rattle.sl_store_bytes.proofs.RuleLaws.{took_then, took1, took2, took3, rule1, rule2, rule3, exact_coded, exact_coded_if, AnyCode, HasPassed}
use Rattle.sl_store_format.proofs.ExpressionLaws.{exact_expression, exact_whole, rank_low}
use Rattle.sl_store_format.proofs.FormLaws.{pattern_counts}
use Rattle.sl_store_format.proofs.Goods.{and_left, and_right, both_true, le_true, true_le, exact_any, behind_for}

abbrev joint_form : PatternOp → PatternForm
joint_form j.And = x.And
joint_form j.Then = x.Then
joint_form j.Or = x.Or

abbrev pattern_form_of : Pattern → PatternForm
pattern_form_of (bare w) = x.Name
pattern_form_of (constraint w rel e) = x.Constraint
pattern_form_of (group p) = x.Paren
pattern_form_of (ellipsis p) = x.Ellipsis
pattern_form_of (joined op p q) = joint_form op

right_low : (op : PatternOp) → pattern_right_rank op ≤ 2
right_low j.And = omega arith
right_low op = omega arith

pattern_low : (p : Pattern) → pattern_rank p ≤ pattern_loosest
pattern_low (joined op p q) = omega (arith, right_low op)
pattern_low p = omega arith

-- the form is a name, a constraint or a pattern in parentheses, and has its room
abbrev Plain : ℕ → PatternForm → Type 0
Plain room x.Name = Unit {0}
Plain room x.Constraint = 1 ≤ room
Plain room x.Paren = 1 ≤ room
Plain room form = ⊥

-- a pattern of a form that has its room
pub record PatternMade (room : ℕ) (form : PatternForm) (p : Pattern) : Type 0 where
  pub binds : PatternBinds p
  pub leaves : PatternLeaves p
  pub few : pattern_weight p ≤ room
  pub form_is : pattern_form_of p ≡ form

plain_rank : (room n : ℕ) (p : Pattern) → Plain room (pattern_form_of p) → pattern_rank p ≤ n
plain_rank room n (joined j.And p q) plain = absurd plain
plain_rank room n (joined op p q) plain = absurd plain
plain_rank room n p plain = omega arith

made_fits : (room n : ℕ) (form : PatternForm) → Plain room form → (p : Pattern) → PatternMade room form p → PatternFits room n p
made_fits room n form plain p made = record {
  binds = made.binds;
  leaves = made.leaves;
  low = plain_rank room n p (subst (Plain room) (sym made.form_is) plain);
  few = made.few;
}

-- what `...` may follow
pub record IsBefore (room : ℕ) (p : Pattern) : Type 0 where
  pub binds : PatternBinds p
  pub leaves : PatternLeaves p
  pub few : pattern_weight p ≤ room
  pub passes : ellipsis_fits room (pattern_form_of p) ≡ true

ellipsis_plain : (room : ℕ) (form : PatternForm) → ellipsis_fits room form ≡ true → Plain room form
ellipsis_plain room x.Name on = tt
ellipsis_plain room x.Constraint on = true_le 1 room on
ellipsis_plain room x.Paren on = true_le 1 room on
ellipsis_plain room form on = absurd (cc)

takes_it : (room : ℕ) (p : Pattern) → ellipsis_fits room (pattern_form_of p) ≡ true → takes_ellipsis p ≡ true
takes_it room (bare w) on = refl
takes_it room (constraint w rel e) on = refl
takes_it room (group p) on = refl
takes_it room (ellipsis p) on = absurd (cc)
takes_it room (joined j.And p q) on = absurd (cc)
takes_it room (joined op p q) on = absurd (cc)

it_takes : (room : ℕ) (p : Pattern) → takes_ellipsis p ≡ true → pattern_weight p ≤ room → ellipsis_fits room (pattern_form_of p) ≡ true
it_takes room (bare w) on few = refl
it_takes room (constraint w rel e) on few = le_true 1 room (omega arith)
it_takes room (group p) on few = le_true 1 room (omega arith)
it_takes room p on few = absurd (cc)

exact_relations : Exact (λ rel. relation_code rel ∷ []) AnyCode (coded relations)
exact_relations = exact_coded relations_count r.Equal

module _ (depth : ℕ) (exact : (room n : ℕ) → room < depth → Exact write_pattern (PatternFits room n) (pattern depth room n)) (room : ℕ) (deep : room < suc depth) where
  abbrev inner : ℕ → ℕ → Reader Pattern
  inner = pattern depth

  exact_value : 1 ≤ room → Exact write_expression (Fits in_constraint (room - 1) loosest) (expression in_constraint depth (room - 1) loosest)
  exact_value some = exact_expression in_constraint depth (room - 1) loosest (omega arith)

  name_behind : Behind write_pattern (PatternMade room x.Name) (0 ∷ []) (simple_pattern depth inner room x.Name)
  name_behind = rule1 exact_name bare write_pattern (PatternMade room x.Name) (0 ∷ []) (λ w good. record { binds = tt; leaves = good; few = omega arith; form_is = refl }) (λ w. refl)

  constraint_behind : 1 ≤ room → Behind write_pattern (PatternMade room x.Constraint) (1 ∷ []) (constrained depth inner room)
  unfolding constrained
  constraint_behind some = rule3 exact_name exact_relations (exact_value some) constraint write_pattern (PatternMade room x.Constraint) (1 ∷ [])
      (λ w rel e good any fit. (let few = fit.few in record { binds = fit.binds; leaves = (good, fit.leaves); few = omega arith; form_is = refl })) (λ w rel e. refl)

  group_behind : 1 ≤ room → Behind write_pattern (PatternMade room x.Paren) (2 ∷ []) (grouped depth inner room)
  unfolding grouped
  group_behind some = rule1 (exact (room - 1) pattern_loosest (omega arith)) group write_pattern (PatternMade room x.Paren) (2 ∷ [])
      (λ p fit. (let few = fit.few in record { binds = fit.binds; leaves = fit.leaves; few = omega arith; form_is = refl })) (λ p. refl)

  plain_behind : (form : PatternForm) → Plain room form → Behind write_pattern (PatternMade room form) (pattern_code form ∷ []) (simple_pattern depth inner room form)
  plain_behind x.Name plain = name_behind
  plain_behind x.Constraint plain = constraint_behind plain
  plain_behind x.Paren plain = group_behind plain
  plain_behind form plain = absurd plain

  name_complete : (w rest : List ℕ) → IsName w → simple_pattern depth inner room x.Name (write_bytes w ++ rest) ≡ Ok (bare w, rest)
  name_complete w rest good = took1 exact_name bare w rest good

  constraint_complete : (w : List ℕ) (rel : Relation) (e : Expression) (rest : List ℕ) → IsName w → Leaves e → Binds in_constraint e → 1 + weight e ≤ room
      → constrained depth inner room ((write_bytes w ++ (relation_code rel ∷ write_expression e)) ++ rest) ≡ Ok (constraint w rel e, rest)
  unfolding constrained
  constraint_complete w rel e rest good leaves binds few = took3 exact_name exact_relations (exact_value (omega arith)) constraint w rel e rest good tt
      (record { binds = binds; leaves = leaves; low = rank_low e; few = omega arith })

  group_complete : (p : Pattern) (rest : List ℕ) → PatternBinds p → PatternLeaves p → 1 + pattern_weight p ≤ room → grouped depth inner room (write_pattern p ++ rest) ≡ Ok (group p, rest)
  unfolding grouped
  group_complete p rest binds leaves few = took1 (exact (room - 1) pattern_loosest (omega arith)) group p rest (record { binds = binds; leaves = leaves; low = pattern_low p; few = omega arith })

  -- ---- what `...` follows

  forms : Exact (λ form. pattern_code form ∷ []) (HasPassed (ellipsis_fits room)) (coded_if (ellipsis_fits room) pattern_forms)
  forms = exact_coded_if pattern_counts (ellipsis_fits room) x.Name refl

  abbrev follow : PatternForm → Reader Pattern
  follow form = simple_pattern depth inner room form

  made_before : (form : PatternForm) → ellipsis_fits room form ≡ true → (p : Pattern) → PatternMade room form p → IsBefore room p
  made_before form passes p made = record { binds = made.binds; leaves = made.leaves; few = made.few; passes = ap (ellipsis_fits room) made.form_is ∙ passes }

  before_behind : Behind write_pattern (IsBefore room) [] (before_ellipsis depth inner room)
  unfolding before_ellipsis
  before_behind = behind_then _ _ [] forms _ (λ form passes. behind_for (plain_behind form (ellipsis_plain room form passes)) (made_before form passes))

  begun : (form : PatternForm) (ys : List ℕ) → ellipsis_fits room form ≡ true → before_ellipsis depth inner room (pattern_code form ∷ ys) ≡ simple_pattern depth inner room form ys
  unfolding before_ellipsis
  begun form ys passes = reads_then forms follow form passes ys

  before_complete : (p : Pattern) (rest : List ℕ) → IsBefore room p → before_ellipsis depth inner room (write_pattern p ++ rest) ≡ Ok (p, rest)
  before_complete (bare w) rest is = begun x.Name (write_bytes w ++ rest) is.passes ∙ name_complete w rest is.leaves
  before_complete (constraint w rel e) rest is =
      begun x.Constraint ((write_bytes w ++ (relation_code rel ∷ write_expression e)) ++ rest) is.passes ∙ constraint_complete w rel e rest is.leaves.0 is.leaves.1 is.binds is.few
  before_complete (group p) rest is = begun x.Paren (write_pattern p ++ rest) is.passes ∙ group_complete p rest is.binds is.leaves is.few
  before_complete (ellipsis p) rest is = absurd (ellipsis_plain room x.Ellipsis is.passes)
  before_complete (joined j.And p q) rest is = absurd (ellipsis_plain room x.And is.passes)
  before_complete (joined j.Then p q) rest is = absurd (ellipsis_plain room x.Then is.passes)
  before_complete (joined j.Or p q) rest is = absurd (ellipsis_plain room x.Or is.passes)

  exact_before : Exact write_pattern (IsBefore room) (before_ellipsis depth inner room)
  exact_before = exact_from before_behind before_complete

module _ (depth : ℕ) (exact : (room n : ℕ) → room < depth → Exact write_pattern (PatternFits room n) (pattern depth room n)) (room n : ℕ) (deep : room < suc depth) where
  abbrev nested : ℕ → ℕ → Reader Pattern
  nested = pattern depth

  abbrev Whole : Pattern → Type 0
  Whole = PatternFits room n

  exact_less : Exact write_pattern (IsBefore (room - 1)) (before_ellipsis depth nested (room - 1))
  exact_less = exact_before depth exact (room - 1) (omega arith)

  ellipsis_behind : 1 ≤ room → Behind write_pattern Whole (3 ∷ []) (with_ellipsis depth nested room)
  unfolding with_ellipsis
  ellipsis_behind some = rule1 exact_less ellipsis write_pattern Whole (3 ∷ [])
      (λ p is. (let few = is.few in record { binds = (takes_it (room - 1) p is.passes, is.binds); leaves = is.leaves; low = omega arith; few = omega arith })) (λ p. refl)

  both_behind : (op : PatternOp) → 1 ≤ room → suc (pattern_right_rank op) ≤ n → Behind write_pattern Whole (joint_code op ∷ []) (both_patterns depth nested op room)
  unfolding both_patterns
  both_behind op some tight = behind_then _ _ (joint_code op ∷ []) (exact (room - 1) (suc (pattern_right_rank op)) (omega arith)) _ (λ p fit.
      (let left_few = fit.few in
      behind_then _ _ _ (exact (room - 1 - pattern_weight p) (pattern_right_rank op) (omega arith)) _ (λ q fits_right.
      (let right_few = fits_right.few in
      behind_done _ _ _ (joined op p q)
      (record { binds = (fit.low, fits_right.low, fit.binds, fits_right.binds); leaves = (fit.leaves, fits_right.leaves); low = tight; few = omega arith }) refl))))

  plain_form : (form : PatternForm) → Plain room form → Behind write_pattern Whole (pattern_code form ∷ []) (simple_pattern depth nested room form)
  plain_form form plain = behind_for (plain_behind depth exact room deep form plain) (made_fits room n form plain)

  form_behind : (form : PatternForm) → pattern_fits room n form ≡ true → Behind write_pattern Whole (pattern_code form ∷ []) (pattern_by depth nested room form)
  form_behind x.Name on = plain_form x.Name tt
  form_behind x.Constraint on = plain_form x.Constraint (true_le 1 room on)
  form_behind x.Paren on = plain_form x.Paren (true_le 1 room on)
  form_behind x.Ellipsis on = ellipsis_behind (true_le 1 room on)
  form_behind x.And on = both_behind j.And (true_le 1 room (and_left (nat_le 1 room) (nat_le 1 n) on)) (true_le 1 n (and_right (nat_le 1 room) (nat_le 1 n) on))
  form_behind x.Then on = both_behind j.Then (true_le 1 room (and_left (nat_le 1 room) (nat_le 2 n) on)) (true_le 2 n (and_right (nat_le 1 room) (nat_le 2 n) on))
  form_behind x.Or on = both_behind j.Or (true_le 1 room (and_left (nat_le 1 room) (nat_le 3 n) on)) (true_le 3 n (and_right (nat_le 1 room) (nat_le 3 n) on))

  all_forms : Exact (λ form. pattern_code form ∷ []) (HasPassed (pattern_fits room n)) (coded_if (pattern_fits room n) pattern_forms)
  all_forms = exact_coded_if pattern_counts (pattern_fits room n) x.Name refl

  step_behind : Behind write_pattern Whole [] (pattern (suc depth) room n)
  unfolding pattern
  step_behind = behind_then _ _ [] all_forms _ form_behind

  abbrev go : PatternForm → Reader Pattern
  go form = pattern_by depth nested room form

  begin : (form : PatternForm) (ys : List ℕ) → pattern_fits room n form ≡ true → pattern (suc depth) room n (pattern_code form ∷ ys) ≡ pattern_by depth nested room form ys
  unfolding pattern
  begin form ys on = reads_then all_forms go form on ys

  ellipsis_complete : (p : Pattern) (rest : List ℕ) → Whole (ellipsis p) → with_ellipsis depth nested room (write_pattern p ++ rest) ≡ Ok (ellipsis p, rest)
  unfolding with_ellipsis
  ellipsis_complete p rest fit =
      let few = fit.few in
      let light : pattern_weight p ≤ room - 1 = omega arith in
      took1 exact_less ellipsis p rest (record { binds = fit.binds.1; leaves = fit.leaves; few = light; passes = it_takes (room - 1) p fit.binds.0 light })

  both_complete : (op : PatternOp) (p q : Pattern) (rest : List ℕ) → Whole (joined op p q) → both_patterns depth nested op room ((write_pattern p ++ write_pattern q) ++ rest) ≡ Ok (joined op p q, rest)
  unfolding both_patterns
  both_complete op p q rest fit =
      let few = fit.few in
      took_then (exact (room - 1) (suc (pattern_right_rank op)) (omega arith)) (λ c. nested (room - 1 - pattern_weight c) (pattern_right_rank op) >>= (λ d. pure (joined op c d))) p (write_pattern q) rest (joined op p q)
      (record { binds = fit.binds.2; leaves = fit.leaves.0; low = fit.binds.0; few = omega arith })
      (took1 (exact (room - 1 - pattern_weight p) (pattern_right_rank op) (omega arith)) (joined op p) q rest (record { binds = fit.binds.3; leaves = fit.leaves.1; low = fit.binds.1; few = omega arith }))

  step_complete : (p : Pattern) (rest : List ℕ) → Whole p → pattern (suc depth) room n (write_pattern p ++ rest) ≡ Ok (p, rest)
  step_complete (bare w) rest fit = begin x.Name (write_bytes w ++ rest) refl ∙ name_complete depth exact room deep w rest fit.leaves
  step_complete (constraint w rel e) rest fit =
      let few = fit.few in
      begin x.Constraint ((write_bytes w ++ (relation_code rel ∷ write_expression e)) ++ rest) (le_true 1 room (omega arith))
      ∙ constraint_complete depth exact room deep w rel e rest fit.leaves.0 fit.leaves.1 fit.binds few
  step_complete (group p) rest fit =
      let few = fit.few in begin x.Paren (write_pattern p ++ rest) (le_true 1 room (omega arith)) ∙ group_complete depth exact room deep p rest fit.binds fit.leaves few
  step_complete (ellipsis p) rest fit = let few = fit.few in begin x.Ellipsis (write_pattern p ++ rest) (le_true 1 room (omega arith)) ∙ ellipsis_complete p rest fit
  step_complete (joined j.And p q) rest fit =
      let few = fit.few in let low = fit.low in
      begin x.And ((write_pattern p ++ write_pattern q) ++ rest) (both_true (nat_le 1 room) (nat_le 1 n) (le_true 1 room (omega arith)) (le_true 1 n low)) ∙ both_complete j.And p q rest fit
  step_complete (joined j.Then p q) rest fit =
      let few = fit.few in let low = fit.low in
      begin x.Then ((write_pattern p ++ write_pattern q) ++ rest) (both_true (nat_le 1 room) (nat_le 2 n) (le_true 1 room (omega arith)) (le_true 2 n low)) ∙ both_complete j.Then p q rest fit
  step_complete (joined j.Or p q) rest fit =
      let few = fit.few in let low = fit.low in
      begin x.Or ((write_pattern p ++ write_pattern q) ++ rest) (both_true (nat_le 1 room) (nat_le 3 n) (le_true 1 room (omega arith)) (le_true 3 n low)) ∙ both_complete j.Or p q rest fit

  exact_step : Exact write_pattern Whole (pattern (suc depth) room n)
  exact_step = exact_from step_behind step_complete

pub exact_pattern : (depth room n : ℕ) → room < depth → Exact write_pattern (PatternFits room n) (pattern depth room n)
exact_pattern zero room n deep = absurd (omega arith)
exact_pattern (suc depth) room n deep = exact_step depth (exact_pattern depth) room n deep

pub exact_whole_pattern : Exact write_pattern (λ p. IsPattern heaviest p × PatternLeaves p) whole_pattern
exact_whole_pattern = exact_for (exact_pattern (suc heaviest) heaviest pattern_loosest (omega arith))
    (λ p fit. ((fit.binds, fit.few), fit.leaves)) (λ p good. record { binds = good.0.0; leaves = good.1; low = pattern_low p; few = good.0.1 })

-- ---- actions

operand_complete : (o : Operand) (rest : List ℕ) → OperandLeaves o → operand_here (write_operand o ++ rest) ≡ Ok (o, rest)
unfolding operand_here
operand_complete (by_name w) rest good = either_first _ _ (write_bytes w ++ rest) ∙ took1 exact_name by_name w rest good
operand_complete (by_integer n) rest good = either_other _ _ (write_number n ++ rest) ∙ took1 exact_any by_integer n rest good

operand_behind : Behind write_operand OperandLeaves [] operand_here
unfolding operand_here
operand_behind = either_behind _ _ write_operand OperandLeaves (rule1 exact_name by_name write_operand OperandLeaves (0 ∷ []) (λ w good. good) (λ w. refl))
    (rule1 exact_any by_integer write_operand OperandLeaves (1 ∷ []) (λ n good. good) (λ n. refl))

pub exact_operand_here : Exact write_operand OperandLeaves operand_here
exact_operand_here = exact_from operand_behind operand_complete

abbrev pub GoodAction : Action → Type 0
GoodAction a = IsAction heaviest a × ActionLeaves a

action_complete : (a : Action) (rest : List ℕ) → GoodAction a → action (write_action a ++ rest) ≡ Ok (a, rest)
unfolding action
action_complete (set w e) rest good = either_first _ _ ((write_bytes w ++ write_expression e) ++ rest) ∙ took2 exact_name (exact_whole in_action) set w e rest good.1.0 (good.0, good.1.1)
action_complete (global_set at w) rest good = either_other _ _ ((write_operand at ++ write_bytes w) ++ rest) ∙ took2 exact_operand_here exact_name global_set at w rest good.1.0 good.1.1

action_behind : Behind write_action GoodAction [] action
unfolding action
action_behind = either_behind _ _ write_action GoodAction
    (rule2 exact_name (exact_whole in_action) set write_action GoodAction (0 ∷ []) (λ w e good fit. (fit.0, (good, fit.1))) (λ w e. refl))
    (rule2 exact_operand_here exact_name global_set write_action GoodAction (1 ∷ []) (λ at w good named. (tt, (good, named))) (λ at w. refl))

pub exact_action : Exact write_action GoodAction action
exact_action = exact_from action_behind action_complete
