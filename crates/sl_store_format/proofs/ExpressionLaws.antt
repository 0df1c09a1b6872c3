-- Expressions, each within its rank and its room.
use Rattle.std.proofs.Common.{◌≡◌, ◌≢◌, ℕ, zero, suc, ◌<◌, ◌≤◌, ◌+◌, ◌-◌, ◌==◌, ◌&&◌, ◌||◌, nat_le, Bool, true, false, if◌then◌else◌, List, [], ◌∷◌, ◌++◌, length, Option, None, Some, Ok, Err, refl, ap, sym, ◌∙◌, subst, arith, append_assoc, append-nil}
use Rattle.sl_ast.specs.Operators.{Kind, in_section, in_action, in_constraint, is_section, has_names, has_prefix, has_operator, takes_size, takes_drop, takes_bits, rank, right_rank, left_rank, loosest, missing_function}
use Rattle.sl_ast.specs.Trees.{Name, Expression, Expressions, integer, named, paren, call, sized, dropped, bits, prefix, star, binary, no_more, with_more}
use Rattle.sl_ast.specs.Validity.{Binds, AllBind, IsSome, IsWidth, IsExpression, IfWritten, heaviest, space_weight, weight, weights}
use Rattle.sl_ast.specs.Views.{arguments}
use Rattle.sl_ast.specs.declared.expressions.BinaryOp.{BinaryOp}
use Rattle.sl_ast.specs.declared.expressions.BinaryOp.TheVariants as o
use Rattle.sl_ast.specs.declared.expressions.PrefixOp.{PrefixOp}
use Rattle.sl_ast.specs.declared.expressions.PrefixOp.TheVariants as p
use Rattle.sl_store_format.specs.Expressions.{count, write_expression, write_arguments, Leaves, AllLeaves, fits, size_fits, drop_fits, bits_fit, operator_fits, space_fits, room_after, space_here, width, bracketed, given, called, simple, operand, sized_here, dropped_here, bits_here, prefixed, starred, operands, joined_here, form_by, expression, Fits, whole_expression}
use Rattle.sl_store_format.specs.Forms.{expression_code}
use Rattle.sl_store_format.specs.StatementForms.{expression_forms}
use Rattle.sl_store_format.specs.declared.forms.ExpressionForm.{ExpressionForm}
use Rattle.sl_store_format.specs.declared.forms.ExpressionForm.TheVariants as x
use Rattle.sl_store_bytes.specs.Exact.{Exact}
use Rattle.sl_store_bytes.specs.Lexemes.{write_bytes}
use Rattle.sl_store_bytes.specs.Lists.{write_all, write_list, write_option, option, listed, AreGood, IsListed}
use Rattle.sl_store_bytes.specs.Numbers.{write_number, number, greatest, IsWithin}
use Rattle.sl_store_bytes.specs.Orders.{prefix_code, prefixes, operator_code, operators}
use Rattle.sl_store_bytes.specs.Reader.{Reader, ◌>>=◌, pure, byte}
use Rattle.sl_store_bytes.specs.Tables.{coded_if}
use Rattle.sl_store_bytes.specs.Words.{name, called_name, IsName}
use Rattle.sl_store_bytes.proofs.Chains.{Behind, behind_done, behind_then, behind_if, behind_last, exact_from, exact_byte, exact_for, alone, reads_then}
use Rattle.sl_store_bytes.proofs.LexemeLaws.{exact_name, exact_called_name}
use Rattle.sl_store_bytes.proofs.OrderLaws.{prefixes_count, operators_count}
use Rattle.sl_store_bytes.proofs.PartLaws.{exact_listed, exact_option}
use Rattle.sl_store_bytes.proofs.RuleLaws.{took_then, took1, took2, took3, rule1, rule2, rule3, exact_coded_if, HasPassed}
use Rattle.sl_store_format.proofs.FormLaws.{expression_counts}
use Rattle.sl_store_format.proofs.Goods.{and_left, and_right, both_true, le_true, true_le, exact_any, exact_width, behind_for}

-- ---- forms and ranks

abbrev pub form_of : Expression → ExpressionForm
form_of (integer n) = x.Integer
form_of (named w) = x.Name
form_of (paren e) = x.Paren
form_of (call w es) = x.Call
form_of (sized e n) = x.Sized
form_of (dropped e n) = x.Dropped
form_of (bits e l c) = x.Bits
form_of (prefix op e) = x.Prefix
form_of (star place n e) = x.Star
form_of (binary op l r) = x.Binary

loose : (op : BinaryOp) → right_rank op ≤ 9
loose o.Multiply = omega arith
loose op = omega arith

pub rank_low : (e : Expression) → rank e ≤ loosest
rank_low (binary op l r) = omega (arith, loose op)
rank_low e = omega arith

rank_none : (n : ℕ) (e : Expression) → (form_of e ≡ x.Binary → ⊥) → rank e ≤ n
rank_none n (binary op l r) other = absurd (other refl)
rank_none n e other = omega arith

section_names : (kind : Kind) → is_section kind ≡ true → has_names kind ≡ true
section_names in_section on = refl
section_names in_action on = absurd (cc)
section_names in_constraint on = absurd (cc)

any_negates : (kind : Kind) → has_prefix kind p.Negate ≡ true
any_negates kind = refl

-- an expression of a form that has its room
pub record Made (kind : Kind) (room : ℕ) (form : ExpressionForm) (e : Expression) : Type 0 where
  pub binds : Binds kind e
  pub leaves : Leaves e
  pub few : weight e ≤ room
  pub form_is : form_of e ≡ form

made_fits : (kind : Kind) (room n : ℕ) (form : ExpressionForm) → (form ≡ x.Binary → ⊥) → (e : Expression) → Made kind room form e → Fits kind room n e
made_fits kind room n form other e made = record {
  binds = made.binds;
  leaves = made.leaves;
  low = rank_none n e (λ same. other (sym made.form_is ∙ same));
  few = made.few;
}

-- ---- arguments

abbrev members : Expressions → List Expression
members no_more = []
members (with_more e es) = e ∷ members es

same_arguments : (es : Expressions) → arguments (members es) ≡ es
same_arguments no_more = refl
same_arguments (with_more e es) = ap (with_more e) (same_arguments es)

pub count_is : (es : List Expression) → count (arguments es) ≡ length es
count_is [] = refl
count_is (e ∷ es) = ap suc (count_is es)

pub arguments_are : (es : List Expression) → write_arguments (arguments es) ≡ write_all write_expression es
arguments_are [] = refl
arguments_are (e ∷ es) = ap (λ zs. write_expression e ++ zs) (arguments_are es)

some_are : (es : Expressions) → 1 ≤ count es → IsSome es
some_are no_more some = absurd (omega arith)
some_are (with_more e es) some = tt

are_some : (es : Expressions) → IsSome es → 1 ≤ count es
are_some no_more some = absurd some
are_some (with_more e es) some = omega arith

module _ (kind : Kind) where
  abbrev FitsLoosely : ℕ → ℕ → Expression → Type 0
  FitsLoosely left room e = Fits kind room loosest e

  pub record FitAll (room : ℕ) (es : List Expression) : Type 0 where
    pub binds : AllBind kind (arguments es)
    pub leaves : AllLeaves (arguments es)
    pub few : weights (arguments es) ≤ room

  fit_all : (n room : ℕ) (es : List Expression) → AreGood FitsLoosely room_after n room es → FitAll room es
  fit_all zero room [] good = record { binds = tt; leaves = tt; few = omega arith }
  fit_all zero room (e ∷ es) good = absurd good
  fit_all (suc n) room [] good = absurd good
  fit_all (suc n) room (e ∷ es) good =
      let first = good.0.few in
      let others = fit_all n (room - weight e) es good.1 in
      let more = others.few in
      record { binds = (good.0.binds, others.binds); leaves = (good.0.leaves, others.leaves); few = omega arith }

  all_fit : (room : ℕ) (es : Expressions) → AllBind kind es → AllLeaves es → weights es ≤ room → AreGood FitsLoosely room_after (count es) room (members es)
  all_fit room no_more binds leaves few = tt
  all_fit room (with_more e es) binds leaves few =
      (record { binds = binds.0; leaves = leaves.0; low = rank_low e; few = omega arith }, all_fit (room - weight e) es binds.1 leaves.1 (omega arith))

  all_listed : (room : ℕ) (es : Expressions) → AllBind kind es → AllLeaves es → 1 ≤ count es → count es ≤ greatest → weights es ≤ room → IsListed 1 greatest FitsLoosely room_after room (members es)
  all_listed room es binds leaves some many few =
      let same : count es ≡ length (members es) = sym (ap count (same_arguments es)) ∙ count_is (members es) in
      record { long = record { low = omega arith; high = omega arith }; good = subst (λ k. AreGood FitsLoosely room_after k room (members es)) same (all_fit room es binds leaves few) }

-- ---- a star form's space

abbrev pub SpaceFits : ℕ → Option Name → Type 0
SpaceFits room place = IfWritten IsName place × (space_weight place ≤ room)

no_space_fits : (room : ℕ) → space_fits room 0 ≡ true
no_space_fits room = refl

a_space_fits : (room : ℕ) → 1 ≤ room → space_fits room 1 ≡ true
a_space_fits room some = grind arith

space_byte : (room b : ℕ) → space_fits room b ≡ true → b ≢ 0 → (1 ≡ b) × (1 ≤ room)
space_byte room b on other = grind arith

exact_space_byte : (room : ℕ) → Exact alone (λ b. space_fits room b ≡ true) (byte (space_fits room))
exact_space_byte room = exact_byte (space_fits room) 0 (no_space_fits room)

abbrev space_by : ℕ → Reader (Option Name)
space_by b = if b == 0 then pure None else (name >>= (λ w. pure (Some w)))

space_behind : (room : ℕ) → Behind (write_option write_bytes) (SpaceFits room) [] (space_here room)
unfolding space_here
space_behind room = behind_then _ _ [] (exact_space_byte room) _ (λ b on.
    behind_if _ _ [] b 0 (λ same. behind_done _ _ _ None (tt, omega arith) refl)
    (λ more. (let one = space_byte room b on more in behind_last _ _ [] b 1 one.0
    (behind_then _ _ _ exact_name _ (λ w good. behind_done _ _ _ (Some w) (good, one.1) refl)))))

space_complete : (room : ℕ) (place : Option Name) (rest : List ℕ) → SpaceFits room place → space_here room (write_option write_bytes place ++ rest) ≡ Ok (place, rest)
unfolding space_here
space_complete room None rest good = reads_then (exact_space_byte room) space_by 0 (no_space_fits room) rest
space_complete room (Some w) rest good =
    reads_then (exact_space_byte room) space_by 1 (a_space_fits room good.1) (write_bytes w ++ rest) ∙ took1 exact_name (λ v. Some v) w rest good.0

pub exact_space : (room : ℕ) → Exact (write_option write_bytes) (SpaceFits room) (space_here room)
exact_space room = exact_from (space_behind room) (space_complete room)

-- ---- integers, names, expressions in parentheses and calls

-- the form is one of these and has its room
abbrev Ready : ℕ → ExpressionForm → Type 0
Ready room x.Integer = Unit {0}
Ready room x.Name = Unit {0}
Ready room x.Paren = 1 ≤ room
Ready room x.Call = 1 ≤ room
Ready room form = ⊥

-- one of these that a test lets through
pub record IsOperand (kind : Kind) (room : ℕ) (test : ExpressionForm → Bool) (e : Expression) : Type 0 where
  pub binds : Binds kind e
  pub leaves : Leaves e
  pub few : weight e ≤ room
  pub passes : test (form_of e) ≡ true

module _ (kind : Kind) (depth : ℕ) (exact : (room n : ℕ) → room < depth → Exact write_expression (Fits kind room n) (expression kind depth room n)) (room : ℕ) (deep : room < suc depth) where
  -- the reader of what is nested
  abbrev inner : ℕ → ℕ → Reader Expression
  inner = expression kind depth

  number_behind : Behind write_expression (Made kind room x.Integer) (0 ∷ []) (simple kind inner room x.Integer)
  number_behind = rule1 exact_any integer write_expression (Made kind room x.Integer) (0 ∷ []) (λ n low. record { binds = tt; leaves = low; few = omega arith; form_is = refl }) (λ n. refl)

  name_behind : has_names kind ≡ true → Behind write_expression (Made kind room x.Name) (1 ∷ []) (simple kind inner room x.Name)
  name_behind on = rule1 exact_name named write_expression (Made kind room x.Name) (1 ∷ []) (λ w good. record { binds = on; leaves = good; few = omega arith; form_is = refl }) (λ w. refl)

  paren_behind : 1 ≤ room → Behind write_expression (Made kind room x.Paren) (2 ∷ []) (bracketed kind inner room)
  unfolding bracketed
  paren_behind some = rule1 (exact (room - 1) loosest (omega arith)) paren write_expression (Made kind room x.Paren) (2 ∷ [])
      (λ e fit. (let few = fit.few in record { binds = fit.binds; leaves = fit.leaves; few = omega arith; form_is = refl })) (λ e. refl)

  exact_given : 1 ≤ room → Exact (write_list write_expression) (IsListed 1 greatest (FitsLoosely kind) room_after (room - 1)) (given kind inner (room - 1))
  unfolding given
  exact_given some = exact_listed 1 greatest (omega arith) (omega arith) (omega arith) (FitsLoosely kind) (λ left r. inner r loosest) room_after (λ left r. r < depth)
      (λ left r fine. exact r loosest fine) (λ left r e fine good. omega arith) (room - 1) (λ left within. omega arith)

  call_behind : is_section kind ≡ true → 1 ≤ room → Behind write_expression (Made kind room x.Call) (3 ∷ []) (called kind inner room)
  unfolding called
  call_behind on some = behind_then _ _ (3 ∷ []) exact_called_name _ (λ w good.
      behind_then _ _ ((3 ∷ []) ++ write_bytes w) (exact_given some) _ (λ es listed.
      (let all = fit_all kind (length es) (room - 1) es listed.good in
      let few = all.few in
      let long = count_is es in
      let some_args = listed.long.low in
      let high = listed.long.high in
      let same : write_list write_expression es ≡ write_number (count (arguments es)) ++ write_arguments (arguments es) = sym (ap (λ k. write_number k ++ write_arguments (arguments es)) long ∙ ap (λ zs. write_number (length es) ++ zs) (arguments_are es)) in
      behind_done _ _ _ (call w (arguments es))
      (record { binds = (on, good.0, some_are (arguments es) (omega arith), all.binds); leaves = (good.1, omega arith, all.leaves); few = omega arith; form_is = refl })
      (ap (λ zs. 3 ∷ (write_bytes w ++ zs)) same))))

  simple_behind : is_section kind ≡ true → (form : ExpressionForm) → Ready room form → Behind write_expression (Made kind room form) (expression_code form ∷ []) (simple kind inner room form)
  simple_behind on x.Integer ready = number_behind
  simple_behind on x.Name ready = name_behind (section_names kind on)
  simple_behind on x.Paren ready = paren_behind ready
  simple_behind on x.Call ready = call_behind on ready
  simple_behind on form ready = absurd ready

  -- ---- what they spell is read

  number_complete : (n : ℕ) (rest : List ℕ) → n ≤ greatest → simple kind inner room x.Integer (write_number n ++ rest) ≡ Ok (integer n, rest)
  number_complete n rest h = took1 exact_any integer n rest h

  name_complete : (w rest : List ℕ) → IsName w → simple kind inner room x.Name (write_bytes w ++ rest) ≡ Ok (named w, rest)
  name_complete w rest good = took1 exact_name named w rest good

  paren_complete : (e : Expression) (rest : List ℕ) → Binds kind e → Leaves e → 1 + weight e ≤ room → bracketed kind inner room (write_expression e ++ rest) ≡ Ok (paren e, rest)
  unfolding bracketed
  paren_complete e rest binds leaves few = took1 (exact (room - 1) loosest (omega arith)) paren e rest (record { binds = binds; leaves = leaves; low = rank_low e; few = omega arith })

  call_complete : (w : List ℕ) (es : Expressions) (rest : List ℕ) → Binds kind (call w es) → Leaves (call w es) → 1 + weights es ≤ room
      → called kind inner room ((write_bytes w ++ (write_number (count es) ++ write_arguments es)) ++ rest) ≡ Ok (call w es, rest)
  unfolding called
  call_complete w es rest binds leaves few =
      let list = members es in
      let many = leaves.1 in
      let some = are_some es binds.2 in
      let given_bytes : write_number (count es) ++ write_arguments es ≡ write_list write_expression list =
      ap (λ ds. write_number (count ds) ++ write_arguments ds) (sym (same_arguments es)) ∙ ap (λ k. write_number k ++ write_arguments (arguments list)) (count_is list)
      ∙ ap (λ zs. write_number (length list) ++ zs) (arguments_are list) in
      ap (called kind inner room) (append_assoc (write_bytes w) (write_number (count es) ++ write_arguments es) rest)
      ∙ reads_then exact_called_name (λ v. given kind inner (room - 1) >>= (λ ds. pure (call v (arguments ds)))) w (binds.1, leaves.0) ((write_number (count es) ++ write_arguments es) ++ rest)
      ∙ ap (λ zs. (given kind inner (room - 1) >>= (λ ds. pure (call w (arguments ds)))) (zs ++ rest)) given_bytes
      ∙ reads_then (exact_given (omega arith)) (λ ds. pure (call w (arguments ds))) list (all_listed kind (room - 1) es binds.3 leaves.2 some many (omega arith)) rest
      ∙ ap (λ ds. Ok (call w ds, rest)) (same_arguments es)

  -- ---- operands of sizes, of counts and of ranges

  module _ (on : is_section kind ≡ true) (test : ExpressionForm → Bool) (ready : (form : ExpressionForm) → test form ≡ true → Ready room form) (some : ExpressionForm) (there : test some ≡ true) where
    forms : Exact (λ form. expression_code form ∷ []) (HasPassed test) (coded_if test expression_forms)
    forms = exact_coded_if expression_counts test some there

    abbrev follow : ExpressionForm → Reader Expression
    follow form = simple kind inner room form

    made_operand : (form : ExpressionForm) → test form ≡ true → (e : Expression) → Made kind room form e → IsOperand kind room test e
    made_operand form passes e made = record { binds = made.binds; leaves = made.leaves; few = made.few; passes = ap test made.form_is ∙ passes }

    operand_behind : Behind write_expression (IsOperand kind room test) [] (operand kind inner test room)
    unfolding operand
    operand_behind = behind_then _ _ [] forms _ (λ form passes. behind_for (simple_behind on form (ready form passes)) (made_operand form passes))

    begun : (form : ExpressionForm) (ys : List ℕ) → test form ≡ true → operand kind inner test room (expression_code form ∷ ys) ≡ simple kind inner room form ys
    unfolding operand
    begun form ys passes = reads_then forms follow form passes ys

    operand_complete : (e : Expression) (rest : List ℕ) → IsOperand kind room test e → operand kind inner test room (write_expression e ++ rest) ≡ Ok (e, rest)
    operand_complete (integer n) rest is = begun x.Integer (write_number n ++ rest) is.passes ∙ number_complete n rest is.leaves
    operand_complete (named w) rest is = begun x.Name (write_bytes w ++ rest) is.passes ∙ name_complete w rest is.leaves
    operand_complete (paren e) rest is = begun x.Paren (write_expression e ++ rest) is.passes ∙ paren_complete e rest is.binds is.leaves is.few
    operand_complete (call w es) rest is =
        begun x.Call ((write_bytes w ++ (write_number (count es) ++ write_arguments es)) ++ rest) is.passes ∙ call_complete w es rest is.binds is.leaves is.few
    operand_complete (sized e n) rest is = absurd (ready x.Sized is.passes)
    operand_complete (dropped e n) rest is = absurd (ready x.Dropped is.passes)
    operand_complete (bits e l c) rest is = absurd (ready x.Bits is.passes)
    operand_complete (prefix op e) rest is = absurd (ready x.Prefix is.passes)
    operand_complete (star place n e) rest is = absurd (ready x.Star is.passes)
    operand_complete (binary op l r) rest is = absurd (ready x.Binary is.passes)

    exact_operand : Exact write_expression (IsOperand kind room test) (operand kind inner test room)
    exact_operand = exact_from operand_behind operand_complete

size_ready : (room : ℕ) (form : ExpressionForm) → size_fits room form ≡ true → Ready room form
size_ready room x.Integer on = tt
size_ready room x.Name on = tt
size_ready room x.Paren on = true_le 1 room on
size_ready room x.Call on = true_le 1 room on
size_ready room form on = absurd (cc)

drop_ready : (room : ℕ) (form : ExpressionForm) → drop_fits room form ≡ true → Ready room form
drop_ready room x.Paren on = true_le 1 room on
drop_ready room x.Call on = true_le 1 room on
drop_ready room form on = absurd (cc)

bits_ready : (room : ℕ) (form : ExpressionForm) → bits_fit room form ≡ true → Ready room form
bits_ready room x.Name on = tt
bits_ready room x.Paren on = true_le 1 room on
bits_ready room x.Call on = true_le 1 room on
bits_ready room form on = absurd (cc)

takes_it : (room : ℕ) (e : Expression) → size_fits room (form_of e) ≡ true → takes_size e ≡ true
takes_it room (integer n) on = refl
takes_it room (named w) on = refl
takes_it room (paren e) on = refl
takes_it room (call w es) on = refl
takes_it room e on = absurd (cc)

it_takes : (room : ℕ) (e : Expression) → takes_size e ≡ true → weight e ≤ room → size_fits room (form_of e) ≡ true
it_takes room (integer n) on few = refl
it_takes room (named w) on few = refl
it_takes room (paren e) on few = le_true 1 room (omega arith)
it_takes room (call w es) on few = le_true 1 room (omega arith)
it_takes room e on few = absurd (cc)

drops_it : (room : ℕ) (e : Expression) → drop_fits room (form_of e) ≡ true → takes_drop e ≡ true
drops_it room (paren e) on = refl
drops_it room (call w es) on = refl
drops_it room e on = absurd (cc)

it_drops : (room : ℕ) (e : Expression) → takes_drop e ≡ true → weight e ≤ room → (drop_fits room (form_of e) ≡ true) × (1 ≤ room)
it_drops room (paren e) on few = (le_true 1 room (omega arith), omega arith)
it_drops room (call w es) on few = (le_true 1 room (omega arith), omega arith)
it_drops room e on few = absurd (cc)

ranges_it : (room : ℕ) (e : Expression) → bits_fit room (form_of e) ≡ true → takes_bits e ≡ true
ranges_it room (named w) on = refl
ranges_it room (paren e) on = refl
ranges_it room (call w es) on = refl
ranges_it room e on = absurd (cc)

it_ranges : (room : ℕ) (e : Expression) → takes_bits e ≡ true → weight e ≤ room → bits_fit room (form_of e) ≡ true
it_ranges room (named w) on few = refl
it_ranges room (paren e) on few = le_true 1 room (omega arith)
it_ranges room (call w es) on few = le_true 1 room (omega arith)
it_ranges room e on few = absurd (cc)

-- ---- the other forms

module _ (kind : Kind) (depth : ℕ) (exact : (room n : ℕ) → room < depth → Exact write_expression (Fits kind room n) (expression kind depth room n)) (room n : ℕ) (deep : room < suc depth) where
  abbrev nested : ℕ → ℕ → Reader Expression
  nested = expression kind depth

  exact_sized : is_section kind ≡ true → Exact write_expression (IsOperand kind room (size_fits room)) (operand kind nested (size_fits room) room)
  exact_sized on = exact_operand kind depth exact room deep on (size_fits room) (size_ready room) x.Integer refl

  exact_dropped : is_section kind ≡ true → 2 ≤ room → Exact write_expression (IsOperand kind (room - 1) (drop_fits (room - 1))) (operand kind nested (drop_fits (room - 1)) (room - 1))
  exact_dropped on some = exact_operand kind depth exact (room - 1) (omega arith) on (drop_fits (room - 1)) (drop_ready (room - 1)) x.Paren (le_true 1 (room - 1) (omega arith))

  exact_ranged : is_section kind ≡ true → Exact write_expression (IsOperand kind (room - 1) (bits_fit (room - 1))) (operand kind nested (bits_fit (room - 1)) (room - 1))
  exact_ranged on = exact_operand kind depth exact (room - 1) (omega arith) on (bits_fit (room - 1)) (bits_ready (room - 1)) x.Name refl

  exact_prefixes : Exact (λ op. prefix_code op ∷ []) (HasPassed (has_prefix kind)) (coded_if (has_prefix kind) prefixes)
  exact_prefixes = exact_coded_if prefixes_count (has_prefix kind) p.Negate (any_negates kind)

  exact_operators : 1 ≤ n → Exact (λ op. operator_code op ∷ []) (HasPassed (operator_fits kind n)) (coded_if (operator_fits kind n) operators)
  exact_operators tight = exact_coded_if operators_count (operator_fits kind n) o.Multiply (le_true 1 n tight)

  abbrev Whole : Expression → Type 0
  Whole = Fits kind room n

  sized_behind : is_section kind ≡ true → Behind write_expression Whole (4 ∷ []) (sized_here kind nested room)
  unfolding sized_here
  sized_behind on = rule2 (exact_sized on) exact_width sized write_expression Whole (4 ∷ [])
      (λ e k is wide. record { binds = (on, takes_it room e is.passes, wide, is.binds); leaves = is.leaves; low = omega arith; few = is.few }) (λ e k. refl)

  dropped_behind : is_section kind ≡ true → 2 ≤ room → Behind write_expression Whole (5 ∷ []) (dropped_here kind nested room)
  unfolding dropped_here
  dropped_behind on some = rule2 (exact_dropped on some) exact_any dropped write_expression Whole (5 ∷ [])
      (λ e k is low. (let few = is.few in record { binds = (on, drops_it (room - 1) e is.passes, is.binds); leaves = (is.leaves, low); low = omega arith; few = omega arith })) (λ e k. refl)

  bits_behind : is_section kind ≡ true → 1 ≤ room → Behind write_expression Whole (6 ∷ []) (bits_here kind nested room)
  unfolding bits_here
  bits_behind on some = rule3 (exact_ranged on) exact_any exact_any bits write_expression Whole (6 ∷ [])
      (λ e l c is low high. (let few = is.few in record { binds = (on, ranges_it (room - 1) e is.passes, is.binds); leaves = (is.leaves, low, high); low = omega arith; few = omega arith })) (λ e l c. refl)

  prefix_behind : 1 ≤ room → Behind write_expression Whole (7 ∷ []) (prefixed kind nested room)
  unfolding prefixed
  prefix_behind some = rule2 exact_prefixes (exact (room - 1) 0 (omega arith)) prefix write_expression Whole (7 ∷ [])
      (λ op e has fit. (let few = fit.few in record { binds = (has, fit.low, fit.binds); leaves = fit.leaves; low = omega arith; few = omega arith })) (λ op e. refl)

  star_behind : is_section kind ≡ true → 1 ≤ room → Behind write_expression Whole (8 ∷ []) (starred kind nested room)
  unfolding starred
  star_behind on some = behind_then _ _ (8 ∷ []) (exact_space (room - 1)) _ (λ place good.
      (let light = good.1 in
      rule2 (exact_option exact_width) (exact (room - 1 - space_weight place) 0 (omega arith)) (star place) write_expression Whole ((8 ∷ []) ++ write_option write_bytes place)
      (λ k e wide fit. (let few = fit.few in record { binds = (on, wide, fit.low, fit.binds); leaves = (good.0, fit.leaves); low = omega arith; few = omega arith })) (λ k e. refl)))

  joined_behind : 1 ≤ room → 1 ≤ n → Behind write_expression Whole (9 ∷ []) (joined_here kind nested room n)
  unfolding joined_here
  joined_behind some tight = behind_then _ _ (9 ∷ []) (exact_operators tight) _ (λ op passes.
      (let has = and_left (has_operator kind op) (nat_le (suc (right_rank op)) n) passes in
      let binds = true_le (suc (right_rank op)) n (and_right (has_operator kind op) (nat_le (suc (right_rank op)) n) passes) in
      behind_then _ _ _ (exact (room - 1) (left_rank op) (omega arith)) _ (λ l fit.
      (let left_few = fit.few in
      behind_then _ _ _ (exact (room - 1 - weight l) (right_rank op) (omega arith)) _ (λ r fits_right.
      (let right_few = fits_right.few in
      behind_done _ _ _ (binary op l r)
      (record { binds = (has, fit.low, fits_right.low, fit.binds, fits_right.binds); leaves = (fit.leaves, fits_right.leaves); low = binds; few = omega arith }) refl))))))

  form_behind : (form : ExpressionForm) → fits kind room n form ≡ true → Behind write_expression Whole (expression_code form ∷ []) (form_by kind nested room n form)
  form_behind x.Integer on = behind_for (number_behind kind depth exact room deep) (made_fits kind room n x.Integer (λ e. cc))
  form_behind x.Name on = behind_for (name_behind kind depth exact room deep on) (made_fits kind room n x.Name (λ e. cc))
  form_behind x.Paren on = behind_for (paren_behind kind depth exact room deep (true_le 1 room on)) (made_fits kind room n x.Paren (λ e. cc))
  form_behind x.Call on = behind_for (call_behind kind depth exact room deep (and_left (is_section kind) (nat_le 1 room) on) (true_le 1 room (and_right (is_section kind) (nat_le 1 room) on))) (made_fits kind room n x.Call (λ e. cc))
  form_behind x.Sized on = sized_behind on
  form_behind x.Dropped on = dropped_behind (and_left (is_section kind) (nat_le 2 room) on) (true_le 2 room (and_right (is_section kind) (nat_le 2 room) on))
  form_behind x.Bits on = bits_behind (and_left (is_section kind) (nat_le 1 room) on) (true_le 1 room (and_right (is_section kind) (nat_le 1 room) on))
  form_behind x.Prefix on = prefix_behind (true_le 1 room on)
  form_behind x.Star on = star_behind (and_left (is_section kind) (nat_le 1 room) on) (true_le 1 room (and_right (is_section kind) (nat_le 1 room) on))
  form_behind x.Binary on = joined_behind (true_le 1 room (and_left (nat_le 1 room) (nat_le 1 n) on)) (true_le 1 n (and_right (nat_le 1 room) (nat_le 1 n) on))

  all_forms : Exact (λ form. expression_code form ∷ []) (HasPassed (fits kind room n)) (coded_if (fits kind room n) expression_forms)
  all_forms = exact_coded_if expression_counts (fits kind room n) x.Integer refl

  step_behind : Behind write_expression Whole [] (expression kind (suc depth) room n)
  unfolding expression
  step_behind = behind_then _ _ [] all_forms _ form_behind

  -- ---- what good expressions spell is read

  abbrev go : ExpressionForm → Reader Expression
  go form = form_by kind nested room n form

  begin : (form : ExpressionForm) (ys : List ℕ) → fits kind room n form ≡ true → expression kind (suc depth) room n (expression_code form ∷ ys) ≡ form_by kind nested room n form ys
  unfolding expression
  begin form ys on = reads_then all_forms go form on ys

  sized_complete : (e : Expression) (k : ℕ) (rest : List ℕ) → Whole (sized e k) → sized_here kind nested room ((write_expression e ++ write_number k) ++ rest) ≡ Ok (sized e k, rest)
  unfolding sized_here
  sized_complete e k rest fit = took2 (exact_sized fit.binds.0) exact_width sized e k rest
      (record { binds = fit.binds.3; leaves = fit.leaves; few = fit.few; passes = it_takes room e fit.binds.1 fit.few }) fit.binds.2

  dropped_complete : (e : Expression) (k : ℕ) (rest : List ℕ) → Whole (dropped e k) → 2 ≤ room → dropped_here kind nested room ((write_expression e ++ write_number k) ++ rest) ≡ Ok (dropped e k, rest)
  unfolding dropped_here
  dropped_complete e k rest fit some =
      let few = fit.few in
      let light : weight e ≤ room - 1 = omega arith in
      took2 (exact_dropped fit.binds.0 some) exact_any dropped e k rest
      (record { binds = fit.binds.2; leaves = fit.leaves.0; few = light; passes = (it_drops (room - 1) e fit.binds.1 light).0 }) fit.leaves.1

  bits_complete : (e : Expression) (l c : ℕ) (rest : List ℕ) → Whole (bits e l c) → bits_here kind nested room ((write_expression e ++ (write_number l ++ write_number c)) ++ rest) ≡ Ok (bits e l c, rest)
  unfolding bits_here
  bits_complete e l c rest fit =
      let few = fit.few in
      let light : weight e ≤ room - 1 = omega arith in
      took3 (exact_ranged fit.binds.0) exact_any exact_any bits e l c rest
      (record { binds = fit.binds.2; leaves = fit.leaves.0; few = light; passes = it_ranges (room - 1) e fit.binds.1 light }) fit.leaves.1 fit.leaves.2

  prefix_complete : (op : PrefixOp) (e : Expression) (rest : List ℕ) → Whole (prefix op e) → prefixed kind nested room ((prefix_code op ∷ write_expression e) ++ rest) ≡ Ok (prefix op e, rest)
  unfolding prefixed
  prefix_complete op e rest fit =
      let few = fit.few in
      took2 exact_prefixes (exact (room - 1) 0 (omega arith)) prefix op e rest fit.binds.0 (record { binds = fit.binds.2; leaves = fit.leaves; low = fit.binds.1; few = omega arith })

  star_complete : (place : Option Name) (k : Option ℕ) (e : Expression) (rest : List ℕ) → Whole (star place k e)
      → starred kind nested room ((write_option write_bytes place ++ (write_option write_number k ++ write_expression e)) ++ rest) ≡ Ok (star place k e, rest)
  unfolding starred
  star_complete place k e rest fit =
      let few = fit.few in
      took_then (exact_space (room - 1)) (λ pl. option width >>= (λ m. nested (room - 1 - space_weight pl) 0 >>= (λ d. pure (star pl m d)))) place (write_option write_number k ++ write_expression e) rest (star place k e)
      (fit.leaves.0, omega arith)
      (took2 (exact_option exact_width) (exact (room - 1 - space_weight place) 0 (omega arith)) (star place) k e rest fit.binds.1
      (record { binds = fit.binds.3; leaves = fit.leaves.1; low = fit.binds.2; few = omega arith }))

  joined_complete : (op : BinaryOp) (l r : Expression) (rest : List ℕ) → Whole (binary op l r) → joined_here kind nested room n ((operator_code op ∷ (write_expression l ++ write_expression r)) ++ rest) ≡ Ok (binary op l r, rest)
  unfolding joined_here
  joined_complete op l r rest fit =
      let few = fit.few in
      let low = fit.low in
      took_then (exact_operators (omega arith)) (λ b. operands kind nested (room - 1) b) op (write_expression l ++ write_expression r) rest (binary op l r)
      (both_true (has_operator kind op) (nat_le (suc (right_rank op)) n) fit.binds.0 (le_true (suc (right_rank op)) n low))
      (took_then (exact (room - 1) (left_rank op) (omega arith)) (λ c. nested (room - 1 - weight c) (right_rank op) >>= (λ d. pure (binary op c d))) l (write_expression r) rest (binary op l r)
      (record { binds = fit.binds.3; leaves = fit.leaves.0; low = fit.binds.1; few = omega arith })
      (took1 (exact (room - 1 - weight l) (right_rank op) (omega arith)) (binary op l) r rest (record { binds = fit.binds.4; leaves = fit.leaves.1; low = fit.binds.2; few = omega arith })))

  step_complete : (e : Expression) (rest : List ℕ) → Whole e → expression kind (suc depth) room n (write_expression e ++ rest) ≡ Ok (e, rest)
  step_complete (integer k) rest fit = begin x.Integer (write_number k ++ rest) refl ∙ number_complete kind depth exact room deep k rest fit.leaves
  step_complete (named w) rest fit = begin x.Name (write_bytes w ++ rest) fit.binds ∙ name_complete kind depth exact room deep w rest fit.leaves
  step_complete (paren e) rest fit =
      let few = fit.few in begin x.Paren (write_expression e ++ rest) (le_true 1 room (omega arith)) ∙ paren_complete kind depth exact room deep e rest fit.binds fit.leaves few
  step_complete (call w es) rest fit =
      let few = fit.few in
      begin x.Call ((write_bytes w ++ (write_number (count es) ++ write_arguments es)) ++ rest) (both_true (is_section kind) (nat_le 1 room) fit.binds.0 (le_true 1 room (omega arith)))
      ∙ call_complete kind depth exact room deep w es rest fit.binds fit.leaves few
  step_complete (sized e k) rest fit = begin x.Sized ((write_expression e ++ write_number k) ++ rest) fit.binds.0 ∙ sized_complete e k rest fit
  step_complete (dropped e k) rest fit =
      let few = fit.few in
      let two = (it_drops (weight e) e fit.binds.1 (omega arith)).1 in
      begin x.Dropped ((write_expression e ++ write_number k) ++ rest) (both_true (is_section kind) (nat_le 2 room) fit.binds.0 (le_true 2 room (omega arith)))
      ∙ dropped_complete e k rest fit (omega arith)
  step_complete (bits e l c) rest fit =
      let few = fit.few in
      begin x.Bits ((write_expression e ++ (write_number l ++ write_number c)) ++ rest) (both_true (is_section kind) (nat_le 1 room) fit.binds.0 (le_true 1 room (omega arith)))
      ∙ bits_complete e l c rest fit
  step_complete (prefix op e) rest fit =
      let few = fit.few in begin x.Prefix ((prefix_code op ∷ write_expression e) ++ rest) (le_true 1 room (omega arith)) ∙ prefix_complete op e rest fit
  step_complete (star place k e) rest fit =
      let few = fit.few in
      begin x.Star ((write_option write_bytes place ++ (write_option write_number k ++ write_expression e)) ++ rest) (both_true (is_section kind) (nat_le 1 room) fit.binds.0 (le_true 1 room (omega arith)))
      ∙ star_complete place k e rest fit
  step_complete (binary op l r) rest fit =
      let few = fit.few in
      let low = fit.low in
      begin x.Binary ((operator_code op ∷ (write_expression l ++ write_expression r)) ++ rest) (both_true (nat_le 1 room) (nat_le 1 n) (le_true 1 room (omega arith)) (le_true 1 n (omega arith)))
      ∙ joined_complete op l r rest fit

  exact_step : Exact write_expression Whole (expression kind (suc depth) room n)
  exact_step = exact_from step_behind step_complete

pub exact_expression : (kind : Kind) (depth room n : ℕ) → room < depth → Exact write_expression (Fits kind room n) (expression kind depth room n)
exact_expression kind zero room n deep = absurd (omega arith)
exact_expression kind (suc depth) room n deep = exact_step kind depth (exact_expression kind depth) room n deep

-- whole expressions
pub exact_whole : (kind : Kind) → Exact write_expression (λ e. IsExpression heaviest kind e × Leaves e) (whole_expression kind)
exact_whole kind = exact_for (exact_expression kind (suc heaviest) heaviest loosest (omega arith))
    (λ e fit. ((fit.binds, fit.few), fit.leaves)) (λ e good. record { binds = good.0.0; leaves = good.1; low = rank_low e; few = good.0.1 })
