-- Where a reader of an expression or a pattern ends at the limit, the count goes past one.
use Rattle.std.proofs.Common.{◌≡◌, ℕ, zero, suc, ◌-◌, ◌<◌, ◌≤◌, ◌&&◌, Bool, true, false, cond, nat_le, List, [], ◌∷◌, ◌++◌, drop, Option, None, Some, Ok, Err, arith, refl, ap, sym, ◌∙◌, subst}
use Rattle.sl_ast.specs.Operators.{Kind, in_section, in_action, in_constraint, binary_mark, is_section, loosest, missing_function, pattern_loosest, pattern_mark, pattern_right_rank, prefix_mark, relation_mark, right_rank, takes_bits, takes_drop, takes_size, widest}
use Rattle.sl_ast.specs.Spelling.{name}
use Rattle.sl_ast.specs.Symbols.{plain, quoted, Sym, number, word, mark}
use Rattle.sl_ast.specs.Trees.{Name, Expression, integer, named, paren, call, sized, dropped, bits, prefix, star, binary, Pattern, bare, constraint, group, ellipsis, joined}
use Rattle.sl_ast.specs.Validity.{heaviest}
use Rattle.sl_ast.specs.Views.{arguments}
use Rattle.sl_ast.specs.declared.expressions.BinaryOp.{BinaryOp}
use Rattle.sl_ast.specs.declared.expressions.BinaryOp.TheVariants as b
use Rattle.sl_ast.specs.declared.expressions.PrefixOp.{PrefixOp}
use Rattle.sl_ast.specs.declared.expressions.PrefixOp.TheVariants as p
use Rattle.sl_ast.specs.declared.patterns.PatternOp.{PatternOp}
use Rattle.sl_ast.specs.declared.patterns.PatternOp.TheVariants as j
use Rattle.sl_ast.specs.declared.patterns.Relation.{Relation}
use Rattle.sl_ast.specs.declared.symbols.Feature.{Feature}
use Rattle.sl_ast.specs.declared.symbols.Feature.TheVariants as f
use Rattle.sl_ast.specs.declared.symbols.Keyword.TheVariants as kw
use Rattle.sl_ast.specs.declared.symbols.Mark.{Mark}
use Rattle.sl_ast.specs.declared.symbols.Mark.TheVariants as m
use Rattle.sl_parse_grammar.specs.Climb.{climb, turned}
use Rattle.sl_parse_grammar.specs.Expressions.{binary_of, operator_of, allowed, turn, bracketed, called, called_by, after_name, name_in, missing_name_in, atom, atom_by, size_behind, drop_behind, bits_behind, behind, postfix, prefixed, space_in, starred, prefix_by, tight, expression, whole, with_room}
use Rattle.sl_parse_grammar.specs.Lists.{separated_from}
use Rattle.sl_parse_grammar.specs.Reader.{Form, nesting, unsupported, fault, Input, at, left, first, Outcome, Reader, and_then, ◌>>=◌, ◌>>◌, pure, skip, enter, refused_as, refuse, look, is_mark, expect, number_by, integer_here, name_by, name_here, size_by, size_here, size_option}
use Rattle.sl_parse_grammar.proofs.Taken.{first_is, mark_first}
use Rattle.sl_parse_grammar.specs.Patterns.{constrained, related, relation_in, joining_in, pattern_allowed, pattern_turn, after_field, grouped, part, part_by, element, pattern, whole_pattern}
use Rattle.sl_parse_grammar.proofs.PatternSound.{relation_is}
use Rattle.sl_parse_faults.specs.Laws.{IsNesting}
use Rattle.sl_test_laws.specs.Counting as at_mode
use Rattle.sl_test_laws.specs.Counting.{Mode, State, counted_from, going_on, spend, step}
use Rattle.sl_test_laws.proofs.Counting.{Counts, on_joining, on_relation, pattern_counts, spends, stepped}

-- ---- outcomes

-- Where the room is so much, the rest of 256 is spent.
abbrev pub count : ℕ → (ℕ → ℕ → Mode) → ℕ → Input → Option State
count blocks mode d i = counted_from blocks (mode d (heaviest - i.room)) i.rest

-- From a count, a reading leaves that of what is left, inside so many brackets, and less room than c; or it ends at the
-- limit, and the count goes past one.
abbrev pub After : {A : Type 0} → ℕ → (ℕ → ℕ → Mode) → ℕ → Option State → ℕ → Outcome A → Type 0
After blocks mode c start d (Ok q) = (q.1.room < c) × (start ≡ count blocks mode d q.1)
After blocks mode c start d (Err e) = e.form ≡ nesting → start ≡ None

and_true : (x y : Bool) → x && y ≡ true → x ≡ true
and_true true y h = refl
and_true false y h = h

refused_otherwise : (o : Option Sym) → refused_as o ≡ nesting → ⊥
refused_otherwise (Some (mark m.Floating)) e = absurd (cc)
refused_otherwise (Some (word (quoted kw.InstNext2))) e = absurd (cc)
refused_otherwise o e = absurd (cc)

unsupported_otherwise : (feature : Feature) (back : ℕ) → unsupported feature back ≡ nesting → ⊥
unsupported_otherwise feature back e = absurd (cc)

binary_is : (k : Mark) (op : BinaryOp) → binary_of k ≡ Some op → k ≡ binary_mark op
binary_is m.Star op e = let same : b.Multiply ≡ op = cc in ap (λ x. binary_mark x) same
binary_is m.Slash op e = let same : b.Divide ≡ op = cc in ap (λ x. binary_mark x) same
binary_is m.Percent op e = let same : b.Remainder ≡ op = cc in ap (λ x. binary_mark x) same
binary_is m.SignedSlash op e = let same : b.SignedDivide ≡ op = cc in ap (λ x. binary_mark x) same
binary_is m.SignedPercent op e = let same : b.SignedRemainder ≡ op = cc in ap (λ x. binary_mark x) same
binary_is m.Plus op e = let same : b.Add ≡ op = cc in ap (λ x. binary_mark x) same
binary_is m.Minus op e = let same : b.Subtract ≡ op = cc in ap (λ x. binary_mark x) same
binary_is m.ShiftLeft op e = let same : b.ShiftLeft ≡ op = cc in ap (λ x. binary_mark x) same
binary_is m.ShiftRight op e = let same : b.ShiftRight ≡ op = cc in ap (λ x. binary_mark x) same
binary_is m.SignedShiftRight op e = let same : b.SignedShiftRight ≡ op = cc in ap (λ x. binary_mark x) same
binary_is m.Less op e = let same : b.Less ≡ op = cc in ap (λ x. binary_mark x) same
binary_is m.LessEqual op e = let same : b.LessEqual ≡ op = cc in ap (λ x. binary_mark x) same
binary_is m.Greater op e = let same : b.Greater ≡ op = cc in ap (λ x. binary_mark x) same
binary_is m.GreaterEqual op e = let same : b.GreaterEqual ≡ op = cc in ap (λ x. binary_mark x) same
binary_is m.SignedLess op e = let same : b.SignedLess ≡ op = cc in ap (λ x. binary_mark x) same
binary_is m.SignedLessEqual op e = let same : b.SignedLessEqual ≡ op = cc in ap (λ x. binary_mark x) same
binary_is m.SignedGreater op e = let same : b.SignedGreater ≡ op = cc in ap (λ x. binary_mark x) same
binary_is m.SignedGreaterEqual op e = let same : b.SignedGreaterEqual ≡ op = cc in ap (λ x. binary_mark x) same
binary_is m.EqualEqual op e = let same : b.Equal ≡ op = cc in ap (λ x. binary_mark x) same
binary_is m.NotEqual op e = let same : b.NotEqual ≡ op = cc in ap (λ x. binary_mark x) same
binary_is m.Ampersand op e = let same : b.And ≡ op = cc in ap (λ x. binary_mark x) same
binary_is m.Caret op e = let same : b.Xor ≡ op = cc in ap (λ x. binary_mark x) same
binary_is m.Bar op e = let same : b.Or ≡ op = cc in ap (λ x. binary_mark x) same
binary_is m.AndAnd op e = let same : b.BooleanAnd ≡ op = cc in ap (λ x. binary_mark x) same
binary_is m.CaretCaret op e = let same : b.BooleanXor ≡ op = cc in ap (λ x. binary_mark x) same
binary_is m.BarBar op e = let same : b.BooleanOr ≡ op = cc in ap (λ x. binary_mark x) same
binary_is m.WordAnd op e = let same : b.WordAnd ≡ op = cc in ap (λ x. binary_mark x) same
binary_is m.WordXor op e = let same : b.WordXor ≡ op = cc in ap (λ x. binary_mark x) same
binary_is m.WordOr op e = let same : b.WordOr ≡ op = cc in ap (λ x. binary_mark x) same
binary_is k op e = absurd (cc)

operator_is : (o : Option Sym) (op : BinaryOp) → operator_of o ≡ Some op → o ≡ Some (mark (binary_mark op))
operator_is (Some (mark k)) op e = ap (λ l. Some (mark l)) (binary_is k op e)
operator_is o op e = absurd (cc)

if_some : (h : Bool) (x y : BinaryOp) → cond h (Some x) None ≡ Some y → x ≡ y
if_some true x y e = cc
if_some false x y e = absurd (cc)

allowed_is : (kind : Kind) (n : ℕ) (l : Expression) (x : Option BinaryOp) (op : BinaryOp) → allowed kind n l x ≡ Some op → x ≡ Some op
allowed_is kind n l None op e = absurd (cc)
allowed_is kind n l (Some x) op e = ap (λ y. Some y) (if_some _ x op e)

turn_is : (kind : Kind) (n : ℕ) (l : Expression) (o : Option Sym) (op : BinaryOp) → turn kind n l o ≡ Some op → o ≡ Some (mark (binary_mark op))
unfolding turn
turn_is kind n l o op e = operator_is o op (allowed_is kind n l (operator_of o) op e)

module _ (blocks : ℕ) (mode : ℕ → ℕ → Mode) where
  abbrev K : ℕ → Input → Option State
  K d i = count blocks mode d i

  -- with less room than b, from inside d brackets to inside e
  pub record Runs {A : Type 0} (b c d e : ℕ) (q : Reader A) : Type 0 where
    pub runs : (i : Input) → i.room < b → After blocks mode c (K d i) e (q i)

  -- where this symbol comes next
  record RunsOn {A : Type 0} (o : Option Sym) (b c d e : ℕ) (q : Reader A) : Type 0 where
    on : (i : Input) → first i.rest ≡ o → i.room < b → After blocks mode c (K d i) e (q i)

  later_by : {A B : Type 0} (c c' e e' : ℕ) (start : Option State) (o : Outcome A) (go : A → Reader B) → After blocks mode c start e o → ((a : A) → Runs c c' e e' (go a))
      → After blocks mode c' start e' (and_then o go)
  later_by c c' e e' start (Ok q) go here later = subst (λ s. After blocks mode c' s e' (go q.0 q.1)) (sym here.1) ((later q.0).runs q.1 here.0)
  later_by c c' e e' start (Err x) go here later = here

  runs_then : {A B : Type 0} {q : Reader A} {go : A → Reader B} (b c c' d e e' : ℕ) → Runs b c d e q → ((a : A) → Runs c c' e e' (go a)) → Runs b c' d e' (q >>= go)
  runs_then {q = q} {go = go} b c c' d e e' here later = record { runs = λ i less. later_by c c' e e' (K d i) (q i) go (here.runs i less) later }

  on_then : {A B : Type 0} {q : Reader A} {go : A → Reader B} (o : Option Sym) (b c c' d e e' : ℕ) → RunsOn o b c d e q → ((a : A) → Runs c c' e e' (go a)) → RunsOn o b c' d e' (q >>= go)
  on_then {q = q} {go = go} o b c c' d e e' here later = record { on = λ i is less. later_by c c' e e' (K d i) (q i) go (here.on i is less) later }

  runs_on : {A : Type 0} {q : Reader A} (o : Option Sym) (b c d e : ℕ) → Runs b c d e q → RunsOn o b c d e q
  runs_on o b c d e here = record { on = λ i is less. here.runs i less }

  runs_pure : {A : Type 0} (b c d : ℕ) (a : A) → b ≤ c → Runs b c d d (pure a)
  runs_pure b c d a le = record { runs = λ i less. (omega (arith, less, le), refl) }

  runs_fault : {A : Type 0} (b c d e : ℕ) (form : Form) → (form ≡ nesting → ⊥) → Runs {A = A} b c d e (λ i. Err (fault form (left i)))
  runs_fault b c d e form other = record { runs = λ i less is. absurd (other is) }

  runs_refuse : {A : Type 0} (b c d e : ℕ) → Runs {A = A} b c d e refuse
  runs_refuse b c d e = record { runs = λ i less is. absurd (refused_otherwise (first i.rest) is) }

  runs_peek : {A : Type 0} {go : Option Sym → Reader A} (b c d e : ℕ) → ((o : Option Sym) → RunsOn o b c d e (go o)) → Runs b c d e (λ i. go (first i.rest) i)
  runs_peek b c d e here = record { runs = λ i less. (here (first i.rest)).on i refl less }

  if_by : {A : Type 0} (test : Bool) {q r : Reader A} (o : Option Sym) (b c d e : ℕ) → (test ≡ true → RunsOn o b c d e q) → RunsOn o b c d e r
      → RunsOn o b c d e (λ i. cond {A = Reader A} test q r i)
  if_by true o b c d e there not_there = there refl
  if_by false o b c d e there not_there = not_there

  runs_if : {A : Type 0} (test : Bool) {q r : Reader A} (b c d e : ℕ) → (test ≡ true → Runs b c d e q) → Runs b c d e r → Runs b c d e (λ i. cond {A = Reader A} test q r i)
  runs_if true b c d e there not_there = there refl
  runs_if false b c d e there not_there = not_there

  runs_look : {A : Type 0} (test : Option Sym → Bool) {q r : Reader A} (x : Sym) (b c d e : ℕ) → ((o : Option Sym) → test o ≡ true → o ≡ Some x) → RunsOn (Some x) b c d e q → Runs b c d e r
      → Runs b c d e (look test q r)
  runs_look test {q = q} x b c d e only there not_there =
      runs_peek b c d e (λ o. if_by (test o) o b c d e (λ yes. subst (λ y. RunsOn y b c d e q) (sym (only o yes)) there) (runs_on o b c d e not_there))

  -- a symbol that doesn't count
  on_skip : (x : Sym) (b d e : ℕ) → ((n : ℕ) → step blocks (mode d n) x ≡ Some (blocks, mode e n)) → RunsOn (Some x) b b d e skip
  on_skip x b d e is = record {
    on = λ i here less. (
      less,
      ap (λ xs. counted_from blocks (mode d (heaviest - i.room)) xs) (first_is i.rest x here)
          ∙ stepped blocks blocks (mode d (heaviest - i.room)) (mode e (heaviest - i.room)) x (drop 1 i.rest) (is (heaviest - i.room)),
    );
  }

  -- one that counts
  entered : (x : Sym) (b d e : ℕ) → b ≤ heaviest → ((n : ℕ) → step blocks (mode d n) x ≡ spend blocks n (mode e)) → (xs : List Sym) (r : ℕ) → r < suc b
      → After blocks mode b (counted_from blocks (mode d (heaviest - r)) (x ∷ xs)) e (enter (at (x ∷ xs) r))
  unfolding enter
  entered x b d e small is xs zero less = λ _. ap (λ s. going_on s (λ state. counted_from state.0 state.1 xs)) (is heaviest)
  entered x b d e small is xs (suc r) less =
      let n = heaviest - suc r in
      let next : suc n ≡ heaviest - r = omega (arith, less, small) in (
        omega (arith, less),
        stepped blocks blocks (mode d n) (mode e (suc n)) x xs (is n ∙ spends blocks n (mode e) (omega (arith, less, small)))
            ∙ ap (λ l. counted_from blocks (mode e l) xs) next,
      )

  on_enter : (x : Sym) (b d e : ℕ) → b ≤ heaviest → ((n : ℕ) → step blocks (mode d n) x ≡ spend blocks n (mode e)) → RunsOn (Some x) (suc b) b d e enter
  on_enter x b d e small is = record {
    on = λ i here less.
        subst (λ xs. After blocks mode b (counted_from blocks (mode d (heaviest - i.room)) xs) e (enter (at xs i.room))) (sym (first_is i.rest x here))
        (entered x b d e small is (drop 1 i.rest) i.room less);
  }

  runs_expect : (k : Mark) (b d e : ℕ) → ((n : ℕ) → step blocks (mode d n) (mark k) ≡ Some (blocks, mode e n)) → Runs b b d e (expect k)
  unfolding expect
  runs_expect k b d e is = runs_look (is_mark k) (mark k) b b d e (mark_first k) (on_skip (mark k) b d e is) (runs_refuse b b d e)

  module _ (kind : Kind) (c : Counts blocks kind mode) where
    number_by_runs : (b d : ℕ) (o : Option Sym) → RunsOn o b b d d (number_by o)
    number_by_runs b d (Some (number n)) = on_then (Some (number n)) b b b d d d (on_skip (number n) b d d (λ i. c.on_number d i n)) (λ _. runs_pure b b d n (omega arith))
    number_by_runs b d o = runs_on o b b d d (runs_refuse b b d d)

    runs_integer : (b d : ℕ) → Runs b b d d integer_here
    unfolding integer_here
    runs_integer b d = runs_peek b b d d (number_by_runs b d)

    name_by_runs : (b d : ℕ) (o : Option Sym) → RunsOn o b b d d (name_by o)
    name_by_runs b d (Some (word (plain w))) = on_then (Some (name w)) b b b d d d (on_skip (name w) b d d (λ n. c.on_name d n w)) (λ _. runs_pure b b d w (omega arith))
    name_by_runs b d o = runs_on o b b d d (runs_refuse b b d d)

    runs_name : (b d : ℕ) → Runs b b d d name_here
    unfolding name_here
    runs_name b d = runs_peek b b d d (name_by_runs b d)

    size_by_runs : (b d : ℕ) (o : Option Sym) → RunsOn o b b d d (size_by o)
    size_by_runs b d (Some (number n)) =
        if_by (nat_le n widest) (Some (number n)) b b d d (λ _. on_then (Some (number n)) b b b d d d (on_skip (number n) b d d (λ i. c.on_number d i n)) (λ _. runs_pure b b d n (omega arith)))
        (runs_on (Some (number n)) b b d d (runs_fault b b d d (unsupported f.WideValue 0) (unsupported_otherwise f.WideValue 0)))
    size_by_runs b d o = runs_on o b b d d (runs_refuse b b d d)

    runs_size : (b d : ℕ) → Runs b b d d size_here
    unfolding size_here
    runs_size b d = runs_peek b b d d (size_by_runs b d)

    size_option_runs : is_section kind ≡ true → (b d : ℕ) → Runs b b d d size_option
    unfolding size_option
    size_option_runs is b d =
        runs_look (is_mark m.Colon) (mark m.Colon) b b d d (mark_first m.Colon)
        (on_then (Some (mark m.Colon)) b b b d d d (on_then (Some (mark m.Colon)) b b b d d d (on_skip (mark m.Colon) b d d (c.on_colon is d)) (λ _. runs_size b d)) (λ n. runs_pure b b d (Some n) (omega arith)))
        (runs_pure b b d None (omega arith))

    separated_runs : is_section kind ≡ true → (b d : ℕ) (q : Reader Expression) → Runs b b (suc d) (suc d) q → (n : ℕ) (found : List Expression)
        → Runs b b (suc d) (suc d) (separated_from q n found)
    unfolding separated_from
    separated_runs is b d q here zero found = runs_refuse b b (suc d) (suc d)
    separated_runs is b d q here (suc n) found =
        runs_then b b b (suc d) (suc d) (suc d) here (λ a. runs_look (is_mark m.Comma) (mark m.Comma) b b (suc d) (suc d) (mark_first m.Comma)
        (on_then (Some (mark m.Comma)) b b b (suc d) (suc d) (suc d) (on_skip (mark m.Comma) b (suc d) (suc d) (c.on_comma is d)) (λ _. separated_runs is b d q here n (found ++ a ∷ [])))
        (runs_pure b b (suc d) (found ++ a ∷ []) (omega arith)))

    -- the bracket of a space counts, and leaves less room where there is one
    space_by : (k : ℕ) → is_section kind ≡ true → (d : ℕ) → k ≤ heaviest → Runs k k d d space_in
    unfolding space_in
    space_by zero is d le = record { runs = λ i less. absurd (omega (arith, less)) }
    space_by (suc k) is d le =
        runs_look (is_mark m.OpenBracket) (mark m.OpenBracket) (suc k) (suc k) d d (mark_first m.OpenBracket)
        (on_then (Some (mark m.OpenBracket)) (suc k) k (suc k) d d d
        (on_then (Some (mark m.OpenBracket)) (suc k) k k d (suc d) d (on_enter (mark m.OpenBracket) k d (suc d) (omega (arith, le)) (c.on_bracket is d))
        (λ _. runs_then k k k (suc d) (suc d) d (runs_name k (suc d)) (λ w. runs_then k k k (suc d) d d (runs_expect m.CloseBracket k (suc d) d (c.on_close_bracket is d)) (λ _. runs_pure k k d w (omega arith)))))
        (λ w. runs_pure k (suc k) d (Some w) (omega arith)))
        (runs_pure (suc k) (suc k) d None (omega arith))

    module _ (k : ℕ) (small : k ≤ heaviest) (inner : ℕ → Reader Expression) (here : (n d : ℕ) → Runs k k d d (inner n)) where
      bracketed_runs : (d : ℕ) → RunsOn (Some (mark m.Open)) (suc k) (suc k) d d (bracketed kind inner)
      unfolding bracketed
      bracketed_runs d =
          on_then (Some (mark m.Open)) (suc k) k (suc k) d (suc d) d (on_enter (mark m.Open) k d (suc d) small (c.on_open d))
          (λ _. runs_then k k (suc k) (suc d) (suc d) d (here loosest (suc d)) (λ e. runs_then k k (suc k) (suc d) d d (runs_expect m.Close k (suc d) d (c.on_close d))
          (λ _. runs_pure k (suc k) d (paren e) (omega arith))))

      called_runs : is_section kind ≡ true → (w : Name) (d : ℕ) → RunsOn (Some (mark m.Open)) (suc k) (suc k) d d (called kind inner w)
      unfolding called
      called_runs is w d =
          on_then (Some (mark m.Open)) (suc k) k (suc k) d (suc d) d (on_enter (mark m.Open) k d (suc d) small (c.on_open d))
          (λ _. runs_then k k (suc k) (suc d) (suc d) d (record { runs = λ i less. (separated_runs is k d (inner loosest) (here loosest (suc d)) (suc (left i)) []).runs i less })
          (λ es. runs_then k k (suc k) (suc d) d d (runs_expect m.Close k (suc d) d (c.on_close d)) (λ _. runs_pure k (suc k) d (call w (arguments es)) (omega arith))))

      called_by_runs : is_section kind ≡ true → (w : Name) (x : Option Feature) (d : ℕ) → RunsOn (Some (mark m.Open)) (suc k) (suc k) d d (called_by kind inner w x)
      called_by_runs is w None d = called_runs is w d
      called_by_runs is w (Some feature) d = runs_on (Some (mark m.Open)) (suc k) (suc k) d d (runs_fault (suc k) (suc k) d d (unsupported feature 1) (unsupported_otherwise feature 1))

      after_name_runs : is_section kind ≡ true → (w : Name) (d : ℕ) → Runs (suc k) (suc k) d d (after_name kind inner w)
      unfolding after_name
      after_name_runs is w d =
          runs_look (is_mark m.Open) (mark m.Open) (suc k) (suc k) d d (mark_first m.Open) (called_by_runs is w (missing_function w) d) (runs_pure (suc k) (suc k) d (named w) (omega arith))

      name_in_runs : (at_place : Kind) → at_place ≡ kind → (w : Name) (d : ℕ) → RunsOn (Some (name w)) (suc k) (suc k) d d (name_in kind inner at_place w)
      name_in_runs in_section same w d =
          on_then (Some (name w)) (suc k) (suc k) (suc k) d d d (on_skip (name w) (suc k) d d (λ n. c.on_name d n w)) (λ _. after_name_runs (sym (ap is_section same)) w d)
      name_in_runs in_action same w d =
          on_then (Some (name w)) (suc k) (suc k) (suc k) d d d (on_skip (name w) (suc k) d d (λ n. c.on_name d n w)) (λ _. runs_pure (suc k) (suc k) d (named w) (omega arith))
      name_in_runs in_constraint same w d =
          runs_on (Some (name w)) (suc k) (suc k) d d (runs_fault (suc k) (suc k) d d (unsupported f.NameInConstraint 0) (unsupported_otherwise f.NameInConstraint 0))

      missing_name_runs : (at_place : Kind) (d : ℕ) → Runs (suc k) (suc k) d d (missing_name_in kind inner at_place)
      missing_name_runs in_section d = runs_refuse (suc k) (suc k) d d
      missing_name_runs in_action d = runs_refuse (suc k) (suc k) d d
      missing_name_runs in_constraint d = runs_fault (suc k) (suc k) d d (unsupported f.NameInConstraint 0) (unsupported_otherwise f.NameInConstraint 0)

      atom_by_runs : (d : ℕ) (o : Option Sym) → RunsOn o (suc k) (suc k) d d (atom_by kind inner o)
      atom_by_runs d (Some (number n)) =
          on_then (Some (number n)) (suc k) (suc k) (suc k) d d d (on_skip (number n) (suc k) d d (λ i. c.on_number d i n)) (λ _. runs_pure (suc k) (suc k) d (integer n) (omega arith))
      atom_by_runs d (Some (word (plain w))) = name_in_runs kind refl w d
      atom_by_runs d (Some (word (quoted kw.InstNext2))) = runs_on _ (suc k) (suc k) d d (missing_name_runs kind d)
      atom_by_runs d (Some (mark m.Open)) = bracketed_runs d
      atom_by_runs d o = runs_on o (suc k) (suc k) d d (runs_refuse (suc k) (suc k) d d)

      atom_runs : (d : ℕ) → Runs (suc k) (suc k) d d (atom kind inner)
      unfolding atom
      atom_runs d = runs_peek (suc k) (suc k) d d (atom_by_runs d)

      size_behind_runs : is_section kind ≡ true → (e : Expression) (d : ℕ) → RunsOn (Some (mark m.Colon)) (suc k) (suc k) d d (size_behind e)
      unfolding size_behind
      size_behind_runs is e d =
          on_then (Some (mark m.Colon)) (suc k) (suc k) (suc k) d d d (on_skip (mark m.Colon) (suc k) d d (c.on_colon is d))
          (λ _. runs_then (suc k) (suc k) (suc k) d d d (runs_size (suc k) d) (λ n. runs_pure (suc k) (suc k) d (sized e n) (omega arith)))

      drop_behind_runs : (e : Expression) (d : ℕ) → RunsOn (Some (mark m.Open)) (suc k) (suc k) d d (drop_behind e)
      unfolding drop_behind
      drop_behind_runs e d =
          on_then (Some (mark m.Open)) (suc k) k (suc k) d (suc d) d (on_enter (mark m.Open) k d (suc d) small (c.on_open d))
          (λ _. runs_then k k (suc k) (suc d) (suc d) d (runs_integer k (suc d)) (λ n. runs_then k k (suc k) (suc d) d d (runs_expect m.Close k (suc d) d (c.on_close d))
          (λ _. runs_pure k (suc k) d (dropped e n) (omega arith))))

      bits_behind_runs : is_section kind ≡ true → (e : Expression) (d : ℕ) → RunsOn (Some (mark m.OpenBracket)) (suc k) (suc k) d d (bits_behind e)
      unfolding bits_behind
      bits_behind_runs is e d =
          on_then (Some (mark m.OpenBracket)) (suc k) k (suc k) d (suc d) d (on_enter (mark m.OpenBracket) k d (suc d) small (c.on_bracket is d))
          (λ _. runs_then k k (suc k) (suc d) (suc d) d (runs_integer k (suc d)) (λ l. runs_then k k (suc k) (suc d) (suc d) d (runs_expect m.Comma k (suc d) (suc d) (c.on_comma is d))
          (λ _. runs_then k k (suc k) (suc d) (suc d) d (runs_integer k (suc d)) (λ n. runs_then k k (suc k) (suc d) d d (runs_expect m.CloseBracket k (suc d) d (c.on_close_bracket is d))
          (λ _. runs_pure k (suc k) d (bits e l n) (omega arith))))))

      only : (x : Mark) (t : Bool) (o : Option Sym) → is_mark x o && t ≡ true → o ≡ Some (mark x)
      only x t o h = mark_first x o (and_true (is_mark x o) t h)

      behind_runs : is_section kind ≡ true → (e : Expression) (d : ℕ) → Runs (suc k) (suc k) d d (behind e)
      unfolding behind
      behind_runs is e d =
          runs_look (λ o. is_mark m.Colon o && takes_size e) (mark m.Colon) (suc k) (suc k) d d (only m.Colon (takes_size e)) (size_behind_runs is e d)
          (runs_look (λ o. is_mark m.Open o && takes_drop e) (mark m.Open) (suc k) (suc k) d d (only m.Open (takes_drop e)) (drop_behind_runs e d)
          (runs_look (λ o. is_mark m.OpenBracket o && takes_bits e) (mark m.OpenBracket) (suc k) (suc k) d d (only m.OpenBracket (takes_bits e)) (bits_behind_runs is e d)
          (runs_pure (suc k) (suc k) d e (omega arith))))

      postfix_runs : (d : ℕ) → Runs (suc k) (suc k) d d (postfix kind inner)
      unfolding postfix
      postfix_runs d =
          runs_then (suc k) (suc k) (suc k) d d d (atom_runs d)
          (λ e. runs_if (is_section kind) (suc k) (suc k) d d (λ is. behind_runs is e d) (runs_pure (suc k) (suc k) d e (omega arith)))

      prefixed_runs : (op : PrefixOp) (d : ℕ) → RunsOn (Some (mark (prefix_mark op))) (suc k) (suc k) d d (prefixed kind inner op)
      unfolding prefixed
      prefixed_runs op d =
          on_then (Some (mark (prefix_mark op))) (suc k) k (suc k) d d d (on_enter (mark (prefix_mark op)) k d d small (λ n. c.on_prefix d n op))
          (λ _. runs_then k k (suc k) d d d (here 0 d) (λ e. runs_pure k (suc k) d (prefix op e) (omega arith)))

      starred_runs : is_section kind ≡ true → (d : ℕ) → RunsOn (Some (mark m.Star)) (suc k) (suc k) d d (starred kind inner)
      unfolding starred
      starred_runs is d =
          on_then (Some (mark m.Star)) (suc k) k (suc k) d d d (on_enter (mark m.Star) k d d small (λ n. c.on_binary d n b.Multiply))
          (λ _. runs_then k k (suc k) d d d (space_by k is d small) (λ place. runs_then k k (suc k) d d d (size_option_runs is k d)
          (λ width. runs_then k k (suc k) d d d (here 0 d) (λ e. runs_pure k (suc k) d (star place width e) (omega arith)))))

      prefix_by_runs : (d : ℕ) (o : Option Sym) → RunsOn o (suc k) (suc k) d d (prefix_by kind inner o)
      prefix_by_runs d (Some (mark m.Minus)) = prefixed_runs p.Negate d
      prefix_by_runs d (Some (mark m.Tilde)) = prefixed_runs p.Complement d
      prefix_by_runs d (Some (mark m.Exclamation)) =
          if_by (is_section kind) (Some (mark m.Exclamation)) (suc k) (suc k) d d (λ _. prefixed_runs p.Not d) (runs_on (Some (mark m.Exclamation)) (suc k) (suc k) d d (runs_refuse (suc k) (suc k) d d))
      prefix_by_runs d (Some (mark m.Star)) =
          if_by (is_section kind) (Some (mark m.Star)) (suc k) (suc k) d d (λ is. starred_runs is d) (runs_on (Some (mark m.Star)) (suc k) (suc k) d d (runs_refuse (suc k) (suc k) d d))
      prefix_by_runs d (Some (mark m.Ampersand)) =
          runs_on (Some (mark m.Ampersand)) (suc k) (suc k) d d (runs_fault (suc k) (suc k) d d (unsupported f.AddressOf 0) (unsupported_otherwise f.AddressOf 0))
      prefix_by_runs d o = runs_on o (suc k) (suc k) d d (postfix_runs d)

      tight_runs : (d : ℕ) → Runs (suc k) (suc k) d d (tight kind inner)
      unfolding tight
      tight_runs d = runs_peek (suc k) (suc k) d d (prefix_by_runs d)

      -- ---- operators between operands

      turned_runs : (n : ℕ) (d : ℕ) (l : Expression) (later : Expression → Reader Expression) → ((e : Expression) → Runs (suc k) (suc k) d d (later e)) → (o : Option Sym) (x : Option BinaryOp)
          → turn kind n l o ≡ x → RunsOn o (suc k) (suc k) d d (turned (λ op. enter >> (inner (right_rank op) >>= (λ r. later (binary op l r)))) l x)
      turned_runs n d l later goes o None e = runs_on o (suc k) (suc k) d d (runs_pure (suc k) (suc k) d l (omega arith))
      turned_runs n d l later goes o (Some op) e =
          subst (λ y. RunsOn y (suc k) (suc k) d d (enter >> (inner (right_rank op) >>= (λ r. later (binary op l r))))) (sym (turn_is kind n l o op e))
          (on_then (Some (mark (binary_mark op))) (suc k) k (suc k) d d d (on_enter (mark (binary_mark op)) k d d small (λ i. c.on_binary d i op))
          (λ _. runs_then k k (suc k) d d d (here (right_rank op) d) (λ r. record { runs = λ i less. (goes (binary op l r)).runs i (omega (arith, less)) })))

      climb_runs : (n d r : ℕ) (l : Expression) → Runs (suc k) (suc k) d d (climb (turn kind n) right_rank binary inner r l)
      unfolding climb
      climb_runs n d zero l = runs_pure (suc k) (suc k) d l (omega arith)
      climb_runs n d (suc r) l =
          runs_peek (suc k) (suc k) d d (λ o. turned_runs n d l (climb (turn kind n) right_rank binary inner r) (λ e. climb_runs n d r e) o (turn kind n l o) refl)

    pub expression_runs : (fuel b n d : ℕ) → b ≤ fuel → b ≤ suc heaviest → Runs b b d d (expression kind fuel n)
    unfolding expression
    expression_runs fuel zero n d le small = record { runs = λ i less. absurd (omega (arith, less)) }
    expression_runs zero (suc k) n d le small = absurd (omega (arith, le))
    expression_runs (suc fuel) (suc k) n d le small =
        runs_then (suc k) (suc k) (suc k) d d d (tight_runs k (omega (arith, small)) (expression kind fuel) (λ n d. expression_runs fuel k n d (omega (arith, le)) (omega (arith, small))) d)
        (λ e. record {
          runs = λ i less.
              (climb_runs k (omega (arith, small)) (expression kind fuel) (λ n d. expression_runs fuel k n d (omega (arith, le)) (omega (arith, small))) n d (suc i.room) e).runs i less;
        })

-- ---- patterns

joining_is : (o : Option Sym) (op : PatternOp) → joining_in o ≡ Some op → o ≡ Some (mark (pattern_mark op))
joining_is (Some (mark m.Ampersand)) op e = let same : j.And ≡ op = cc in ap (λ x. Some (mark (pattern_mark x))) same
joining_is (Some (mark m.Semicolon)) op e = let same : j.Then ≡ op = cc in ap (λ x. Some (mark (pattern_mark x))) same
joining_is (Some (mark m.Bar)) op e = let same : j.Or ≡ op = cc in ap (λ x. Some (mark (pattern_mark x))) same
joining_is o op e = absurd (cc)

if_joining : (h : Bool) (x y : PatternOp) → cond h (Some x) None ≡ Some y → x ≡ y
if_joining true x y e = cc
if_joining false x y e = absurd (cc)

pattern_allowed_is : (n : ℕ) (l : Pattern) (x : Option PatternOp) (op : PatternOp) → pattern_allowed n l x ≡ Some op → x ≡ Some op
pattern_allowed_is n l None op e = absurd (cc)
pattern_allowed_is n l (Some x) op e = ap (λ y. Some y) (if_joining _ x op e)

pattern_turn_is : (n : ℕ) (l : Pattern) (o : Option Sym) (op : PatternOp) → pattern_turn n l o ≡ Some op → o ≡ Some (mark (pattern_mark op))
unfolding pattern_turn
pattern_turn_is n l o op e = joining_is o op (pattern_allowed_is n l (joining_in o) op e)

module _ (blocks : ℕ) (head : Bool) where
  abbrev pattern_mode : ℕ → ℕ → Mode
  pattern_mode d n = at_mode.Pattern head n

  abbrev PatternRuns : {A : Type 0} → ℕ → ℕ → Reader A → Type 0
  PatternRuns b c q = Runs blocks pattern_mode b c 0 0 q

  abbrev PatternRunsOn : {A : Type 0} → Option Sym → ℕ → ℕ → Reader A → Type 0
  PatternRunsOn o b c q = RunsOn blocks pattern_mode o b c 0 0 q

  module _ (k : ℕ) (small : k ≤ heaviest) (inner : ℕ → Reader Pattern) (here : (n : ℕ) → PatternRuns k k (inner n)) where
    grouped_runs : PatternRunsOn (Some (mark m.Open)) (suc k) (suc k) (grouped inner)
    unfolding grouped
    grouped_runs =
        on_then blocks pattern_mode (Some (mark m.Open)) (suc k) k (suc k) 0 0 0 (on_enter blocks pattern_mode (mark m.Open) k 0 0 small (λ n. refl))
        (λ _. runs_then blocks pattern_mode k k (suc k) 0 0 0 (here pattern_loosest) (λ q. runs_then blocks pattern_mode k k (suc k) 0 0 0
        (runs_expect blocks pattern_mode m.Close k 0 0 (λ n. refl)) (λ _. runs_pure blocks pattern_mode k (suc k) 0 (group q) (omega arith))))

    related_runs : (w : Name) (o : Option Sym) (x : Option Relation) → relation_in o ≡ x → PatternRunsOn o (suc k) (suc k) (related heaviest w x)
    unfolding constrained
    related_runs w o None e = runs_on blocks pattern_mode o (suc k) (suc k) 0 0 (runs_pure blocks pattern_mode (suc k) (suc k) 0 (bare w) (omega arith))
    related_runs w o (Some rel) e =
        subst (λ y. PatternRunsOn y (suc k) (suc k) (constrained heaviest w rel)) (sym (relation_is o rel e))
        (on_then blocks pattern_mode (Some (mark (relation_mark rel))) (suc k) k (suc k) 0 0 0 (on_enter blocks pattern_mode (mark (relation_mark rel)) k 0 0 small (λ n. on_relation blocks head n rel))
        (λ _. runs_then blocks pattern_mode k k (suc k) 0 0 0
        (expression_runs blocks pattern_mode in_constraint (pattern_counts blocks head) (suc heaviest) k loosest 0 (omega (arith, small)) (omega (arith, small)))
        (λ e. runs_pure blocks pattern_mode k (suc k) 0 (constraint w rel e) (omega arith))))

    after_field_runs : (w : Name) → PatternRuns (suc k) (suc k) (after_field heaviest w)
    unfolding after_field
    after_field_runs w = runs_peek blocks pattern_mode (suc k) (suc k) 0 0 (λ o. related_runs w o (relation_in o) refl)

    part_by_runs : (o : Option Sym) → PatternRunsOn o (suc k) (suc k) (part_by heaviest inner o)
    part_by_runs (Some (word (plain w))) =
        on_then blocks pattern_mode (Some (name w)) (suc k) (suc k) (suc k) 0 0 0 (on_skip blocks pattern_mode (name w) (suc k) 0 0 (λ n. refl)) (λ _. after_field_runs w)
    part_by_runs (Some (mark m.Open)) = grouped_runs
    part_by_runs (Some (mark m.Ellipsis)) =
        runs_on blocks pattern_mode (Some (mark m.Ellipsis)) (suc k) (suc k) 0 0 (runs_fault blocks pattern_mode (suc k) (suc k) 0 0 (unsupported f.LeadingEllipsis 0) (unsupported_otherwise f.LeadingEllipsis 0))
    part_by_runs o = runs_on blocks pattern_mode o (suc k) (suc k) 0 0 (runs_refuse blocks pattern_mode (suc k) (suc k) 0 0)

    element_runs : PatternRuns (suc k) (suc k) (element heaviest inner)
    unfolding element part
    element_runs =
        runs_then blocks pattern_mode (suc k) (suc k) (suc k) 0 0 0 (runs_peek blocks pattern_mode (suc k) (suc k) 0 0 part_by_runs)
        (λ q. runs_look blocks pattern_mode (is_mark m.Ellipsis) (mark m.Ellipsis) (suc k) (suc k) 0 0 (mark_first m.Ellipsis)
        (on_then blocks pattern_mode (Some (mark m.Ellipsis)) (suc k) k (suc k) 0 0 0 (on_enter blocks pattern_mode (mark m.Ellipsis) k 0 0 small (λ n. refl))
        (λ _. runs_pure blocks pattern_mode k (suc k) 0 (ellipsis q) (omega arith)))
        (runs_pure blocks pattern_mode (suc k) (suc k) 0 q (omega arith)))

    joined_runs : (n : ℕ) (l : Pattern) (later : Pattern → Reader Pattern) → ((q : Pattern) → PatternRuns (suc k) (suc k) (later q)) → (o : Option Sym) (x : Option PatternOp)
        → pattern_turn n l o ≡ x → PatternRunsOn o (suc k) (suc k) (turned (λ op. enter >> (inner (pattern_right_rank op) >>= (λ r. later (joined op l r)))) l x)
    joined_runs n l later goes o None e = runs_on blocks pattern_mode o (suc k) (suc k) 0 0 (runs_pure blocks pattern_mode (suc k) (suc k) 0 l (omega arith))
    joined_runs n l later goes o (Some op) e =
        subst (λ y. PatternRunsOn y (suc k) (suc k) (enter >> (inner (pattern_right_rank op) >>= (λ r. later (joined op l r))))) (sym (pattern_turn_is n l o op e))
        (on_then blocks pattern_mode (Some (mark (pattern_mark op))) (suc k) k (suc k) 0 0 0 (on_enter blocks pattern_mode (mark (pattern_mark op)) k 0 0 small (λ i. on_joining blocks head i op))
        (λ _. runs_then blocks pattern_mode k k (suc k) 0 0 0 (here (pattern_right_rank op)) (λ r. record { runs = λ i less. (goes (joined op l r)).runs i (omega (arith, less)) })))

    pattern_climb_runs : (n r : ℕ) (l : Pattern) → PatternRuns (suc k) (suc k) (climb (pattern_turn n) pattern_right_rank joined inner r l)
    unfolding climb
    pattern_climb_runs n zero l = runs_pure blocks pattern_mode (suc k) (suc k) 0 l (omega arith)
    pattern_climb_runs n (suc r) l =
        runs_peek blocks pattern_mode (suc k) (suc k) 0 0 (λ o. joined_runs n l (climb (pattern_turn n) pattern_right_rank joined inner r) (λ q. pattern_climb_runs n r q) o (pattern_turn n l o) refl)

  pattern_runs : (fuel b n : ℕ) → b ≤ fuel → b ≤ suc heaviest → PatternRuns b b (pattern heaviest fuel n)
  unfolding pattern
  pattern_runs fuel zero n le small = record { runs = λ i less. absurd (omega (arith, less)) }
  pattern_runs zero (suc k) n le small = absurd (omega (arith, le))
  pattern_runs (suc fuel) (suc k) n le small =
      runs_then blocks pattern_mode (suc k) (suc k) (suc k) 0 0 0 (element_runs k (omega (arith, small)) (pattern heaviest fuel) (λ n. pattern_runs fuel k n (omega (arith, le)) (omega (arith, small))))
      (λ q. record {
        runs = λ i less.
            (pattern_climb_runs k (omega (arith, small)) (pattern heaviest fuel) (λ n. pattern_runs fuel k n (omega (arith, le)) (omega (arith, small))) n (suc i.room) q).runs i less;
      })

-- ---- outermost ones

ended : {A : Type 0} (blocks : ℕ) (mode : ℕ → ℕ → Mode) (c : ℕ) (start : Option State) (r : ℕ) (o : Outcome A) → After blocks mode c start 0 o → IsNesting (with_room r o) → start ≡ None
ended blocks mode c start r (Ok q) here h = absurd h
ended blocks mode c start r (Err e) here h = here h

pub whole_past : (blocks : ℕ) (mode : ℕ → ℕ → Mode) (kind : Kind) → Counts blocks kind mode → (i : Input) → IsNesting (whole heaviest kind i) → counted_from blocks (mode 0 0) i.rest ≡ None
unfolding whole
whole_past blocks mode kind c i h =
    ended blocks mode (suc heaviest) (counted_from blocks (mode 0 0) i.rest) i.room (expression kind (suc heaviest) loosest (at i.rest heaviest))
    ((expression_runs blocks mode kind c (suc heaviest) (suc heaviest) loosest 0 (omega arith) (omega arith)).runs (at i.rest heaviest) (omega arith)) h

pub whole_pattern_past : (blocks : ℕ) (head : Bool) (i : Input) → IsNesting (whole_pattern heaviest i) → counted_from blocks (at_mode.Pattern head 0) i.rest ≡ None
unfolding whole_pattern
whole_pattern_past blocks head i h =
    ended blocks (λ d n. at_mode.Pattern head n) (suc heaviest) (counted_from blocks (at_mode.Pattern head 0) i.rest) i.room (pattern heaviest (suc heaviest) pattern_loosest (at i.rest heaviest))
    ((pattern_runs blocks head (suc heaviest) (suc heaviest) pattern_loosest (omega arith) (omega arith)).runs (at i.rest heaviest) (omega arith)) h
