-- One lemma for each shape of an expression, from what is known of its parts.
use Rattle.std.proofs.Common.{◌≡◌, ℕ, zero, suc, ◌<◌, ◌≤◌, ◌==◌, ◌&&◌, Bool, true, false, cond, nat_le, List, [], ◌∷◌, length, Option, None, Some, Ok, refl, arith}
use Rattle.sl_ast.specs.Operators.{Kind, in_section, in_action, in_constraint, is_section, has_names, has_prefix, has_operator, rank, right_rank, left_rank, loosest, binary_mark, prefix_mark, takes_size, takes_bits, takes_drop, missing_function}
use Rattle.sl_ast.specs.Spelling.{name, spell_expression, spell_option, spell_space, spell_size}
use Rattle.sl_ast.specs.Symbols.{Sym, number, mark}
use Rattle.sl_ast.specs.Trees.{Name, Expression, integer, named, paren, call, sized, dropped, bits, prefix, star, binary}
use Rattle.sl_ast.specs.Validity.{IfWritten, IsWidth}
use Rattle.sl_ast.specs.Views.{arguments}
use Rattle.sl_ast.specs.declared.expressions.BinaryOp.{BinaryOp}
use Rattle.sl_ast.specs.declared.expressions.BinaryOp.TheVariants as b
use Rattle.sl_ast.specs.declared.expressions.PrefixOp.{PrefixOp}
use Rattle.sl_ast.specs.declared.expressions.PrefixOp.TheVariants as p
use Rattle.sl_ast.specs.declared.symbols.Mark.TheVariants as m
use Rattle.sl_parse_grammar.specs.Climb.{climb}
use Rattle.sl_parse_grammar.specs.Expressions.{operator_of, allowed, turn, bracketed, called, after_name, atom, size_behind, drop_behind, bits_behind, behind, postfix, prefixed, space_in, starred, tight, expression}
use Rattle.sl_parse_grammar.specs.Lists.{separated_from}
use Rattle.sl_parse_grammar.specs.Reader.{Input, at, first, Reader, enter, expect, same_mark, is_mark, integer_here, name_here}
use Rattle.sl_parse_grammar.proofs.Measures.{space_cost}
use Rattle.sl_parse_grammar.proofs.Steps.{le_true, le_false, equal_is, size_is, size_option_is}

-- ---- what follows a tree

-- what follows can't go on with a size, bytes that are dropped, bits or arguments
pub record Closed (rest : List Sym) : Type 0 where
  pub no_colon : is_mark m.Colon (first rest) ≡ false
  pub no_open : is_mark m.Open (first rest) ≡ false
  pub no_bracket : is_mark m.OpenBracket (first rest) ≡ false

-- nor with an operator that binds at this rank or tighter
pub record Stops (kind : Kind) (n : ℕ) (rest : List Sym) : Type 0 where
  pub closed : is_section kind ≡ true → Closed rest
  pub quiet : (j : ℕ) (l : Expression) → j ≤ n → turn kind j l (first rest) ≡ None

pub stops_less : (kind : Kind) (n k : ℕ) (rest : List Sym) → k ≤ n → Stops kind n rest → Stops kind k rest
stops_less kind n k rest le s = record { closed = s.closed; quiet = λ j l h. s.quiet j l (omega arith) }

pub no_turn : (kind : Kind) (n : ℕ) (l : Expression) (o : Option Sym) → operator_of o ≡ None → turn kind n l o ≡ None
unfolding turn
no_turn kind n l o h = rw h refl

pub stops_close : (kind : Kind) (n : ℕ) (rest : List Sym) → Stops kind n (mark m.Close ∷ rest)
unfolding same_mark
stops_close kind n rest =
    record { closed = λ _. record { no_colon = refl; no_open = refl; no_bracket = refl }; quiet = λ j l h. no_turn kind j l (Some (mark m.Close)) refl }

pub stops_comma : (kind : Kind) (n : ℕ) (rest : List Sym) → Stops kind n (mark m.Comma ∷ rest)
unfolding same_mark
stops_comma kind n rest =
    record { closed = λ _. record { no_colon = refl; no_open = refl; no_bracket = refl }; quiet = λ j l h. no_turn kind j l (Some (mark m.Comma)) refl }

pub operator_is : (op : BinaryOp) → operator_of (Some (mark (binary_mark op))) ≡ Some op
operator_is b.Multiply = refl
operator_is b.Divide = refl
operator_is b.Remainder = refl
operator_is b.SignedDivide = refl
operator_is b.SignedRemainder = refl
operator_is b.Add = refl
operator_is b.Subtract = refl
operator_is b.ShiftLeft = refl
operator_is b.ShiftRight = refl
operator_is b.SignedShiftRight = refl
operator_is b.Less = refl
operator_is b.LessEqual = refl
operator_is b.Greater = refl
operator_is b.GreaterEqual = refl
operator_is b.SignedLess = refl
operator_is b.SignedLessEqual = refl
operator_is b.SignedGreater = refl
operator_is b.SignedGreaterEqual = refl
operator_is b.Equal = refl
operator_is b.NotEqual = refl
operator_is b.And = refl
operator_is b.Xor = refl
operator_is b.Or = refl
operator_is b.BooleanAnd = refl
operator_is b.BooleanXor = refl
operator_is b.BooleanOr = refl
operator_is b.WordAnd = refl
operator_is b.WordXor = refl
operator_is b.WordOr = refl

-- no mark of an operator of two operands goes on with an atom
pub closed_op : (op : BinaryOp) (rest : List Sym) → Closed (mark (binary_mark op) ∷ rest)
unfolding same_mark
closed_op b.Multiply rest = record { no_colon = refl; no_open = refl; no_bracket = refl }
closed_op op rest = record { no_colon = refl; no_open = refl; no_bracket = refl }

allowed_late : (kind : Kind) (n : ℕ) (l : Expression) (op : BinaryOp) → n < suc (right_rank op) → allowed kind n l (Some op) ≡ None
allowed_late kind n l op h = by_test (has_operator kind op)
  where
    by_test : (t : Bool) → cond (t && (nat_le (suc (right_rank op)) n && nat_le (rank l) (left_rank op))) (Some op) None ≡ None
    by_test true = rw (le_false (suc (right_rank op)) n h) refl
    by_test false = refl

-- an operator stops what binds tighter
pub stops_op : (kind : Kind) (op : BinaryOp) (rest : List Sym) → Stops kind (right_rank op) (mark (binary_mark op) ∷ rest)
unfolding turn
stops_op kind op rest =
    record { closed = λ _. closed_op op rest; quiet = λ j l h. rw (operator_is op) (allowed_late kind j l op (omega arith)) }

pub turn_is : (kind : Kind) (n : ℕ) (l : Expression) (op : BinaryOp) → has_operator kind op ≡ true → suc (right_rank op) ≤ n → rank l ≤ left_rank op
    → turn kind n l (Some (mark (binary_mark op))) ≡ Some op
unfolding turn
turn_is kind n l op has le low = rw (operator_is op, has, le_true (suc (right_rank op)) n le, le_true (rank l) (left_rank op) low) refl

left_test : (q : ℕ) (t : Bool) → (t ≡ true → q ≡ 3) → cond t 3 (suc q) ≤ suc q
left_test q true h = let e = h refl in omega arith
left_test q false h = omega arith

-- ---- the first symbol of a tree

pub record Begins (o : Option Sym) : Type 0 where
  pub no_colon : is_mark m.Colon o ≡ false
  pub no_bracket : is_mark m.OpenBracket o ≡ false
  pub no_close : is_mark m.Close o ≡ false

pub begins : (e : Expression) (rest : List Sym) → Begins (first (spell_expression e rest))
unfolding same_mark
begins (integer n) rest = record { no_colon = refl; no_bracket = refl; no_close = refl }
begins (named w) rest = record { no_colon = refl; no_bracket = refl; no_close = refl }
begins (paren e) rest = record { no_colon = refl; no_bracket = refl; no_close = refl }
begins (call w es) rest = record { no_colon = refl; no_bracket = refl; no_close = refl }
begins (sized e n) rest = begins e (mark m.Colon ∷ number n ∷ rest)
begins (dropped e n) rest = begins e (mark m.Open ∷ number n ∷ mark m.Close ∷ rest)
begins (bits e l c) rest = begins e (mark m.OpenBracket ∷ number l ∷ mark m.Comma ∷ number c ∷ mark m.CloseBracket ∷ rest)
begins (prefix p.Negate e) rest = record { no_colon = refl; no_bracket = refl; no_close = refl }
begins (prefix p.Complement e) rest = record { no_colon = refl; no_bracket = refl; no_close = refl }
begins (prefix p.Not e) rest = record { no_colon = refl; no_bracket = refl; no_close = refl }
begins (star place width e) rest = record { no_colon = refl; no_bracket = refl; no_close = refl }
begins (binary op l r) rest = begins l (mark (binary_mark op) ∷ spell_expression r rest)

-- an atom begins with no prefix
pub tight_is : (kind : Kind) (inner : ℕ → Reader Expression) (e : Expression) (rest : List Sym) (r : ℕ) → takes_size e ≡ true
    → tight kind inner (at (spell_expression e rest) r) ≡ postfix kind inner (at (spell_expression e rest) r)
unfolding tight
tight_is kind inner (integer n) rest r h = refl
tight_is kind inner (named w) rest r h = refl
tight_is kind inner (paren e) rest r h = refl
tight_is kind inner (call w es) rest r h = refl
tight_is kind inner e rest r h = absurd (cc)

-- ---- atoms

pub of_integer : (kind : Kind) (inner : ℕ → Reader Expression) (n : ℕ) (rest : List Sym) (s : ℕ) → atom kind inner (at (number n ∷ rest) s) ≡ Ok (integer n, at rest s)
unfolding atom
of_integer kind inner n rest s = refl

pub of_name : (kind : Kind) (inner : ℕ → Reader Expression) (w : Name) (rest : List Sym) (s : ℕ) → has_names kind ≡ true
    → (is_section kind ≡ true → is_mark m.Open (first rest) ≡ false) → atom kind inner (at (name w ∷ rest) s) ≡ Ok (named w, at rest s)
unfolding atom after_name
of_name in_section inner w rest s has no_open = rw (no_open refl) refl
of_name in_action inner w rest s has no_open = refl
of_name in_constraint inner w rest s has no_open = absurd (cc)

pub of_paren : (kind : Kind) (inner : ℕ → Reader Expression) (e : Expression) (xs rest : List Sym) (r s : ℕ) → inner loosest (at xs r) ≡ Ok (e, at (mark m.Close ∷ rest) s)
    → atom kind inner (at (mark m.Open ∷ xs) (suc r)) ≡ Ok (paren e, at rest s)
unfolding atom bracketed expect same_mark enter
of_paren kind inner e xs rest r s h = rw h refl

pub of_call : (kind : Kind) (inner : ℕ → Reader Expression) (w : Name) (es : List Expression) (xs rest : List Sym) (r s : ℕ) → is_section kind ≡ true → missing_function w ≡ None
    → separated_from (inner loosest) (suc (length xs)) [] (at xs r) ≡ Ok (es, at (mark m.Close ∷ rest) s)
    → atom kind inner (at (name w ∷ mark m.Open ∷ xs) (suc r)) ≡ Ok (call w (arguments es), at rest s)
unfolding atom after_name called expect same_mark enter
of_call in_section inner w es xs rest r s section known h = rw (known, h) refl
of_call in_action inner w es xs rest r s section known h = absurd (cc)
of_call in_constraint inner w es xs rest r s section known h = absurd (cc)

-- ---- what stands behind an atom

-- nothing
pub of_atom : (kind : Kind) (inner : ℕ → Reader Expression) (i : Input) (e : Expression) (rest : List Sym) (s : ℕ) → atom kind inner i ≡ Ok (e, at rest s)
    → (is_section kind ≡ true → Closed rest) → postfix kind inner i ≡ Ok (e, at rest s)
unfolding postfix behind
of_atom in_section inner i e rest s h closed = let c = closed refl in rw (h, c.no_colon, c.no_open, c.no_bracket) refl
of_atom in_action inner i e rest s h closed = rw h refl
of_atom in_constraint inner i e rest s h closed = rw h refl

pub of_sized : (inner : ℕ → Reader Expression) (i : Input) (e : Expression) (n : ℕ) (rest : List Sym) (s : ℕ)
    → atom in_section inner i ≡ Ok (e, at (mark m.Colon ∷ number n ∷ rest) s) → takes_size e ≡ true → IsWidth n
    → postfix in_section inner i ≡ Ok (sized e n, at rest s)
unfolding postfix behind same_mark size_behind
of_sized inner i e n rest s h takes fits = rw (h, takes, size_is n rest s fits) refl

pub of_dropped : (inner : ℕ → Reader Expression) (i : Input) (e : Expression) (n : ℕ) (rest : List Sym) (s : ℕ)
    → atom in_section inner i ≡ Ok (e, at (mark m.Open ∷ number n ∷ mark m.Close ∷ rest) (suc s)) → takes_drop e ≡ true
    → postfix in_section inner i ≡ Ok (dropped e n, at rest s)
unfolding postfix behind same_mark drop_behind integer_here expect enter
of_dropped inner i e n rest s h takes = rw (h, takes) refl

pub of_bits : (inner : ℕ → Reader Expression) (i : Input) (e : Expression) (l c : ℕ) (rest : List Sym) (s : ℕ)
    → atom in_section inner i ≡ Ok (e, at (mark m.OpenBracket ∷ number l ∷ mark m.Comma ∷ number c ∷ mark m.CloseBracket ∷ rest) (suc s)) → takes_bits e ≡ true
    → postfix in_section inner i ≡ Ok (bits e l c, at rest s)
unfolding postfix behind same_mark bits_behind integer_here expect enter
of_bits inner i e l c rest s h takes = rw (h, takes) refl

-- ---- prefixes

pub of_prefix : (kind : Kind) (inner : ℕ → Reader Expression) (op : PrefixOp) (e : Expression) (xs rest : List Sym) (r s : ℕ) → has_prefix kind op ≡ true
    → inner 0 (at xs r) ≡ Ok (e, at rest s) → tight kind inner (at (mark (prefix_mark op) ∷ xs) (suc r)) ≡ Ok (prefix op e, at rest s)
unfolding tight prefixed enter
of_prefix kind inner p.Negate e xs rest r s has h = rw h refl
of_prefix kind inner p.Complement e xs rest r s has h = rw h refl
of_prefix kind inner p.Not e xs rest r s has h = rw (has, h) refl

space_is : (place : Option Name) (rest : List Sym) (s : ℕ) → is_mark m.OpenBracket (first rest) ≡ false
    → space_in (at (spell_option spell_space place rest) (space_cost place s)) ≡ Ok (place, at rest s)
unfolding space_in same_mark enter name_here expect
space_is None rest s no_bracket = rw no_bracket refl
space_is (Some w) rest s no_bracket = refl

width_begins : (width : Option ℕ) (rest : List Sym) → is_mark m.OpenBracket (first rest) ≡ false → is_mark m.OpenBracket (first (spell_option spell_size width rest)) ≡ false
unfolding same_mark
width_begins None rest h = h
width_begins (Some n) rest h = refl

pub of_star : (kind : Kind) (inner : ℕ → Reader Expression) (place : Option Name) (width : Option ℕ) (e : Expression) (xs rest : List Sym) (r s : ℕ) → is_section kind ≡ true
    → IfWritten IsWidth width → Begins (first xs) → inner 0 (at xs r) ≡ Ok (e, at rest s)
    → tight kind inner (at (mark m.Star ∷ spell_option spell_space place (spell_option spell_size width xs)) (suc (space_cost place r))) ≡ Ok (star place width e, at rest s)
unfolding tight starred enter
of_star kind inner place width e xs rest r s section fits begins h =
    rw (section, space_is place (spell_option spell_size width xs) r (width_begins width xs begins.no_bracket), size_option_is width xs r fits begins.no_colon, h) refl

-- ---- operators of two operands

abbrev pub Climbs : Kind → ℕ → ℕ → ℕ → Expression → Reader Expression
Climbs kind k n m e = climb (turn kind n) right_rank binary (expression kind k) m e

pub climb_stops : (kind : Kind) (k n m : ℕ) (e : Expression) (rest : List Sym) (s : ℕ) → turn kind n e (first rest) ≡ None → Climbs kind k n m e (at rest s) ≡ Ok (e, at rest s)
unfolding climb
climb_stops kind k n zero e rest s h = refl
climb_stops kind k n (suc m) e rest s h = rw h refl

pub of_binary : (kind : Kind) (k n m : ℕ) (op : BinaryOp) (l r : Expression) (xs rest : List Sym) (t s : ℕ) → turn kind n l (Some (mark (binary_mark op))) ≡ Some op
    → expression kind k (right_rank op) (at xs t) ≡ Ok (r, at rest s)
    → Climbs kind k n (suc m) l (at (mark (binary_mark op) ∷ xs) (suc t)) ≡ Climbs kind k n m (binary op l r) (at rest s)
unfolding climb enter
of_binary kind k n m op l r xs rest t s allowed h = rw (allowed, h) refl

pub of_tight : (kind : Kind) (k n : ℕ) (i : Input) (e : Expression) (rest : List Sym) (s : ℕ) → tight kind (expression kind k) i ≡ Ok (e, at rest s)
    → expression kind (suc k) n i ≡ Climbs kind k n (suc s) e (at rest s)
unfolding expression
of_tight kind k n i e rest s h = rw h refl

pub left_le : (op : BinaryOp) → left_rank op ≤ suc (right_rank op)
left_le op = left_test (right_rank op) (right_rank op == 3) (λ h. equal_is (right_rank op) 3 h)
