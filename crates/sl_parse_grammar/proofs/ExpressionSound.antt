-- What is read as an expression is a tree whose spelling was taken.
use Rattle.std.proofs.Common.{◌≡◌, ℕ, zero, suc, ◌≤◌, ◌&&◌, inl, inr, Bool, true, false, cond, nat_le, List, [], ◌∷◌, length, Option, None, Some, Ok, Err, refl, ap, ◌∙◌, subst, arith}
use Rattle.sl_ast.specs.Operators.{Kind, in_section, in_action, in_constraint, is_section, has_prefix, has_operator, rank, right_rank, left_rank, loosest, binary_mark, prefix_mark, takes_size, takes_bits, takes_drop, missing_function}
use Rattle.sl_ast.specs.Spelling.{name, spell_expression, spell_arguments, spell_more, spell_commas, spell_option, spell_space, spell_size}
use Rattle.sl_ast.specs.Symbols.{plain, quoted, Sym, number, word, mark}
use Rattle.sl_ast.specs.Trees.{Name, Expression, integer, named, paren, call, sized, dropped, bits, prefix, star, binary}
use Rattle.sl_ast.specs.Validity.{Binds, AllBind, IsSome, Each, IsExpression}
use Rattle.sl_ast.specs.Views.{arguments}
use Rattle.sl_ast.specs.declared.expressions.BinaryOp.{BinaryOp}
use Rattle.sl_ast.specs.declared.expressions.PrefixOp.{PrefixOp}
use Rattle.sl_ast.specs.declared.expressions.PrefixOp.TheVariants as p
use Rattle.sl_ast.specs.declared.symbols.Feature.{Feature}
use Rattle.sl_ast.specs.declared.symbols.Keyword.TheVariants as k
use Rattle.sl_ast.specs.declared.symbols.Mark.{Mark}
use Rattle.sl_ast.specs.declared.symbols.Mark.TheVariants as m
use Rattle.sl_parse_grammar.specs.Climb.{climb, turned}
use Rattle.sl_parse_grammar.specs.Expressions.{binary_of, operator_of, allowed, turn, bracketed, called, called_by, after_name, name_in, missing_name_in, atom, atom_by, size_behind, drop_behind, bits_behind, behind, postfix, prefixed, space_in, starred, prefix_by, tight, expression, with_room, whole}
use Rattle.sl_parse_grammar.specs.Lists.{separated}
use Rattle.sl_parse_grammar.specs.Reader.{Input, at, first, Outcome, Reader, and_then, pure, next, enter, expect, is_mark, refuse, integer_here, name_here, size_here, size_option}
use Rattle.sl_parse_grammar.proofs.ExpressionSteps.{Climbs}
use Rattle.sl_parse_grammar.proofs.ListsTaken.{cost_all, separated_ok}
use Rattle.sl_parse_grammar.proofs.Measures.{cost, costs, cost_is, space_cost}
use Rattle.sl_parse_grammar.proofs.Steps.{le_is}
use Rattle.sl_parse_grammar.proofs.Taken.{then_ok, along, look_ok, both_true, Took, mark_first, took_next, enter_ok, expect_ok, integer_ok, name_ok, size_ok, size_option_ok}

-- the tree's symbols and room were taken, and it binds at the rank or tighter
pub record Reads (kind : Kind) (n : ℕ) (i : Input) (e : Expression) (j : Input) : Type 0 where
  pub tokens : i.rest ≡ spell_expression e j.rest
  pub room : i.room ≡ cost e j.room
  pub binds : Binds kind e
  pub low : rank e ≤ n

abbrev pub Sound : Kind → ℕ → Reader Expression → Type 0
Sound kind n p = (i j : Input) (e : Expression) → p i ≡ Ok (e, j) → Reads kind n i e j

-- each reader of operands is sound
abbrev pub SoundInner : Kind → (ℕ → Reader Expression) → Type 0
SoundInner kind inner = (n : ℕ) → Sound kind n (inner n)

pub some_is : {A : Type 0} {a b : A} → ◌≡◌ {A = Option A} (Some a) (Some b) → a ≡ b
some_is e = cc

binary_is : (k : Mark) (op : BinaryOp) → binary_of k ≡ Some op → k ≡ binary_mark op
binary_is m.Star op e = ap binary_mark (some_is e)
binary_is m.Slash op e = ap binary_mark (some_is e)
binary_is m.Percent op e = ap binary_mark (some_is e)
binary_is m.SignedSlash op e = ap binary_mark (some_is e)
binary_is m.SignedPercent op e = ap binary_mark (some_is e)
binary_is m.Plus op e = ap binary_mark (some_is e)
binary_is m.Minus op e = ap binary_mark (some_is e)
binary_is m.ShiftLeft op e = ap binary_mark (some_is e)
binary_is m.ShiftRight op e = ap binary_mark (some_is e)
binary_is m.SignedShiftRight op e = ap binary_mark (some_is e)
binary_is m.Less op e = ap binary_mark (some_is e)
binary_is m.LessEqual op e = ap binary_mark (some_is e)
binary_is m.Greater op e = ap binary_mark (some_is e)
binary_is m.GreaterEqual op e = ap binary_mark (some_is e)
binary_is m.SignedLess op e = ap binary_mark (some_is e)
binary_is m.SignedLessEqual op e = ap binary_mark (some_is e)
binary_is m.SignedGreater op e = ap binary_mark (some_is e)
binary_is m.SignedGreaterEqual op e = ap binary_mark (some_is e)
binary_is m.EqualEqual op e = ap binary_mark (some_is e)
binary_is m.NotEqual op e = ap binary_mark (some_is e)
binary_is m.Ampersand op e = ap binary_mark (some_is e)
binary_is m.Caret op e = ap binary_mark (some_is e)
binary_is m.Bar op e = ap binary_mark (some_is e)
binary_is m.AndAnd op e = ap binary_mark (some_is e)
binary_is m.CaretCaret op e = ap binary_mark (some_is e)
binary_is m.BarBar op e = ap binary_mark (some_is e)
binary_is m.WordAnd op e = ap binary_mark (some_is e)
binary_is m.WordXor op e = ap binary_mark (some_is e)
binary_is m.WordOr op e = ap binary_mark (some_is e)
binary_is k op e = absurd (cc)

operator_is : (o : Option Sym) (op : BinaryOp) → operator_of o ≡ Some op → o ≡ Some (mark (binary_mark op))
operator_is (Some (mark k)) op e = ap (λ x. Some (mark x)) (binary_is k op e)
operator_is o op e = absurd (cc)

-- ---- operators of two operands

pub record MayFollow (kind : Kind) (n : ℕ) (l : Expression) (op : BinaryOp) : Type 0 where
  pub has : has_operator kind op ≡ true
  pub le : suc (right_rank op) ≤ n
  pub low : rank l ≤ left_rank op

allowed_test : (kind : Kind) (n : ℕ) (l : Expression) (a op : BinaryOp) (b : Bool)
    → (has_operator kind a && (nat_le (suc (right_rank a)) n && nat_le (rank l) (left_rank a))) ≡ b → cond {A = Option BinaryOp} b (Some a) None ≡ Some op → (a ≡ op) × MayFollow kind n l a
allowed_test kind n l a op true h e =
    let x = both_true (has_operator kind a) _ h in
    let y = both_true (nat_le (suc (right_rank a)) n) _ x.1 in
    (some_is e, record { has = x.0; le = le_is (suc (right_rank a)) n y.0; low = le_is (rank l) (left_rank a) y.1 })
allowed_test kind n l a op false h e = absurd (cc)

allowed_is : (kind : Kind) (n : ℕ) (l : Expression) (x : Option BinaryOp) (op : BinaryOp) → allowed kind n l x ≡ Some op → (x ≡ Some op) × MayFollow kind n l op
allowed_is kind n l None op e = absurd (cc)
allowed_is kind n l (Some a) op e =
    let h = allowed_test kind n l a op _ refl e in
    (ap (λ x. Some x) h.0, subst (λ x. MayFollow kind n l x) h.0 h.1)

pub turn_ok : (kind : Kind) (n : ℕ) (l : Expression) (o : Option Sym) (op : BinaryOp) → turn kind n l o ≡ Some op → (o ≡ Some (mark (binary_mark op))) × MayFollow kind n l op
unfolding turn
turn_ok kind n l o op e = let h = allowed_is kind n l (operator_of o) op e in (operator_is o op h.0, h.1)

-- what a loop took beyond its first operand
record Grew (kind : Kind) (n : ℕ) (l : Expression) (i : Input) (e : Expression) (j : Input) : Type 0 where
  tokens : spell_expression l i.rest ≡ spell_expression e j.rest
  room : cost l i.room ≡ cost e j.room
  binds : Binds kind e
  low : rank e ≤ n

stays : (kind : Kind) (n : ℕ) (l : Expression) (i : Input) (e : Expression) (j : Input) → Binds kind l → rank l ≤ n → ◌≡◌ {A = Outcome Expression} (Ok (l, i)) (Ok (e, j)) → Grew kind n l i e j
stays kind n l i e j binds low h = along (λ x k. Grew kind n l i x k) l e i j h (record { tokens = refl; room = refl; binds = binds; low = low })

turned_ok : (kind : Kind) (k n m : ℕ) → SoundInner kind (expression kind k) → (l : Expression) (i j : Input) (e : Expression) → Binds kind l → rank l ≤ n
    → ((l : Expression) (i : Input) → Binds kind l → rank l ≤ n → Climbs kind k n m l i ≡ Ok (e, j) → Grew kind n l i e j)
    → (x : Option BinaryOp) → turn kind n l (first i.rest) ≡ x
    → turned (λ op i. and_then (enter i) (λ _ a. and_then (expression kind k (right_rank op) a) (λ r b. Climbs kind k n m (binary op l r) b))) l x i ≡ Ok (e, j)
    → Grew kind n l i e j
turned_ok kind k n m sound l i j e binds low ih None is h = stays kind n l i e j binds low h
turned_ok kind k n m sound l i j e binds low ih (Some op) is h =
    let may = turn_ok kind n l (first i.rest) op is in
    let a = then_ok (enter i) _ e j h in
    let b = then_ok (expression kind k (right_rank op) a.1) _ e j a.3 in
    let entered = enter_ok i a.1 (mark (binary_mark op)) a.0 may.0 a.2 in
    let read = sound (right_rank op) a.1 b.1 b.0 b.2 in
    let le = may.1.le in
    let later = ih (binary op l b.0) b.1 (may.1.has, may.1.low, read.low, binds, read.binds) (omega arith) b.3 in
    record {
      tokens = ap (spell_expression l) (entered.tokens ∙ ap (λ xs. mark (binary_mark op) ∷ xs) read.tokens) ∙ later.tokens;
      room = ap (cost l) (entered.room ∙ ap suc read.room) ∙ later.room;
      binds = later.binds;
      low = later.low;
    }

climb_ok : (kind : Kind) (k n m : ℕ) → SoundInner kind (expression kind k) → (l : Expression) (i j : Input) (e : Expression) → Binds kind l → rank l ≤ n
    → Climbs kind k n m l i ≡ Ok (e, j) → Grew kind n l i e j
unfolding climb
climb_ok kind k n zero sound l i j e binds low h = stays kind n l i e j binds low h
climb_ok kind k n (suc m) sound l i j e binds low h =
    turned_ok kind k n m sound l i j e binds low (λ l' i' b r f. climb_ok kind k n m sound l' i' j e b r f) (turn kind n l (first i.rest)) refl h

-- ---- atoms

bracketed_ok : (kind : Kind) (inner : ℕ → Reader Expression) → SoundInner kind inner → (i j : Input) (e : Expression) → first i.rest ≡ Some (mark m.Open) → bracketed kind inner i ≡ Ok (e, j)
    → Reads kind 0 i e j
unfolding bracketed
bracketed_ok kind inner sound i j e is h =
    let a = then_ok (enter i) _ e j h in
    let b = then_ok (inner loosest a.1) _ e j a.3 in
    let c = then_ok (expect m.Close b.1) _ e j b.3 in
    let opened = enter_ok i a.1 (mark m.Open) a.0 is a.2 in
    let read = sound loosest a.1 b.1 b.0 b.2 in
    let closed = expect_ok m.Close b.1 c.1 c.0 c.2 in
    along (λ x k. Reads kind 0 i x k) (paren b.0) e c.1 j c.3 (record {
      tokens = opened.tokens ∙ ap (λ xs. mark m.Open ∷ xs) (read.tokens ∙ ap (spell_expression b.0) closed.tokens);
      room = opened.room ∙ ap suc (read.room ∙ ap (cost b.0) closed.room);
      binds = read.binds;
      low = omega arith;
    })

pub commas_are : (es : List Expression) (rest : List Sym) → spell_commas spell_expression es rest ≡ spell_more (arguments es) rest
commas_are [] rest = refl
commas_are (e ∷ es) rest = ap (λ xs. mark m.Comma ∷ spell_expression e xs) (commas_are es rest)

costs_same : (es : List Expression) (s : ℕ) → cost_all cost es s ≡ costs (arguments es) s
costs_same [] s = refl
costs_same (e ∷ es) s = ap (cost e) (costs_same es s)

all_bind : (kind : Kind) (es : List Expression) → Each (Binds kind) es → AllBind kind (arguments es)
all_bind kind [] h = tt
all_bind kind (e ∷ es) h = (h.0, all_bind kind es h.1)

-- what stands between the brackets of a call
pub record ReadsArguments (kind : Kind) (i : Input) (es : List Expression) (j : Input) : Type 0 where
  pub tokens : i.rest ≡ spell_arguments (arguments es) j.rest
  pub room : i.room ≡ costs (arguments es) j.room
  pub some : IsSome (arguments es)
  pub binds : AllBind kind (arguments es)

pub arguments_ok : (kind : Kind) (inner : ℕ → Reader Expression) → SoundInner kind inner → (i j : Input) (es : List Expression) → separated (inner loosest) i ≡ Ok (es, j)
    → ReadsArguments kind i es j
arguments_ok kind inner sound i j es h =
    let took = separated_ok spell_expression cost (Binds kind) (inner loosest)
    (λ k l e f. (let read = sound loosest k l e f in record { tokens = read.tokens; room = read.room; good = read.binds })) (suc (length i.rest)) [] i j es h in
    subst (λ ds. ReadsArguments kind i ds j) took.whole (record {
      tokens = took.tokens ∙ ap (spell_expression took.head) (commas_are took.tail j.rest);
      room = took.room ∙ ap (cost took.head) (costs_same took.tail j.room);
      some = tt;
      binds = (took.good, all_bind kind took.tail took.goods);
    })

called_ok : (inner : ℕ → Reader Expression) → SoundInner in_section inner → (w : Name) (i k j : Input) (e : Expression) → Took i (name w) k → missing_function w ≡ None
    → first k.rest ≡ Some (mark m.Open) → called in_section inner w k ≡ Ok (e, j) → Reads in_section 0 i e j
unfolding called
called_ok inner sound w i k j e at_name known is h =
    let a = then_ok (enter k) _ e j h in
    let b = then_ok (separated (inner loosest) a.1) _ e j a.3 in
    let c = then_ok (expect m.Close b.1) _ e j b.3 in
    let opened = enter_ok k a.1 (mark m.Open) a.0 is a.2 in
    let read = arguments_ok in_section inner sound a.1 b.1 b.0 b.2 in
    let closed = expect_ok m.Close b.1 c.1 c.0 c.2 in
    along (λ x l. Reads in_section 0 i x l) (call w (arguments b.0)) e c.1 j c.3 (record {
      tokens = at_name.tokens ∙ ap (λ xs. name w ∷ xs) (opened.tokens ∙ ap (λ xs. mark m.Open ∷ xs) (read.tokens ∙ ap (spell_arguments (arguments b.0)) closed.tokens));
      room = at_name.room ∙ opened.room ∙ ap suc (read.room ∙ ap (costs (arguments b.0)) closed.room);
      binds = (refl, known, read.some, read.binds);
      low = omega arith;
    })

called_by_ok : (inner : ℕ → Reader Expression) → SoundInner in_section inner → (w : Name) (i k j : Input) (e : Expression) → Took i (name w) k
    → first k.rest ≡ Some (mark m.Open) → (x : Option Feature) → missing_function w ≡ x → called_by in_section inner w x k ≡ Ok (e, j) → Reads in_section 0 i e j
called_by_ok inner sound w i k j e at_name is None known h = called_ok inner sound w i k j e at_name known is h
called_by_ok inner sound w i k j e at_name is (Some feature) known h = absurd (cc)

after_name_ok : (inner : ℕ → Reader Expression) → SoundInner in_section inner → (w : Name) (i k j : Input) (e : Expression) → Took i (name w) k
    → after_name in_section inner w k ≡ Ok (e, j) → Reads in_section 0 i e j
unfolding after_name
after_name_ok inner sound w i k j e took h = elim (look_ok (is_mark m.Open) _ _ k (Ok (e, j)) h) [
  | inl f ↦ called_by_ok inner sound w i k j e took (mark_first m.Open (first k.rest) f.0) (missing_function w) refl f.1
  | inr f ↦ along (λ x l. Reads in_section 0 i x l) (named w) e k j f.1 (record { tokens = took.tokens; room = took.room; binds = refl; low = omega arith })
]

name_in_ok : (kind : Kind) (inner : ℕ → Reader Expression) → SoundInner kind inner → (w : Name) (i j : Input) (e : Expression) → first i.rest ≡ Some (name w)
    → name_in kind inner kind w i ≡ Ok (e, j) → Reads kind 0 i e j
name_in_ok in_section inner sound w i j e is h = after_name_ok inner sound w i (next i) j e (took_next i (name w) is) h
name_in_ok in_action inner sound w i j e is h =
    let took = took_next i (name w) is in
    along (λ x l. Reads in_action 0 i x l) (named w) e (next i) j h (record { tokens = took.tokens; room = took.room; binds = refl; low = omega arith })
name_in_ok in_constraint inner sound w i j e is h = absurd (cc)

missing_name_ok : (kind : Kind) (inner : ℕ → Reader Expression) (i j : Input) (e : Expression) → missing_name_in kind inner kind i ≡ Ok (e, j) → Reads kind 0 i e j
missing_name_ok in_section inner i j e h = absurd (cc)
missing_name_ok in_action inner i j e h = absurd (cc)
missing_name_ok in_constraint inner i j e h = absurd (cc)

atom_by_ok : (kind : Kind) (inner : ℕ → Reader Expression) → SoundInner kind inner → (i j : Input) (e : Expression) (o : Option Sym) → first i.rest ≡ o
    → atom_by kind inner o i ≡ Ok (e, j) → Reads kind 0 i e j
atom_by_ok kind inner sound i j e (Some (number n)) is h =
    let took = took_next i (number n) is in
    along (λ x l. Reads kind 0 i x l) (integer n) e (next i) j h (record { tokens = took.tokens; room = took.room; binds = tt; low = omega arith })
atom_by_ok kind inner sound i j e (Some (word (plain w))) is h = name_in_ok kind inner sound w i j e is h
atom_by_ok kind inner sound i j e (Some (word (quoted k.InstNext2))) is h = missing_name_ok kind inner i j e h
atom_by_ok kind inner sound i j e (Some (mark m.Open)) is h = bracketed_ok kind inner sound i j e is h
atom_by_ok kind inner sound i j e o is h = absurd (cc)

pub atom_ok : (kind : Kind) (inner : ℕ → Reader Expression) → SoundInner kind inner → Sound kind 0 (atom kind inner)
unfolding atom
atom_ok kind inner sound i j e h = atom_by_ok kind inner sound i j e (first i.rest) refl h

-- ---- what stands behind an atom

size_behind_ok : (i k j : Input) (e u : Expression) → Reads in_section 0 i e k → first k.rest ≡ Some (mark m.Colon) → takes_size e ≡ true
    → size_behind e k ≡ Ok (u, j) → Reads in_section 0 i u j
unfolding size_behind
size_behind_ok i k j e u read is takes h =
    let a = then_ok (size_here (next k)) _ u j h in
    let colon = took_next k (mark m.Colon) is in
    let size = size_ok (next k) a.1 a.0 a.2 in
    along (λ x l. Reads in_section 0 i x l) (sized e a.0) u a.1 j a.3 (record {
      tokens = read.tokens ∙ ap (spell_expression e) (colon.tokens ∙ ap (λ xs. mark m.Colon ∷ xs) size.took.tokens);
      room = read.room ∙ ap (cost e) (colon.room ∙ size.took.room);
      binds = (refl, takes, size.fits, read.binds);
      low = omega arith;
    })

drop_behind_ok : (i k j : Input) (e u : Expression) → Reads in_section 0 i e k → first k.rest ≡ Some (mark m.Open) → takes_drop e ≡ true
    → drop_behind e k ≡ Ok (u, j) → Reads in_section 0 i u j
unfolding drop_behind
drop_behind_ok i k j e u read is takes h =
    let a = then_ok (enter k) _ u j h in
    let b = then_ok (integer_here a.1) _ u j a.3 in
    let c = then_ok (expect m.Close b.1) _ u j b.3 in
    let opened = enter_ok k a.1 (mark m.Open) a.0 is a.2 in
    let count = integer_ok a.1 b.1 b.0 b.2 in
    let closed = expect_ok m.Close b.1 c.1 c.0 c.2 in
    along (λ x l. Reads in_section 0 i x l) (dropped e b.0) u c.1 j c.3 (record {
      tokens = read.tokens ∙ ap (spell_expression e) (opened.tokens ∙ ap (λ xs. mark m.Open ∷ xs) (count.tokens ∙ ap (λ xs. number b.0 ∷ xs) closed.tokens));
      room = read.room ∙ ap (cost e) (opened.room ∙ ap suc (count.room ∙ closed.room));
      binds = (refl, takes, read.binds);
      low = omega arith;
    })

bits_behind_ok : (i k j : Input) (e u : Expression) → Reads in_section 0 i e k → first k.rest ≡ Some (mark m.OpenBracket) → takes_bits e ≡ true
    → bits_behind e k ≡ Ok (u, j) → Reads in_section 0 i u j
unfolding bits_behind
bits_behind_ok i k j e u read is takes h =
    let a = then_ok (enter k) _ u j h in
    let b = then_ok (integer_here a.1) _ u j a.3 in
    let c = then_ok (expect m.Comma b.1) _ u j b.3 in
    let d = then_ok (integer_here c.1) _ u j c.3 in
    let f = then_ok (expect m.CloseBracket d.1) _ u j d.3 in
    let opened = enter_ok k a.1 (mark m.OpenBracket) a.0 is a.2 in
    let low = integer_ok a.1 b.1 b.0 b.2 in
    let comma = expect_ok m.Comma b.1 c.1 c.0 c.2 in
    let count = integer_ok c.1 d.1 d.0 d.2 in
    let closed = expect_ok m.CloseBracket d.1 f.1 f.0 f.2 in
    along (λ x l. Reads in_section 0 i x l) (bits e b.0 d.0) u f.1 j f.3 (record {
      tokens = read.tokens ∙ ap (spell_expression e) (opened.tokens ∙ ap (λ xs. mark m.OpenBracket ∷ xs) (low.tokens ∙ ap (λ xs. number b.0 ∷ xs)
          (comma.tokens ∙ ap (λ xs. mark m.Comma ∷ xs) (count.tokens ∙ ap (λ xs. number d.0 ∷ xs) closed.tokens))));
      room = read.room ∙ ap (cost e) (opened.room ∙ ap suc (low.room ∙ comma.room ∙ count.room ∙ closed.room));
      binds = (refl, takes, read.binds);
      low = omega arith;
    })

-- an atom, which may be followed by what its shape allows
behind_ok : (i k j : Input) (e u : Expression) → Reads in_section 0 i e k → behind e k ≡ Ok (u, j) → Reads in_section 0 i u j
unfolding behind
behind_ok i k j e u read h = elim (look_ok (λ o. is_mark m.Colon o && takes_size e) _ _ k (Ok (u, j)) h) [
  | inl f ↦ let t = both_true (is_mark m.Colon (first k.rest)) (takes_size e) f.0 in size_behind_ok i k j e u read (mark_first m.Colon (first k.rest) t.0) t.1 f.1
  | inr f ↦ elim (look_ok (λ o. is_mark m.Open o && takes_drop e) _ _ k (Ok (u, j)) f.1) [
    | inl g ↦ let t = both_true (is_mark m.Open (first k.rest)) (takes_drop e) g.0 in drop_behind_ok i k j e u read (mark_first m.Open (first k.rest) t.0) t.1 g.1
    | inr g ↦ elim (look_ok (λ o. is_mark m.OpenBracket o && takes_bits e) _ _ k (Ok (u, j)) g.1) [
      | inl d ↦ let t = both_true (is_mark m.OpenBracket (first k.rest)) (takes_bits e) d.0 in bits_behind_ok i k j e u read (mark_first m.OpenBracket (first k.rest) t.0) t.1 d.1
      | inr d ↦ along (λ x l. Reads in_section 0 i x l) e u k j d.1 read
    ]
  ]
]

behind_in : (kind : Kind) (i k j : Input) (e u : Expression) → Reads kind 0 i e k
    → cond {A = Reader Expression} (is_section kind) (behind e) (pure e) k ≡ Ok (u, j) → Reads kind 0 i u j
behind_in in_section i k j e u read h = behind_ok i k j e u read h
behind_in in_action i k j e u read h = along (λ x l. Reads in_action 0 i x l) e u k j h read
behind_in in_constraint i k j e u read h = along (λ x l. Reads in_constraint 0 i x l) e u k j h read

postfix_ok : (kind : Kind) (inner : ℕ → Reader Expression) → SoundInner kind inner → Sound kind 0 (postfix kind inner)
unfolding postfix
postfix_ok kind inner sound i j u h =
    let a = then_ok (atom kind inner i) _ u j h in
    behind_in kind i a.1 j a.0 u (atom_ok kind inner sound i a.1 a.0 a.2) a.3

-- ---- prefixes

prefixed_ok : (kind : Kind) (inner : ℕ → Reader Expression) → SoundInner kind inner → (op : PrefixOp) → has_prefix kind op ≡ true → (i j : Input) (e : Expression)
    → first i.rest ≡ Some (mark (prefix_mark op)) → prefixed kind inner op i ≡ Ok (e, j) → Reads kind 0 i e j
unfolding prefixed
prefixed_ok kind inner sound op has i j e is h =
    let a = then_ok (enter i) _ e j h in
    let b = then_ok (inner 0 a.1) _ e j a.3 in
    let entered = enter_ok i a.1 (mark (prefix_mark op)) a.0 is a.2 in
    let read = sound 0 a.1 b.1 b.0 b.2 in
    along (λ x l. Reads kind 0 i x l) (prefix op b.0) e b.1 j b.3 (record {
      tokens = entered.tokens ∙ ap (λ xs. mark (prefix_mark op) ∷ xs) read.tokens;
      room = entered.room ∙ ap suc read.room;
      binds = (has, read.low, read.binds);
      low = omega arith;
    })

-- the space of a star form inside an expression
pub record TookSpace (i : Input) (place : Option Name) (j : Input) : Type 0 where
  pub tokens : i.rest ≡ spell_option spell_space place j.rest
  pub room : i.room ≡ space_cost place j.room

pub space_ok : (i j : Input) (place : Option Name) → space_in i ≡ Ok (place, j) → TookSpace i place j
unfolding space_in
space_ok i j place h = elim (look_ok (is_mark m.OpenBracket) _ _ i (Ok (place, j)) h) [
  | inl f ↦
      let z = then_ok (and_then (enter i) (λ _ a. and_then (name_here a) (λ w b. and_then (expect m.CloseBracket b) (λ _ c. Ok (w, c))))) _ place j f.1 in
      let a = then_ok (enter i) _ z.0 z.1 z.2 in
      let b = then_ok (name_here a.1) _ z.0 z.1 a.3 in
      let c = then_ok (expect m.CloseBracket b.1) _ z.0 z.1 b.3 in
      let opened = enter_ok i a.1 (mark m.OpenBracket) a.0 (mark_first m.OpenBracket (first i.rest) f.0) a.2 in
      let w = name_ok a.1 b.1 b.0 b.2 in
      let closed = expect_ok m.CloseBracket b.1 c.1 c.0 c.2 in
      along (λ x l. TookSpace i x l) (Some z.0) place z.1 j z.3 (along (λ v l. TookSpace i (Some v) l) b.0 z.0 c.1 z.1 c.3 (record {
        tokens = opened.tokens ∙ ap (λ xs. mark m.OpenBracket ∷ xs) (w.tokens ∙ ap (λ xs. name b.0 ∷ xs) closed.tokens);
        room = opened.room ∙ ap suc (w.room ∙ closed.room);
      }))
  | inr f ↦ along (λ x l. TookSpace i x l) None place i j f.1 (record { tokens = refl; room = refl })
]

starred_ok : (kind : Kind) (inner : ℕ → Reader Expression) → SoundInner kind inner → is_section kind ≡ true → (i j : Input) (e : Expression)
    → first i.rest ≡ Some (mark m.Star) → starred kind inner i ≡ Ok (e, j) → Reads kind 0 i e j
unfolding starred
starred_ok kind inner sound section i j e is h =
    let a = then_ok (enter i) _ e j h in
    let b = then_ok (space_in a.1) _ e j a.3 in
    let c = then_ok (size_option b.1) _ e j b.3 in
    let d = then_ok (inner 0 c.1) _ e j c.3 in
    let entered = enter_ok i a.1 (mark m.Star) a.0 is a.2 in
    let place = space_ok a.1 b.1 b.0 b.2 in
    let width = size_option_ok b.1 c.1 c.0 c.2 in
    let read = sound 0 c.1 d.1 d.0 d.2 in
    along (λ x l. Reads kind 0 i x l) (star b.0 c.0 d.0) e d.1 j d.3 (record {
      tokens = entered.tokens ∙ ap (λ xs. mark m.Star ∷ xs) (place.tokens ∙ ap (spell_option spell_space b.0) (width.tokens ∙ ap (spell_option spell_size c.0) read.tokens));
      room = entered.room ∙ ap suc (place.room ∙ ap (space_cost b.0) (width.room ∙ read.room));
      binds = (section, width.good, read.low, read.binds);
      low = omega arith;
    })

-- a form that an expression of a section alone has
in_section_ok : (kind : Kind) (p : Reader Expression) (i j : Input) (e : Expression) → (is_section kind ≡ true → p i ≡ Ok (e, j) → Reads kind 0 i e j)
    → cond {A = Reader Expression} (is_section kind) p refuse i ≡ Ok (e, j) → Reads kind 0 i e j
in_section_ok in_section p i j e sound h = sound refl h
in_section_ok in_action p i j e sound h = absurd (cc)
in_section_ok in_constraint p i j e sound h = absurd (cc)

prefix_by_ok : (kind : Kind) (inner : ℕ → Reader Expression) → SoundInner kind inner → (i j : Input) (e : Expression) (o : Option Sym) → first i.rest ≡ o
    → prefix_by kind inner o i ≡ Ok (e, j) → Reads kind 0 i e j
prefix_by_ok kind inner sound i j e (Some (mark m.Minus)) is h = prefixed_ok kind inner sound p.Negate refl i j e is h
prefix_by_ok kind inner sound i j e (Some (mark m.Tilde)) is h = prefixed_ok kind inner sound p.Complement refl i j e is h
prefix_by_ok kind inner sound i j e (Some (mark m.Exclamation)) is h =
    in_section_ok kind (prefixed kind inner p.Not) i j e (λ section f. prefixed_ok kind inner sound p.Not section i j e is f) h
prefix_by_ok kind inner sound i j e (Some (mark m.Star)) is h =
    in_section_ok kind (starred kind inner) i j e (λ section f. starred_ok kind inner sound section i j e is f) h
prefix_by_ok kind inner sound i j e (Some (mark m.Ampersand)) is h = absurd (cc)
prefix_by_ok kind inner sound i j e o is h = postfix_ok kind inner sound i j e h

pub tight_ok : (kind : Kind) (inner : ℕ → Reader Expression) → SoundInner kind inner → Sound kind 0 (tight kind inner)
unfolding tight
tight_ok kind inner sound i j e h = prefix_by_ok kind inner sound i j e (first i.rest) refl h

-- ---- whole expressions

pub sound : (kind : Kind) (k n : ℕ) → Sound kind n (expression kind k n)
unfolding expression
sound kind zero n i j e h = absurd (cc)
sound kind (suc k) n i j e h =
    let a = then_ok (tight kind (expression kind k) i) _ e j h in
    let read = tight_ok kind (expression kind k) (sound kind k) i a.1 a.0 a.2 in
    let low = read.low in
    let grown = climb_ok kind k n (suc a.1.room) (sound kind k) a.0 a.1 j e read.binds (omega arith) a.3 in
    record { tokens = read.tokens ∙ grown.tokens; room = read.room ∙ grown.room; binds = grown.binds; low = grown.low }

-- ---- within a limit of operators and opening brackets

module _ (most : ℕ) where
  -- what was read as an expression that stands in no other
  pub record ReadsWhole (kind : Kind) (i : Input) (e : Expression) (j : Input) : Type 0 where
    pub tokens : i.rest ≡ spell_expression e j.rest
    pub room : i.room ≡ j.room
    pub is : IsExpression most kind e

  with_room_ok : (kind : Kind) (i j : Input) (e : Expression) (o : Outcome Expression) → expression kind (suc most) loosest (at i.rest most) ≡ o
      → with_room i.room o ≡ Ok (e, j) → ReadsWhole kind i e j
  with_room_ok kind i j e (Ok (d, k)) is h =
      let read = sound kind (suc most) loosest (at i.rest most) k d is in
      let spent = read.room in
      along (λ x l. ReadsWhole kind i x l) d e (at k.rest i.room) j h (record { tokens = read.tokens; room = refl; is = (read.binds, omega (arith, cost_is d k.room)) })
  with_room_ok kind i j e (Err x) is h = absurd (cc)

  pub whole_ok : (kind : Kind) (i j : Input) (e : Expression) → whole most kind i ≡ Ok (e, j) → ReadsWhole kind i e j
  unfolding whole
  whole_ok kind i j e h = with_room_ok kind i j e (expression kind (suc most) loosest (at i.rest most)) refl h
