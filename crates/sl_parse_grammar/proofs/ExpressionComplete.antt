-- What a tree of an expression spells is read as that tree.
use Rattle.std.proofs.Common.{◌≡◌, ℕ, zero, suc, ◌+◌, ◌-◌, ◌<◌, ◌≤◌, true, false, List, [], ◌∷◌, ◌++◌, length, Option, Ok, refl, ap, ◌∙◌, subst, arith, append_assoc}
use Rattle.sl_ast.specs.Operators.{Kind, in_section, in_action, in_constraint, is_section, rank, right_rank, left_rank, loosest, binary_mark, takes_size, takes_bits, takes_drop}
use Rattle.sl_ast.specs.Spelling.{spell_expression, spell_arguments}
use Rattle.sl_ast.specs.Symbols.{Sym, number, mark}
use Rattle.sl_ast.specs.Trees.{Name, Expression, Expressions, integer, named, paren, call, sized, dropped, bits, prefix, star, binary, no_more, with_more}
use Rattle.sl_ast.specs.Validity.{Binds, AllBind, IsSome, weight, weights, IsExpression}
use Rattle.sl_ast.specs.Views.{arguments}
use Rattle.sl_ast.specs.declared.expressions.BinaryOp.{BinaryOp}
use Rattle.sl_ast.specs.declared.expressions.BinaryOp.TheVariants as b
use Rattle.sl_ast.specs.declared.expressions.PrefixOp.{PrefixOp}
use Rattle.sl_ast.specs.declared.symbols.Mark.TheVariants as m
use Rattle.sl_parse_grammar.specs.Expressions.{atom, tight, expression, whole}
use Rattle.sl_parse_grammar.specs.Lists.{separated_from}
use Rattle.sl_parse_grammar.specs.Reader.{at, first, is_mark, same_mark}
use Rattle.sl_parse_grammar.proofs.ExpressionSteps.{Stops, stops_less, stops_close, stops_comma, stops_op, turn_is, begins, tight_is, of_integer, of_name, of_paren, of_call, of_atom, of_sized, of_dropped, of_bits, of_prefix, of_star, Climbs, climb_stops, of_binary, of_tight, left_le}
use Rattle.sl_parse_grammar.proofs.Measures.{cost, costs, cost_is, count, long_arguments, last_rank, last_is}
use Rattle.sl_parse_grammar.proofs.Steps.{last_part, one_part}

-- The reading has come to the end of the tree, and operators may follow.
abbrev pub Arrives : Kind → ℕ → ℕ → Expression → List Sym → ℕ → Type 0
Arrives kind k n e rest s = (m : ℕ) × (s < m) × (expression kind (suc k) n (at (spell_expression e rest) (cost e s)) ≡ Climbs kind k n m e (at rest s))

-- A name is followed by no bracket that would make it a call.
abbrev pub NoCall : Kind → Expression → List Sym → Type 0
NoCall kind e rest = is_section kind ≡ true → takes_drop e ≡ false → is_mark m.Open (first rest) ≡ false

pub record Facts (kind : Kind) (e : Expression) : Type 0 where
  pub as_atom : (k : ℕ) (rest : List Sym) (s : ℕ) → Binds kind e → takes_size e ≡ true → weight e ≤ k
      → NoCall kind e rest → atom kind (expression kind k) (at (spell_expression e rest) (cost e s)) ≡ Ok (e, at rest s)
  pub arrives : (k n : ℕ) (rest : List Sym) (s : ℕ) → Binds kind e → rank e ≤ n → weight e ≤ k → Stops kind (last_rank e) rest → Arrives kind k n e rest s

-- where nothing can follow, the reading is done
pub ends : (kind : Kind) (k n : ℕ) (e : Expression) (rest : List Sym) (s : ℕ) → Facts kind e → Binds kind e → rank e ≤ n → weight e ≤ k → Stops kind n rest
    → expression kind (suc k) n (at (spell_expression e rest) (cost e s)) ≡ Ok (e, at rest s)
ends kind k n e rest s facts binds low fits stops =
    let last = last_is e in
    let come = facts.arrives k n rest s binds low fits (stops_less kind n (last_rank e) rest (omega arith) stops) in
    come.2 ∙ climb_stops kind k n come.0 e rest s (stops.quiet n e (omega arith))

tight_arrives : (kind : Kind) (k n : ℕ) (e : Expression) (rest : List Sym) (s : ℕ)
    → tight kind (expression kind k) (at (spell_expression e rest) (cost e s)) ≡ Ok (e, at rest s) → Arrives kind k n e rest s
tight_arrives kind k n e rest s h = (suc s, omega arith, of_tight kind k n (at (spell_expression e rest) (cost e s)) e rest s h)

-- the facts of a tree that is an atom
of_an_atom : (kind : Kind) (e : Expression) → takes_size e ≡ true
    → ((k : ℕ) (rest : List Sym) (s : ℕ) → Binds kind e → weight e ≤ k → NoCall kind e rest
    → atom kind (expression kind k) (at (spell_expression e rest) (cost e s)) ≡ Ok (e, at rest s))
    → Facts kind e
of_an_atom kind e takes read = record {
  as_atom = λ k rest s binds _ fits no_open. read k rest s binds fits no_open;
  arrives = λ k n rest s binds low fits stops. tight_arrives kind k n e rest s
      (tight_is kind (expression kind k) e rest (cost e s) takes
      ∙ of_atom kind (expression kind k) (at (spell_expression e rest) (cost e s)) e rest s (read k rest s binds fits (λ section _. (stops.closed section).no_open)) stops.closed);
}

-- the facts of a tree that is none, and no operation of two operands
of_a_tight : (kind : Kind) (e : Expression) → takes_size e ≡ false
    → ((k : ℕ) (rest : List Sym) (s : ℕ) → Binds kind e → weight e ≤ k → Stops kind 0 rest
    → tight kind (expression kind k) (at (spell_expression e rest) (cost e s)) ≡ Ok (e, at rest s))
    → last_rank e ≡ 0 → Facts kind e
of_a_tight kind e takes read last = record {
  as_atom = λ k rest s binds atom fits no_open. absurd (cc);
  arrives = λ k n rest s binds low fits stops. tight_arrives kind k n e rest s (read k rest s binds fits (subst (λ r. Stops kind r rest) last stops));
}

paren_is : (kind : Kind) (e : Expression) → Facts kind e → (k : ℕ) (rest : List Sym) (s : ℕ) → Binds kind e → suc (weight e) ≤ k → rank e ≤ loosest
    → atom kind (expression kind k) (at (mark m.Open ∷ spell_expression e (mark m.Close ∷ rest)) (suc (cost e s))) ≡ Ok (paren e, at rest s)
paren_is kind e facts zero rest s binds fits low = absurd (omega arith)
paren_is kind e facts (suc k) rest s binds fits low =
    of_paren kind (expression kind (suc k)) e (spell_expression e (mark m.Close ∷ rest)) rest (cost e s) s
    (ends kind k loosest e (mark m.Close ∷ rest) s facts binds low (omega arith) (stops_close kind loosest rest))

-- ---- what stands behind an atom, in a section

-- ---- ranks

-- the first fact on what stands last: it binds no looser than an operator that follows
last_below : (l : Expression) (op : BinaryOp) → rank l ≤ left_rank op → last_rank l ≤ right_rank op
last_below (binary o a b) op low = let le = left_le op in omega arith
last_below l op low = omega arith

right_most : (op : BinaryOp) → right_rank op ≤ 9
right_most b.Multiply = omega arith
right_most op = omega arith

pub rank_most : (e : Expression) → rank e ≤ loosest
rank_most (binary op l r) = let most = right_most op in omega arith
rank_most e = omega arith

sized_is : (kind : Kind) (e : Expression) (n : ℕ) → Facts kind e → (k : ℕ) (rest : List Sym) (s : ℕ) → Binds kind (sized e n) → weight e ≤ k
    → tight kind (expression kind k) (at (spell_expression (sized e n) rest) (cost e s)) ≡ Ok (sized e n, at rest s)
unfolding same_mark
sized_is in_section e n facts k rest s binds fits =
    let xs = mark m.Colon ∷ number n ∷ rest in
    tight_is in_section (expression in_section k) e xs (cost e s) binds.1
    ∙ of_sized (expression in_section k) (at (spell_expression e xs) (cost e s)) e n rest s (facts.as_atom k xs s binds.3 binds.1 fits (λ _ _. refl)) binds.1 binds.2
sized_is in_action e n facts k rest s binds fits = absurd (let h = binds.0 in cc)
sized_is in_constraint e n facts k rest s binds fits = absurd (let h = binds.0 in cc)

drop_is_atom : (e : Expression) → takes_drop e ≡ true → takes_size e ≡ true
drop_is_atom (paren e) h = refl
drop_is_atom (call w es) h = refl
drop_is_atom e h = absurd (cc)

bits_is_atom : (e : Expression) → takes_bits e ≡ true → takes_size e ≡ true
bits_is_atom (named w) h = refl
bits_is_atom (paren e) h = refl
bits_is_atom (call w es) h = refl
bits_is_atom e h = absurd (cc)

dropped_is : (kind : Kind) (e : Expression) (n : ℕ) → Facts kind e → (k : ℕ) (rest : List Sym) (s : ℕ) → Binds kind (dropped e n) → weight e + 1 ≤ k
    → tight kind (expression kind k) (at (spell_expression (dropped e n) rest) (cost e (suc s))) ≡ Ok (dropped e n, at rest s)
dropped_is in_section e n facts k rest s binds fits =
    let xs = mark m.Open ∷ number n ∷ mark m.Close ∷ rest in
    let is_atom = drop_is_atom e binds.1 in
    tight_is in_section (expression in_section k) e xs (cost e (suc s)) is_atom
    ∙ of_dropped (expression in_section k) (at (spell_expression e xs) (cost e (suc s))) e n rest s
    (facts.as_atom k xs (suc s) binds.2 is_atom (omega arith) (λ _ no_drop. absurd (let h = binds.1 in cc))) binds.1
dropped_is in_action e n facts k rest s binds fits = absurd (let h = binds.0 in cc)
dropped_is in_constraint e n facts k rest s binds fits = absurd (let h = binds.0 in cc)

bits_are : (kind : Kind) (e : Expression) (l c : ℕ) → Facts kind e → (k : ℕ) (rest : List Sym) (s : ℕ) → Binds kind (bits e l c) → weight e + 1 ≤ k
    → tight kind (expression kind k) (at (spell_expression (bits e l c) rest) (cost e (suc s))) ≡ Ok (bits e l c, at rest s)
unfolding same_mark
bits_are in_section e l c facts k rest s binds fits =
    let xs = mark m.OpenBracket ∷ number l ∷ mark m.Comma ∷ number c ∷ mark m.CloseBracket ∷ rest in
    let is_atom = bits_is_atom e binds.1 in
    tight_is in_section (expression in_section k) e xs (cost e (suc s)) is_atom
    ∙ of_bits (expression in_section k) (at (spell_expression e xs) (cost e (suc s))) e l c rest s
    (facts.as_atom k xs (suc s) binds.2 is_atom (omega arith) (λ _ _. refl)) binds.1
bits_are in_action e l c facts k rest s binds fits = absurd (let h = binds.0 in cc)
bits_are in_constraint e l c facts k rest s binds fits = absurd (let h = binds.0 in cc)

-- ---- prefixes

prefix_is : (kind : Kind) (op : PrefixOp) (e : Expression) → Facts kind e → (k : ℕ) (rest : List Sym) (s : ℕ) → Binds kind (prefix op e) → suc (weight e) ≤ k → Stops kind 0 rest
    → tight kind (expression kind k) (at (spell_expression (prefix op e) rest) (suc (cost e s))) ≡ Ok (prefix op e, at rest s)
prefix_is kind op e facts zero rest s binds fits stops = absurd (omega arith)
prefix_is kind op e facts (suc k) rest s binds fits stops =
    of_prefix kind (expression kind (suc k)) op e (spell_expression e rest) rest (cost e s) s binds.0
    (ends kind k 0 e rest s facts binds.2 binds.1 (omega arith) stops)

star_is : (kind : Kind) (place : Option Name) (width : Option ℕ) (e : Expression) → Facts kind e → (k : ℕ) (rest : List Sym) (s : ℕ) → Binds kind (star place width e)
    → suc (weight e) ≤ k → Stops kind 0 rest
    → tight kind (expression kind k) (at (spell_expression (star place width e) rest) (cost (star place width e) s)) ≡ Ok (star place width e, at rest s)
star_is kind place width e facts zero rest s binds fits stops = absurd (omega arith)
star_is kind place width e facts (suc k) rest s binds fits stops =
    of_star kind (expression kind (suc k)) place width e (spell_expression e rest) rest (cost e s) s binds.0 binds.1 (begins e rest)
    (ends kind k 0 e rest s facts binds.3 binds.2 (omega arith) stops)

-- ---- operators of two operands

binary_step : (kind : Kind) (k n m : ℕ) (op : BinaryOp) (l r : Expression) (rest : List Sym) (s : ℕ) → Binds kind (binary op l r) → suc (right_rank op) ≤ n
    → Facts kind r → weight r < k → Stops kind (right_rank op) rest → suc (cost r s) < m
    → expression kind (suc k) n (at (spell_expression l (mark (binary_mark op) ∷ spell_expression r rest)) (cost l (suc (cost r s))))
    ≡ Climbs kind k n m l (at (mark (binary_mark op) ∷ spell_expression r rest) (suc (cost r s)))
    → Arrives kind k n (binary op l r) rest s
binary_step kind zero n m op l r rest s binds low facts fits stops more come = absurd (omega arith)
binary_step kind (suc k) n zero op l r rest s binds low facts fits stops more come = absurd (omega arith)
binary_step kind (suc k) n (suc m) op l r rest s binds low facts fits stops more come =
    let room = cost_is r s in (
      m,
      omega arith,
      come ∙ of_binary kind (suc k) n m op l r (spell_expression r rest) rest (cost r s) s
          (turn_is kind n l op binds.0 low binds.1)
          (ends kind k (right_rank op) r rest s facts binds.4 binds.2 (omega arith) stops),
    )

binary_is : (kind : Kind) (op : BinaryOp) (l r : Expression) → Facts kind l → Facts kind r → (k n : ℕ) (rest : List Sym) (s : ℕ) → Binds kind (binary op l r)
    → suc (right_rank op) ≤ n → weight l + 1 + weight r ≤ k → Stops kind (right_rank op) rest → Arrives kind k n (binary op l r) rest s
binary_is kind op l r first second k n rest s binds low fits stops =
    let le = left_le op in
    let last = last_is l in
    let left_low = binds.1 in
    let come = first.arrives k n (mark (binary_mark op) ∷ spell_expression r rest) (suc (cost r s)) binds.3 (omega arith) (omega arith)
    (stops_less kind (right_rank op) (last_rank l) _ (last_below l op left_low) (stops_op kind op (spell_expression r rest))) in
    binary_step kind k n come.0 op l r rest s binds low second (omega arith) stops come.1 come.2

-- ---- arguments

abbrev pub listed : Expressions → List Expression
listed no_more = []
listed (with_more e es) = e ∷ listed es

pub arguments_listed : (es : Expressions) → arguments (listed es) ≡ es
arguments_listed no_more = refl
arguments_listed (with_more e es) = ap (with_more e) (arguments_listed es)

abbrev ArgumentsCome : Kind → Expressions → Type 0
ArgumentsCome kind es = (k j : ℕ) (found : List Expression) (rest : List Sym) (s : ℕ) → AllBind kind es → IsSome es → weights es ≤ k → count es ≤ j
    → separated_from (expression kind (suc k) loosest) j found (at (spell_arguments es (mark m.Close ∷ rest)) (costs es s)) ≡ Ok (found ++ listed es, at (mark m.Close ∷ rest) s)

no_comma : (rest : List Sym) → is_mark m.Comma (first (mark m.Close ∷ rest)) ≡ false
unfolding same_mark
no_comma rest = refl

arguments_step : (kind : Kind) (e : Expression) (es : Expressions) → Facts kind e → ArgumentsCome kind es → rank e ≤ loosest → ArgumentsCome kind (with_more e es)
arguments_step kind e es facts ih low k zero found rest s binds some fits le = absurd (omega arith)
arguments_step kind e no_more facts ih low k (suc j) found rest s binds some fits le =
    last_part (expression kind (suc k) loosest) j found e (at (spell_expression e (mark m.Close ∷ rest)) (cost e s)) (mark m.Close ∷ rest) s
    (ends kind k loosest e (mark m.Close ∷ rest) s facts binds.0 low (omega arith) (stops_close kind loosest rest)) (no_comma rest)
arguments_step kind e (with_more d ds) facts ih low k (suc j) found rest s binds some fits le =
    let after = spell_arguments (with_more d ds) (mark m.Close ∷ rest) in
    let room = costs (with_more d ds) s in
    one_part (expression kind (suc k) loosest) j found e (at (spell_expression e (mark m.Comma ∷ after)) (cost e room)) after room
    (ends kind k loosest e (mark m.Comma ∷ after) room facts binds.0 low (omega arith) (stops_comma kind loosest after))
    ∙ ih k j (found ++ e ∷ []) rest s binds.1 tt (omega arith) (omega arith)
    ∙ ap (λ xs. Ok (xs, at (mark m.Close ∷ rest) s)) (append_assoc found (e ∷ []) (listed (with_more d ds)))

call_is : (kind : Kind) (w : Name) (es : Expressions) → ArgumentsCome kind es → (k : ℕ) (rest : List Sym) (s : ℕ) → Binds kind (call w es) → suc (weights es) ≤ k
    → atom kind (expression kind k) (at (spell_expression (call w es) rest) (suc (costs es s))) ≡ Ok (call w es, at rest s)
call_is kind w es come zero rest s binds fits = absurd (omega arith)
call_is kind w es come (suc k) rest s binds fits =
    let xs = spell_arguments es (mark m.Close ∷ rest) in
    let long = long_arguments es (mark m.Close ∷ rest) in
    of_call kind (expression kind (suc k)) w (listed es) xs rest (costs es s) s binds.0 binds.1
    (come k (suc (length xs)) [] rest s binds.3 binds.2 (omega arith) (omega arith))
    ∙ ap (λ ds. Ok (call w ds, at rest s)) (arguments_listed es)

-- ---- the induction

mutual
  pub facts : (kind : Kind) (e : Expression) → Facts kind e
  facts kind (integer n) = of_an_atom kind (integer n) refl (λ k rest s binds fits no_call. of_integer kind (expression kind k) n rest s)
  facts kind (named w) = of_an_atom kind (named w) refl (λ k rest s binds fits no_call. of_name kind (expression kind k) w rest s binds (λ section. no_call section refl))
  facts kind (paren e) = of_an_atom kind (paren e) refl (λ k rest s binds fits no_call. paren_is kind e (facts kind e) k rest s binds (omega arith) (rank_most e))
  facts kind (call w es) = of_an_atom kind (call w es) refl (λ k rest s binds fits no_call. call_is kind w es (arguments_come kind es) k rest s binds (omega arith))
  facts kind (sized e n) = of_a_tight kind (sized e n) refl (λ k rest s binds fits stops. sized_is kind e n (facts kind e) k rest s binds fits) refl
  facts kind (dropped e n) = of_a_tight kind (dropped e n) refl (λ k rest s binds fits stops. dropped_is kind e n (facts kind e) k rest s binds fits) refl
  facts kind (bits e l c) = of_a_tight kind (bits e l c) refl (λ k rest s binds fits stops. bits_are kind e l c (facts kind e) k rest s binds fits) refl
  facts kind (prefix op e) = of_a_tight kind (prefix op e) refl (λ k rest s binds fits stops. prefix_is kind op e (facts kind e) k rest s binds (omega arith) stops) refl
  facts kind (star place width e) =
      of_a_tight kind (star place width e) refl (λ k rest s binds fits stops. star_is kind place width e (facts kind e) k rest s binds (omega arith) stops) refl
  facts kind (binary op l r) = record {
    as_atom = λ k rest s binds atom fits no_call. absurd (cc);
    arrives = λ k n rest s binds low fits stops. binary_is kind op l r (facts kind l) (facts kind r) k n rest s binds low fits stops;
  }

  pub arguments_come : (kind : Kind) (es : Expressions) → ArgumentsCome kind es
  arguments_come kind no_more = λ k j found rest s binds some fits le. absurd some
  arguments_come kind (with_more e es) = arguments_step kind e es (facts kind e) (arguments_come kind es) (rank_most e)

-- ---- within a limit of operators and opening brackets

module _ (most : ℕ) where
  -- An expression is read from its spelling, whatever follows that can't go on with it.
  pub complete : (kind : Kind) (e : Expression) (rest : List Sym) (r : ℕ) → IsExpression most kind e → Stops kind loosest rest
      → whole most kind (at (spell_expression e rest) r) ≡ Ok (e, at rest r)
  unfolding whole
  complete kind e rest r is stops =
      let fits = is.1 in
      let left = most - weight e in
      let room : most ≡ cost e left = omega (arith, cost_is e left) in
      rw (ap (λ n. expression kind (suc most) loosest (at (spell_expression e rest) n)) room ∙ ends kind most loosest e rest left (facts kind e) is.0 (rank_most e) fits stops) refl
