-- How many symbols a tree is spelled with, and how much room it takes.
use Rattle.std.proofs.Common.{◌≡◌, ℕ, suc, ◌+◌, ◌<◌, ◌≤◌, List, ◌∷◌, length, Option, None, Some, arith}
use Rattle.sl_ast.specs.Operators.{rank, right_rank, binary_mark, pattern_mark}
use Rattle.sl_ast.specs.Symbols.{Sym, number, mark}
use Rattle.sl_ast.specs.Trees.{Name, Expression, Expressions, integer, named, paren, call, sized, dropped, bits, prefix, star, binary, no_more, with_more, Pattern, bare, constraint, group, ellipsis, joined}
use Rattle.sl_ast.specs.Spelling.{spell_expression, spell_arguments, spell_more, spell_pattern, spell_option, spell_space, spell_size}
use Rattle.sl_ast.specs.declared.symbols.Mark.TheVariants as m
use Rattle.sl_ast.specs.Validity.{weight, weights, space_weight, pattern_weight}

-- ---- the room before a tree, from the room behind it

abbrev pub space_cost : Option Name → ℕ → ℕ
space_cost None s = s
space_cost (Some w) s = suc s

abbrev mutual
  pub cost : Expression → ℕ → ℕ
  cost (integer n) s = s
  cost (named w) s = s
  cost (paren e) s = suc (cost e s)
  cost (call w es) s = suc (costs es s)
  cost (sized e n) s = cost e s
  cost (dropped e n) s = cost e (suc s)
  cost (bits e l c) s = cost e (suc s)
  cost (prefix op e) s = suc (cost e s)
  cost (star place width e) s = suc (space_cost place (cost e s))
  cost (binary op l r) s = cost l (suc (cost r s))

  pub costs : Expressions → ℕ → ℕ
  costs no_more s = s
  costs (with_more e es) s = cost e (costs es s)

space_cost_is : (place : Option Name) (s : ℕ) → space_cost place s ≡ space_weight place + s
space_cost_is None s = omega arith
space_cost_is (Some w) s = omega arith

mutual
  pub cost_is : (e : Expression) (s : ℕ) → cost e s ≡ weight e + s
  cost_is (integer n) s = omega arith
  cost_is (named w) s = omega arith
  cost_is (paren e) s = omega (arith, cost_is e s)
  cost_is (call w es) s = omega (arith, costs_are es s)
  cost_is (sized e n) s = cost_is e s
  cost_is (dropped e n) s = omega (arith, cost_is e (suc s))
  cost_is (bits e l c) s = omega (arith, cost_is e (suc s))
  cost_is (prefix op e) s = omega (arith, cost_is e s)
  cost_is (star place width e) s = omega (arith, cost_is e s, space_cost_is place (cost e s))
  cost_is (binary op l r) s = omega (arith, cost_is l (suc (cost r s)), cost_is r s)

  pub costs_are : (es : Expressions) (s : ℕ) → costs es s ≡ weights es + s
  costs_are no_more s = omega arith
  costs_are (with_more e es) s = omega (arith, cost_is e (costs es s), costs_are es s)

-- ---- a tree is spelled with one symbol at least

abbrev pub count : Expressions → ℕ
count no_more = 0
count (with_more e es) = suc (count es)

pub long_space : (place : Option Name) (rest : List Sym) → length rest ≤ length (spell_option spell_space place rest)
long_space None rest = omega arith
long_space (Some w) rest = omega arith

pub long_size : (width : Option ℕ) (rest : List Sym) → length rest ≤ length (spell_option spell_size width rest)
long_size None rest = omega arith
long_size (Some n) rest = omega arith

mutual
  pub long_expression : (e : Expression) (rest : List Sym) → length rest < length (spell_expression e rest)
  long_expression (integer n) rest = omega arith
  long_expression (named w) rest = omega arith
  long_expression (paren e) rest = omega (arith, long_expression e (mark m.Close ∷ rest))
  long_expression (call w es) rest = omega (arith, long_arguments es (mark m.Close ∷ rest))
  long_expression (sized e n) rest = omega (arith, long_expression e (mark m.Colon ∷ number n ∷ rest))
  long_expression (dropped e n) rest = omega (arith, long_expression e (mark m.Open ∷ number n ∷ mark m.Close ∷ rest))
  long_expression (bits e l c) rest =
      omega (arith, long_expression e (mark m.OpenBracket ∷ number l ∷ mark m.Comma ∷ number c ∷ mark m.CloseBracket ∷ rest))
  long_expression (prefix op e) rest = omega (arith, long_expression e rest)
  long_expression (star place width e) rest =
      omega (arith, long_space place (spell_option spell_size width (spell_expression e rest)), long_size width (spell_expression e rest), long_expression e rest)
  long_expression (binary op l r) rest = omega (arith, long_expression l (mark (binary_mark op) ∷ spell_expression r rest), long_expression r rest)

  pub long_arguments : (es : Expressions) (rest : List Sym) → count es + length rest ≤ length (spell_arguments es rest)
  long_arguments no_more rest = omega arith
  long_arguments (with_more e es) rest = omega (arith, long_expression e (spell_more es rest), long_more es rest)

  pub long_more : (es : Expressions) (rest : List Sym) → count es + length rest ≤ length (spell_more es rest)
  long_more no_more rest = omega arith
  long_more (with_more e es) rest = omega (arith, long_expression e (spell_more es rest), long_more es rest)

-- ---- ranks

-- the rank of what stands last, and could take an operator that follows
abbrev pub last_rank : Expression → ℕ
last_rank (binary op l r) = right_rank op
last_rank e = 0

pub last_is : (e : Expression) → last_rank e ≤ rank e
last_is (binary op l r) = omega arith
last_is e = omega arith

-- ---- patterns

abbrev pub pattern_cost : Pattern → ℕ → ℕ
pattern_cost (bare w) s = s
pattern_cost (constraint w rel e) s = suc (cost e s)
pattern_cost (group p) s = suc (pattern_cost p s)
pattern_cost (ellipsis p) s = pattern_cost p (suc s)
pattern_cost (joined op p q) s = pattern_cost p (suc (pattern_cost q s))

pub pattern_cost_is : (p : Pattern) (s : ℕ) → pattern_cost p s ≡ pattern_weight p + s
pattern_cost_is (bare w) s = omega arith
pattern_cost_is (constraint w rel e) s = omega (arith, cost_is e s)
pattern_cost_is (group p) s = omega (arith, pattern_cost_is p s)
pattern_cost_is (ellipsis p) s = omega (arith, pattern_cost_is p (suc s))
pattern_cost_is (joined op p q) s = omega (arith, pattern_cost_is p (suc (pattern_cost q s)), pattern_cost_is q s)

pub long_pattern : (p : Pattern) (rest : List Sym) → length rest < length (spell_pattern p rest)
long_pattern (bare w) rest = omega arith
long_pattern (constraint w rel e) rest = omega (arith, long_expression e rest)
long_pattern (group p) rest = omega (arith, long_pattern p (mark m.Close ∷ rest))
long_pattern (ellipsis p) rest = omega (arith, long_pattern p (mark m.Ellipsis ∷ rest))
long_pattern (joined op p q) rest = omega (arith, long_pattern p (mark (pattern_mark op) ∷ spell_pattern q rest), long_pattern q rest)
