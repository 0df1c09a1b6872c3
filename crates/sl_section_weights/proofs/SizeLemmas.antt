-- The length of the spelling of a statement is the number of its tokens.
use Rattle.std.proofs.Common.{◌≡◌, ℕ, ◌+◌, max, List, [], ◌∷◌, length, Option, Some, None, arith}
use Rattle.sl_ast.specs.Spelling.{spell_all, spell_arguments, spell_commas, spell_computed, spell_dest, spell_direct, spell_exported, spell_expression, spell_left, spell_more, spell_option, spell_separated, spell_size, spell_space, spell_star, spell_statement, spell_target, spell_value}
use Rattle.sl_ast.specs.Operators.{binary_mark}
use Rattle.sl_ast.specs.Spelling.{keyword, name}
use Rattle.sl_ast.specs.Symbols.{Sym, mark, number}
use Rattle.sl_ast.specs.declared.symbols.Keyword.TheVariants as k
use Rattle.sl_ast.specs.declared.symbols.Mark.TheVariants as m
use Rattle.sl_ast.specs.Trees.{Expression, Expressions, integer, named, paren, call, sized, dropped, bits, prefix, star, binary, no_more, with_more}
use Rattle.sl_ast.specs.Trees.{Left, left_name, left_bits, left_star, StarForm, Direct, to_label, to_operand, Dest, direct, computed, Operand, by_name, by_integer}
use Rattle.sl_ast.specs.Trees.{Target, calls, calls_computed, Exported, exports, exports_star, Name}
use Rattle.sl_ast.specs.Trees.{Statement, local, declare, assign, goto, branch, call_to, return, build, export, invoke, label}
use Rattle.sl_ast.specs.Views.{arguments}
use Rattle.sl_section_weights.specs.Sizes.{arguments_size, dest_size, direct_size, exported_size, expression_size, if_written, left_size, star_size, statement_size, target_size, value_size}
use Rattle.sl_section_weights.specs.Weights.{tokens}

space_long : (space : Option Name) (rest : List Sym) → length (spell_option spell_space space rest) ≡ if_written 3 space + length rest
space_long None rest = omega arith
space_long (Some w) rest = omega arith

size_long : (size : Option ℕ) (rest : List Sym) → length (spell_option spell_size size rest) ≡ if_written 2 size + length rest
size_long None rest = omega arith
size_long (Some n) rest = omega arith

form_long : (space : Option Name) (size : Option ℕ) (rest : List Sym) → length (spell_option spell_space space (spell_option spell_size size rest)) + 1 ≡ star_size space size + length rest
form_long space size rest = omega (arith, space_long space (spell_option spell_size size rest), size_long size rest)

mutual
  pub expression_long : (e : Expression) (rest : List Sym) → length (spell_expression e rest) ≡ expression_size e + length rest
  expression_long (integer n) rest = omega arith
  expression_long (named w) rest = omega arith
  expression_long (paren e) rest = omega (arith, expression_long e (mark m.Close ∷ rest))
  expression_long (call w es) rest = omega (arith, arguments_long es (mark m.Close ∷ rest))
  expression_long (sized e n) rest = omega (arith, expression_long e (mark m.Colon ∷ number n ∷ rest))
  expression_long (dropped e n) rest = omega (arith, expression_long e (mark m.Open ∷ number n ∷ mark m.Close ∷ rest))
  expression_long (bits e l c) rest = omega (arith, expression_long e (mark m.OpenBracket ∷ number l ∷ mark m.Comma ∷ number c ∷ mark m.CloseBracket ∷ rest))
  expression_long (prefix op e) rest = omega (arith, expression_long e rest)
  expression_long (star space size e) rest = omega (arith, form_long space size (spell_expression e rest), expression_long e rest)
  expression_long (binary op l r) rest = omega (arith, expression_long l (mark (binary_mark op) ∷ spell_expression r rest), expression_long r rest)

  arguments_long : (es : Expressions) (rest : List Sym) → length (spell_arguments es rest) + 1 ≡ max 1 (arguments_size es) + length rest
  arguments_long no_more rest = omega arith
  arguments_long (with_more e es) rest = omega (arith, expression_long e (spell_more es rest), more_long es rest)

  more_long : (es : Expressions) (rest : List Sym) → length (spell_more es rest) ≡ arguments_size es + length rest
  more_long no_more rest = omega arith
  more_long (with_more e es) rest = omega (arith, expression_long e (spell_more es rest), more_long es rest)

value_long : (value : Option Expression) (rest : List Sym) → length (spell_option spell_value value rest) ≡ value_size value + length rest
value_long None rest = omega arith
value_long (Some e) rest = omega (arith, expression_long e rest)

left_long : (left : Left) (rest : List Sym) → length (spell_left left rest) ≡ left_size left + length rest
left_long (left_name w) rest = omega arith
left_long (left_bits w l c) rest = omega arith
left_long (left_star form e) rest = omega (arith, form_long form.space form.size (spell_expression e rest), expression_long e rest)

direct_long : (to : Direct) (rest : List Sym) → length (spell_direct to rest) ≡ direct_size to + length rest
direct_long (to_label w) rest = omega arith
direct_long (to_operand (by_name w)) rest = omega arith
direct_long (to_operand (by_integer n)) rest = omega arith

computed_long : (e : Expression) (rest : List Sym) → length (spell_computed e rest) ≡ expression_size e + 2 + length rest
computed_long e rest = omega (arith, expression_long e (mark m.CloseBracket ∷ rest))

dest_long : (to : Dest) (rest : List Sym) → length (spell_dest to rest) ≡ dest_size to + length rest
dest_long (direct to) rest = direct_long to rest
dest_long (computed e) rest = computed_long e rest

target_long : (to : Target) (rest : List Sym) → length (spell_target to rest) ≡ target_size to + length rest
target_long (calls (by_name w)) rest = omega arith
target_long (calls (by_integer n)) rest = omega arith
target_long (calls_computed e) rest = computed_long e rest

exported_long : (what : Exported) (rest : List Sym) → length (spell_exported what rest) ≡ exported_size what + length rest
exported_long (exports w) rest = omega arith
exported_long (exports_star form (by_name w)) rest = omega (arith, form_long form.space form.size (name w ∷ rest))
exported_long (exports_star form (by_integer n)) rest = omega (arith, form_long form.space form.size (number n ∷ rest))

commas_long : (es : List Expression) (rest : List Sym) → length (spell_commas spell_expression es rest) ≡ arguments_size (arguments es) + length rest
commas_long [] rest = omega arith
commas_long (e ∷ es) rest = omega (arith, expression_long e (spell_commas spell_expression es rest), commas_long es rest)

given_long : (es : List Expression) (rest : List Sym) → length (spell_separated spell_expression es rest) + 1 ≡ max 1 (arguments_size (arguments es)) + length rest
given_long [] rest = omega arith
given_long (e ∷ es) rest = omega (arith, expression_long e (spell_commas spell_expression es rest), commas_long es rest)

pub statement_long : (s : Statement) (rest : List Sym) → length (spell_statement s rest) ≡ statement_size s + length rest
statement_long (local w size value) rest =
    omega (arith, size_long size (spell_option spell_value value (mark m.Semicolon ∷ rest)), value_long value (mark m.Semicolon ∷ rest))
statement_long (declare w n e) rest = omega (arith, expression_long e (mark m.Semicolon ∷ rest))
statement_long (assign left e) rest =
    omega (arith, left_long left (mark m.Equals ∷ spell_expression e (mark m.Semicolon ∷ rest)), expression_long e (mark m.Semicolon ∷ rest))
statement_long (goto to) rest = omega (arith, dest_long to (mark m.Semicolon ∷ rest))
statement_long (branch e to) rest =
    omega (arith, expression_long e (keyword k.Goto ∷ spell_direct to (mark m.Semicolon ∷ rest)), direct_long to (mark m.Semicolon ∷ rest))
statement_long (call_to to) rest = omega (arith, target_long to (mark m.Semicolon ∷ rest))
statement_long (return e) rest = omega (arith, computed_long e (mark m.Semicolon ∷ rest))
statement_long (build w) rest = omega arith
statement_long (export what) rest = omega (arith, exported_long what (mark m.Semicolon ∷ rest))
statement_long (invoke w es) rest = omega (arith, given_long es (mark m.Close ∷ mark m.Semicolon ∷ rest))
statement_long (label w) rest = omega arith

-- one statement more
pub tokens_more : (s : Statement) (body : List Statement) → tokens (s ∷ body) ≡ statement_size s + tokens body
unfolding tokens
tokens_more s body = statement_long s (spell_all spell_statement body [])
