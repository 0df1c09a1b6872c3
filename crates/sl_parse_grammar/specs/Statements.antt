-- law: the reader of statements and of disassembly actions.
use Rattle.std.specs.Prelude.{ℕ, Bool, not, List, Option, Some, None}
use Rattle.sl_ast.specs.Operators.{in_section, in_action, missing_function, missing_statement}
use Rattle.sl_ast.specs.Symbols.{plain, quoted, Sym, number, word, mark}
use Rattle.sl_ast.specs.Trees.{Name, Expression, Operand, by_name, by_integer, Action, set, global_set, StarForm, left_name, left_bits, left_star, Direct, to_label, to_operand, Dest, direct, computed, Target, calls, calls_computed, Exported, exports, exports_star, Statement, local, declare, assign, goto, branch, call_to, return, build, export, invoke, label}
use Rattle.sl_ast.specs.declared.symbols.Feature.{Feature}
use Rattle.sl_ast.specs.declared.symbols.Keyword.TheVariants as k
use Rattle.sl_ast.specs.declared.symbols.Mark.{Mark}
use Rattle.sl_ast.specs.declared.symbols.Mark.TheVariants as m
use Rattle.sl_parse_grammar.specs.Expressions.{whole}
use Rattle.sl_parse_grammar.specs.Lists.{many, listed}
use Rattle.sl_parse_grammar.specs.Reader.{Reader, ◌>>=◌, ◌>>◌, pure, peek, skip, unsupport, refuse, is_mark, expect, expect_keyword, integer_here, name_here, size_here, optional, size_option}

-- ---- parts and statements without an expression

abbrev pub operand_by : Option Sym → Reader Operand
operand_by (Some (number n)) = skip >> pure (by_integer n)
operand_by (Some (word (plain w))) = skip >> pure (by_name w)
operand_by o = refuse

unfoldable pub operand : Reader Operand
operand = peek >>= operand_by

unfoldable pub space_name : Reader Name
space_name = do
  expect m.OpenBracket
  w ← name_here
  expect m.CloseBracket
  pure w

-- `*[space]:n`, whose bracket is none of an expression's
unfoldable pub star_form : Reader StarForm
star_form = do
  expect m.Star
  space ← optional (is_mark m.OpenBracket) space_name
  size ← size_option
  pure (record { space = space; size = size })

unfoldable pub label_here : Reader Name
label_here = do
  expect m.Less
  w ← name_here
  expect m.Greater
  pure w

abbrev pub direct_by : Option Sym → Reader Direct
direct_by (Some (mark m.Less)) = label_here >>= (λ w. pure (to_label w))
direct_by o = operand >>= (λ to. pure (to_operand to))

unfoldable pub direct_here : Reader Direct
direct_here = peek >>= direct_by

abbrev pub exported_by : Option Sym → Reader Exported
exported_by (Some (mark m.Star)) = do
  form ← star_form
  pointer ← operand
  pure (exports_star form pointer)
exported_by o = name_here >>= (λ w. pure (exports w))

unfoldable pub exported : Reader Exported
exported = peek >>= exported_by

unfoldable pub build_here : Reader Statement
build_here = do
  expect_keyword k.Build
  w ← name_here
  expect m.Semicolon
  pure (build w)

unfoldable pub export_here : Reader Statement
export_here = do
  expect_keyword k.Export
  what ← exported
  expect m.Semicolon
  pure (export what)

-- up to a closing mark
abbrev pub until : Mark → Option Sym → Bool
until k o = not (is_mark k o)

unfoldable pub global_set_here : Reader Action
global_set_here = do
  expect_keyword k.GlobalSet
  expect m.Open
  to ← operand
  expect m.Comma
  w ← name_here
  expect m.Close
  expect m.Semicolon
  pure (global_set to w)

-- ---- readers of expressions with at most so many operators and opening brackets

module _ (most : ℕ) where
  unfoldable pub value_here : Reader Expression
  value_here = do
    expect m.Equals
    e ← whole most in_section
    pure e

  unfoldable pub computed_here : Reader Expression
  computed_here = do
    expect m.OpenBracket
    e ← whole most in_section
    expect m.CloseBracket
    pure e

  abbrev pub dest_by : Option Sym → Reader Dest
  dest_by (Some (mark m.OpenBracket)) = computed_here >>= (λ e. pure (computed e))
  dest_by o = direct_here >>= (λ to. pure (direct to))

  unfoldable pub dest : Reader Dest
  dest = peek >>= dest_by

  abbrev pub target_by : Option Sym → Reader Target
  target_by (Some (mark m.OpenBracket)) = computed_here >>= (λ e. pure (calls_computed e))
  target_by o = operand >>= (λ to. pure (calls to))

  unfoldable pub target : Reader Target
  target = peek >>= target_by

  -- ---- statements

  unfoldable pub local_here : Reader Statement
  local_here = do
    expect_keyword k.Local
    w ← name_here
    size ← size_option
    value ← optional (is_mark m.Equals) value_here
    expect m.Semicolon
    pure (local w size value)

  unfoldable pub goto_here : Reader Statement
  goto_here = do
    expect_keyword k.Goto
    to ← dest
    expect m.Semicolon
    pure (goto to)

  unfoldable pub branch_here : Reader Statement
  branch_here = do
    expect_keyword k.If
    e ← whole most in_section
    expect_keyword k.Goto
    to ← direct_here
    expect m.Semicolon
    pure (branch e to)

  unfoldable pub call_here : Reader Statement
  call_here = do
    expect_keyword k.Call
    to ← target
    expect m.Semicolon
    pure (call_to to)

  unfoldable pub return_here : Reader Statement
  return_here = do
    expect_keyword k.Return
    e ← computed_here
    expect m.Semicolon
    pure (return e)

  unfoldable pub star_here : Reader Statement
  star_here = do
    form ← star_form
    pointer ← whole most in_section
    e ← value_here
    expect m.Semicolon
    pure (assign (left_star form pointer) e)

  -- ---- statements that begin with a name, behind it

  unfoldable pub declare_here : Name → Reader Statement
  declare_here w = do
    expect m.Colon
    n ← size_here
    e ← value_here
    expect m.Semicolon
    pure (declare w n e)

  unfoldable pub assign_here : Name → Reader Statement
  assign_here w = do
    e ← value_here
    expect m.Semicolon
    pure (assign (left_name w) e)

  unfoldable pub bits_here : Name → Reader Statement
  bits_here w = do
    expect m.OpenBracket
    l ← integer_here
    expect m.Comma
    c ← integer_here
    expect m.CloseBracket
    e ← value_here
    expect m.Semicolon
    pure (assign (left_bits w l c) e)

  unfoldable pub invoke_here : Name → Reader Statement
  invoke_here w = do
    expect m.Open
    es ← listed (whole most in_section)
    expect m.Close
    expect m.Semicolon
    pure (invoke w es)

  -- a function that is left out is refused at its name
  abbrev pub invoke_by : Name → Option Feature → Reader Statement
  invoke_by w None = invoke_here w
  invoke_by w (Some feature) = unsupport feature 1

  abbrev pub named_by : Name → Option Sym → Reader Statement
  named_by w (Some (mark m.Colon)) = declare_here w
  named_by w (Some (mark m.OpenBracket)) = bits_here w
  named_by w (Some (mark m.Open)) = invoke_by w (missing_function w)
  named_by w o = assign_here w

  abbrev pub begun_by : Name → Option Feature → Reader Statement
  begun_by w None = skip >> (peek >>= named_by w)
  begun_by w (Some feature) = unsupport feature 0

  -- ---- any statement

  abbrev pub statement_by : Option Sym → Reader Statement
  statement_by (Some (word (quoted k.Local))) = local_here
  statement_by (Some (word (quoted k.Goto))) = goto_here
  statement_by (Some (word (quoted k.If))) = branch_here
  statement_by (Some (word (quoted k.Call))) = call_here
  statement_by (Some (word (quoted k.Return))) = return_here
  statement_by (Some (word (quoted k.Build))) = build_here
  statement_by (Some (word (quoted k.Export))) = export_here
  statement_by (Some (word (plain w))) = begun_by w (missing_statement w)
  statement_by (Some (mark m.Star)) = star_here
  statement_by (Some (mark m.Less)) = label_here >>= (λ w. pure (label w))
  statement_by o = refuse

  unfoldable pub statement : Reader Statement
  statement = peek >>= statement_by

  unfoldable pub body : Reader (List Statement)
  body = do
    expect m.OpenBrace
    found ← many (until m.CloseBrace) statement
    expect m.CloseBrace
    pure found

  -- ---- actions

  unfoldable pub set_here : Reader Action
  set_here = do
    w ← name_here
    expect m.Equals
    e ← whole most in_action
    expect m.Semicolon
    pure (set w e)

  abbrev pub action_by : Option Sym → Reader Action
  action_by (Some (word (quoted k.GlobalSet))) = global_set_here
  action_by o = set_here

  unfoldable pub action : Reader Action
  action = peek >>= action_by

  unfoldable pub actions : Reader (List Action)
  actions = do
    expect m.OpenBracket
    found ← many (until m.CloseBracket) action
    expect m.CloseBracket
    pure found
