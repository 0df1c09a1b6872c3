-- Within wider limits the readers of statements and actions read the same.
use Rattle.std.proofs.Common.{ℕ, ◌+◌, Option, None, Some}
use Rattle.sl_ast.specs.Operators.{in_section, in_action, missing_function, missing_statement}
use Rattle.sl_ast.specs.Symbols.{plain, quoted, Sym, word, mark}
use Rattle.sl_ast.specs.Trees.{Name}
use Rattle.sl_ast.specs.declared.symbols.Feature.{Feature}
use Rattle.sl_ast.specs.declared.symbols.Keyword.TheVariants as k
use Rattle.sl_ast.specs.declared.symbols.Mark.TheVariants as m
use Rattle.sl_parse_grammar.specs.Reader.{skip, is_mark, expect, expect_keyword, integer_here, name_here, size_here, size_option}
use Rattle.sl_parse_grammar.specs.Statements.{star_form, until, value_here, computed_here, dest_by, dest, target_by, target, local_here, goto_here, branch_here, call_here, return_here, star_here, declare_here, assign_here, bits_here, invoke_here, invoke_by, named_by, begun_by, statement_by, statement, body, set_here, action_by, action, actions}
use Rattle.sl_parse_faults.proofs.RaisedParts.{Widened, wider_same, wider_then, behind_same, wider_before, wider_peek, wider_optional, wider_many, wider_listed, wider_whole}

module _ (more most : ℕ) where
  value_wider : Widened (value_here most) (value_here (more + most))
  unfolding value_here
  value_wider = behind_same (expect m.Equals) (λ _. wider_before _ (wider_whole more most in_section))

  computed_wider : Widened (computed_here most) (computed_here (more + most))
  unfolding computed_here
  computed_wider = behind_same (expect m.OpenBracket) (λ _. wider_before _ (wider_whole more most in_section))

  dest_by_wider : (o : Option Sym) → Widened (dest_by most o) (dest_by (more + most) o)
  dest_by_wider (Some (mark m.OpenBracket)) = wider_before _ computed_wider
  dest_by_wider o = wider_same _

  dest_wider : Widened (dest most) (dest (more + most))
  unfolding dest
  dest_wider = wider_peek dest_by_wider

  target_by_wider : (o : Option Sym) → Widened (target_by most o) (target_by (more + most) o)
  target_by_wider (Some (mark m.OpenBracket)) = wider_before _ computed_wider
  target_by_wider o = wider_same _

  target_wider : Widened (target most) (target (more + most))
  unfolding target
  target_wider = wider_peek target_by_wider

  -- ---- statements

  local_wider : Widened (local_here most) (local_here (more + most))
  unfolding local_here
  local_wider =
      behind_same (expect_keyword k.Local) (λ _. behind_same name_here (λ w. behind_same size_option (λ size. wider_before _ (wider_optional (is_mark m.Equals) value_wider))))

  goto_wider : Widened (goto_here most) (goto_here (more + most))
  unfolding goto_here
  goto_wider = behind_same (expect_keyword k.Goto) (λ _. wider_before _ dest_wider)

  branch_wider : Widened (branch_here most) (branch_here (more + most))
  unfolding branch_here
  branch_wider = behind_same (expect_keyword k.If) (λ _. wider_before _ (wider_whole more most in_section))

  call_wider : Widened (call_here most) (call_here (more + most))
  unfolding call_here
  call_wider = behind_same (expect_keyword k.Call) (λ _. wider_before _ target_wider)

  return_wider : Widened (return_here most) (return_here (more + most))
  unfolding return_here
  return_wider = behind_same (expect_keyword k.Return) (λ _. wider_before _ computed_wider)

  star_wider : Widened (star_here most) (star_here (more + most))
  unfolding star_here
  star_wider = behind_same star_form (λ form. wider_then (wider_whole more most in_section) (λ pointer. wider_before _ value_wider))

  declare_wider : (w : Name) → Widened (declare_here most w) (declare_here (more + most) w)
  unfolding declare_here
  declare_wider w = behind_same (expect m.Colon) (λ _. behind_same size_here (λ n. wider_before _ value_wider))

  assign_wider : (w : Name) → Widened (assign_here most w) (assign_here (more + most) w)
  unfolding assign_here
  assign_wider w = wider_before _ value_wider

  bits_wider : (w : Name) → Widened (bits_here most w) (bits_here (more + most) w)
  unfolding bits_here
  bits_wider w =
      behind_same (expect m.OpenBracket) (λ _. behind_same integer_here (λ l. behind_same (expect m.Comma) (λ _. behind_same integer_here (λ c. behind_same (expect m.CloseBracket)
      (λ _. wider_before _ value_wider)))))

  invoke_wider : (w : Name) → Widened (invoke_here most w) (invoke_here (more + most) w)
  unfolding invoke_here
  invoke_wider w = behind_same (expect m.Open) (λ _. wider_before _ (wider_listed (wider_whole more most in_section)))

  invoke_by_wider : (w : Name) (x : Option Feature) → Widened (invoke_by most w x) (invoke_by (more + most) w x)
  invoke_by_wider w None = invoke_wider w
  invoke_by_wider w (Some feature) = wider_same _

  named_by_wider : (w : Name) (o : Option Sym) → Widened (named_by most w o) (named_by (more + most) w o)
  named_by_wider w (Some (mark m.Colon)) = declare_wider w
  named_by_wider w (Some (mark m.OpenBracket)) = bits_wider w
  named_by_wider w (Some (mark m.Open)) = invoke_by_wider w (missing_function w)
  named_by_wider w o = assign_wider w

  begun_by_wider : (w : Name) (x : Option Feature) → Widened (begun_by most w x) (begun_by (more + most) w x)
  begun_by_wider w None = behind_same skip (λ _. wider_peek (named_by_wider w))
  begun_by_wider w (Some feature) = wider_same _

  statement_by_wider : (o : Option Sym) → Widened (statement_by most o) (statement_by (more + most) o)
  statement_by_wider (Some (word (quoted k.Local))) = local_wider
  statement_by_wider (Some (word (quoted k.Goto))) = goto_wider
  statement_by_wider (Some (word (quoted k.If))) = branch_wider
  statement_by_wider (Some (word (quoted k.Call))) = call_wider
  statement_by_wider (Some (word (quoted k.Return))) = return_wider
  statement_by_wider (Some (word (quoted k.Build))) = wider_same _
  statement_by_wider (Some (word (quoted k.Export))) = wider_same _
  statement_by_wider (Some (word (plain w))) = begun_by_wider w (missing_statement w)
  statement_by_wider (Some (mark m.Star)) = star_wider
  statement_by_wider (Some (mark m.Less)) = wider_same _
  statement_by_wider o = wider_same _

  statement_wider : Widened (statement most) (statement (more + most))
  unfolding statement
  statement_wider = wider_peek statement_by_wider

  pub body_wider : Widened (body most) (body (more + most))
  unfolding body
  body_wider = behind_same (expect m.OpenBrace) (λ _. wider_before _ (wider_many (until m.CloseBrace) statement_wider))

  -- ---- actions

  set_wider : Widened (set_here most) (set_here (more + most))
  unfolding set_here
  set_wider = behind_same name_here (λ w. behind_same (expect m.Equals) (λ _. wider_before _ (wider_whole more most in_action)))

  action_by_wider : (o : Option Sym) → Widened (action_by most o) (action_by (more + most) o)
  action_by_wider (Some (word (quoted k.GlobalSet))) = wider_same _
  action_by_wider o = set_wider

  action_wider : Widened (action most) (action (more + most))
  unfolding action
  action_wider = wider_peek action_by_wider

  pub actions_wider : Widened (actions most) (actions (more + most))
  unfolding actions
  actions_wider = behind_same (expect m.OpenBracket) (λ _. wider_before _ (wider_many (until m.CloseBracket) action_wider))
