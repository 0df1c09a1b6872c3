-- meaning: the names of disassembly actions.
use Rattle.std.specs.Prelude.{Bool, false, List, [], ◌∷◌, ◌++◌, fold, Option, None, Some}
use Rattle.std.specs.Prelude.{is_none, is_some, if◌then◌else◌}
use Rattle.sl_ast.specs.Trees.{Action, set, global_set, Expression, Expressions}
use Rattle.sl_ast.specs.Trees.{integer, named, paren, call, sized, dropped, bits, prefix, star}
use Rattle.sl_ast.specs.Trees.{binary, no_more, with_more}
use Rattle.sl_spec_rules.specs.Names.{Name, is_among}
use Rattle.sl_spec.specs.Named as by_name
use Rattle.sl_spec.specs.Tables.{Field}
use Rattle.sl_spec.specs.declared.tables.Tables.{Tables}

-- ---- fields

abbrev pub is_of_context : Option Field → Bool
is_of_context None = false
is_of_context (Some f) = is_none f.token

abbrev pub is_of_token : Option Field → Bool
is_of_token None = false
is_of_token (Some f) = is_some f.token

-- whether a field of the context has this name
abbrev pub is_context_field : Tables → Name → Bool
is_context_field t name = is_of_context (by_name.named (λ f. f.name) name t.fields)

-- whether a field of a token has this name
abbrev pub is_token_field : Tables → Name → Bool
is_token_field t name = is_of_token (by_name.named (λ f. f.name) name t.fields)

-- ---- names that actions set

-- the names with one more, which stands once
abbrev pub with_name : List Name → Name → List Name
with_name names name = if is_among names name then names else names ++ name ∷ []

-- the action names with that of an action: its left side, where that is no field of the context
abbrev pub with_action : Tables → List Name → Action → List Name
with_action t names (set name e) =
    if is_context_field t name then names else with_name names name
with_action t names (global_set at field) = names

-- the action names, each once, in the text's order
abbrev pub action_names : Tables → List Action → List Name
action_names t as' = fold (with_action t) [] as'

-- ---- names that actions use

-- with the space of a `*` that names one
abbrev pub with_space : List Name → Option Name → List Name
with_space names None = names
with_space names (Some space) = names ++ space ∷ []

unfoldable mutual
  -- the names of an expression in the text's order, behind these
  pub names_behind : List Name → Expression → List Name
  names_behind before (integer n) = before
  names_behind before (named name) = before ++ name ∷ []
  names_behind before (paren e) = names_behind before e
  names_behind before (call name es) = names_behind_all (before ++ name ∷ []) es
  names_behind before (sized e n) = names_behind before e
  names_behind before (dropped e n) = names_behind before e
  names_behind before (bits e low count) = names_behind before e
  names_behind before (prefix op e) = names_behind before e
  names_behind before (star space size e) = names_behind (with_space before space) e
  names_behind before (binary op l r) = names_behind (names_behind before l) r

  pub names_behind_all : List Name → Expressions → List Name
  names_behind_all before no_more = before
  names_behind_all before (with_more e es) = names_behind_all (names_behind before e) es

-- the names of an expression in the text's order
abbrev pub names_in : Expression → List Name
names_in e = names_behind [] e
