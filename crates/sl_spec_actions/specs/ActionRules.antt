-- meaning: disassembly actions, rules 21 to 25 (SLEIGH manual, "Disassembly Actions Section").
use Rattle.std.specs.Prelude.{Bool, true, not, ◌&&◌, ◌||◌, List, [], ◌∷◌, codes}
use Rattle.std.specs.List.{list_all}
use Rattle.std.specs.Str.{bytes_eq}
use Rattle.sl_ast.specs.Trees.{Action, set, global_set, Operand, by_name, by_integer}
use Rattle.sl_spec_rules.specs.Demands.{Demand}
use Rattle.sl_spec_rules.specs.Names.{Name, is_among}
use Rattle.sl_spec.specs.Named.{has_name}
use Rattle.sl_spec.specs.Tables.{Table}
use Rattle.sl_spec.specs.declared.tables.Tables.{Tables}
use Rattle.sl_spec_actions.specs.Parts.{Part}
use Rattle.sl_spec_actions.specs.ActionNames.{is_context_field, is_token_field, names_in, with_action}
use Rattle.sl_spec_actions.specs.Standing.{Standing, standing}

-- the names that are there from the start
unfoldable pub built_in_names : List Name
built_in_names = codes "const" ∷ codes "unique" ∷ codes "instruction" ∷ codes "inst_start"
    ∷ codes "inst_next" ∷ codes "epsilon" ∷ []

-- whether the name is there from the start, is defined by now, or is that of one of all tables of
-- the text
abbrev pub is_global : List Table → Tables → Name → Bool
is_global all t name =
    is_among built_in_names name || (has_name (λ s. s.name) name t.spaces
    || (has_name (λ r. r.name) name t.registers || (has_name (λ r. r.name) name t.bitranges
    || (has_name (λ u. u.name) name t.userops || (has_name (λ k. k.name) name t.tokens
    || (has_name (λ f. f.name) name t.fields || (has_name (λ m. m.name) name t.macros
    || has_name (λ b. b.name) name all)))))))

abbrev pub is_start : Name → Bool
is_start name = bytes_eq name (codes "inst_start")

abbrev pub is_next : Name → Bool
is_next name = bytes_eq name (codes "inst_next")

-- Each rule is about one action, where these action names are set before it.

-- 21: an action's left side is a context field, or a name that is no global name and no earlier
-- left side
unfoldable pub has_new_left : List Table → Tables → List Name → Action → Bool
has_new_left all t before (set name e) =
    is_context_field t name || (not (is_global all t name) && not (is_among before name))
has_new_left all t before (global_set at field) = true

-- one of the names that 22 lists
abbrev pub is_usable : Tables → Standing → List Name → Name → Bool
is_usable t stands before name =
    (is_token_field t name && stands.anywhere name) || (is_context_field t name
    || (is_among before name || (is_start name || is_next name)))

-- 22: names in action expressions are token fields of the pattern, context fields, earlier action
-- names, `inst_start`, `inst_next`
unfoldable pub uses_known_names : Tables → Standing → List Name → Action → Bool
uses_known_names t stands before (set name e) = list_all (is_usable t stands before) (names_in e)
uses_known_names t stands before (global_set at field) = true

-- neither `inst_next` nor an action name, and nowhere behind a table
abbrev pub is_early : Standing → List Name → Name → Bool
is_early stands before name =
    not (is_next name) && (not (is_among before name) && not (stands.behind_table name))

-- 23: an action on a context field uses no `inst_next` and no action name, and no field that stands
-- right of a `;` whose left side holds a table
unfoldable pub uses_early_names : Tables → Standing → List Name → Action → Bool
uses_early_names t stands before (set name e) =
    not (is_context_field t name) || list_all (is_early stands before) (names_in e)
uses_early_names t stands before (global_set at field) = true

-- 24: `globalset` names a context field
unfoldable pub sets_context_field : Tables → List Name → Action → Bool
sets_context_field t before (set name e) = true
sets_context_field t before (global_set at field) = is_context_field t field

abbrev pub is_address : Tables → Standing → List Name → Operand → Bool
is_address t stands before (by_integer n) = true
is_address t stands before (by_name name) =
    is_start name || (is_next name || ((is_token_field t name && stands.bare name)
    || is_among before name))

-- 25: its address is an integer, `inst_start`, `inst_next`, a bare token field or an earlier action
-- name
unfoldable pub has_address : Tables → Standing → List Name → Action → Bool
has_address t stands before (set name e) = true
has_address t stands before (global_set at field) = is_address t stands before at

-- whether a rule holds of each action, with the action names that are set before it
unfoldable pub each_holds : Tables → (List Name → Action → Bool) → List Name → List Action → Bool
each_holds t holds before [] = true
each_holds t holds before (a ∷ as') =
    holds before a && each_holds t holds (with_action t before a) as'

-- rules 21 to 25 of the actions of a constructor, with all tables of the text, what is defined by
-- now, and how names stand in its pattern
abbrev pub action_demands_by : List Table → Tables → Standing → List Action → List Demand
action_demands_by all t stands as' =
    (21, each_holds t (has_new_left all t) [] as')
    ∷ (22, each_holds t (uses_known_names t stands) [] as')
    ∷ (23, each_holds t (uses_early_names t stands) [] as')
    ∷ (24, each_holds t (sets_context_field t) [] as')
    ∷ (25, each_holds t (has_address t stands) [] as') ∷ []

-- the same by the parts of its pattern
abbrev pub action_demands : List Table → Tables → List Part → List Action → List Demand
action_demands all t ps as' = action_demands_by all t (standing ps) as'
