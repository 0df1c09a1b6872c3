-- meaning: which parameters a macro assigns (SLEIGH manual, "P-code Macros").
use Rattle.std.specs.Prelude.{Bool, List, [], ◌∷◌, ◌++◌, fold, map, if◌then◌else◌}
use Rattle.std.specs.Prelude.{Option, Some, None}
use Rattle.sl_ast.specs.Trees.{Expression, named, Left, left_name, left_bits, left_star}
use Rattle.sl_ast.specs.Trees.{Statement, assign, invoke, Macro}
use Rattle.sl_section_resolve.specs.Steps.{with_name}
use Rattle.sl_spec_rules.specs.Names.{Name, is_among}
use Rattle.sl_spec.specs.Named as by_name
use Rattle.sl_spec.specs.Named.{has_name}

-- a macro as calls of it are judged: for each parameter, whether the macro assigns it or passes it
-- on to a parameter that is assigned
pub record Signature : Type 0 where
  pub name : Name
  pub assigned : List Bool

abbrev pub macro_named : Name → List Signature → Option Signature
macro_named w macros = by_name.named (λ m. m.name) w macros

-- with the name that a left side assigns
abbrev pub with_left : List Name → Left → List Name
with_left names (left_name w) = with_name names w
with_left names (left_bits w l c) = with_name names w
with_left names (left_star form p) = names

-- with the name that an argument is
abbrev pub with_argument : List Name → Expression → List Name
with_argument names (named w) = with_name names w
with_argument names _ = names

abbrev pub with_passed_one : List Name → (assigned : Bool) → Expression → List Name
with_passed_one names assigned e = if assigned then with_argument names e else names

-- with the arguments that are passed on to parameters that are assigned
abbrev pub with_passed : List Name → List Bool → List Expression → List Name
with_passed names [] es = names
with_passed names (a ∷ as') [] = names
with_passed names (a ∷ as') (e ∷ es) = with_passed (with_passed_one names a e) as' es

abbrev pub with_call : List Name → Option Signature → List Expression → List Name
with_call names None es = names
with_call names (Some m) es = with_passed names m.assigned es

-- with the names that a statement assigns, itself or through a call of an earlier macro
abbrev pub with_assigned : List Signature → List Name → Statement → List Name
with_assigned macros names (assign left e) = with_left names left
with_assigned macros names (invoke w es) = with_call names (macro_named w macros) es
with_assigned macros names _ = names

-- the names that statements assign, each once
abbrev pub assigned_names : List Signature → List Statement → List Name
assigned_names macros body = fold (with_assigned macros) [] body

abbrev pub signature_by : Name → List Name → (assigned : List Name) → Signature
signature_by w ps assigned = record { name = w; assigned = map (is_among assigned) ps }

-- a macro, by the macros before it
abbrev pub signature_of : List Signature → Macro → Signature
signature_of macros m = signature_by m.name m.parameters (assigned_names macros m.body)

-- The macros with one more. One of a name that is there already breaks rule 3.
abbrev pub with_signature : List Signature → Signature → List Signature
with_signature macros m = if has_name (λ m. m.name) m.name macros then macros
    else macros ++ m ∷ []
