-- meaning: what is wrong with an argument whose parameter the macro assigns: the second part of rule 27.
use Rattle.std.specs.Prelude.{ℕ, ◌+◌, ◌-◌, ◌==◌, ◌&&◌, ◌||◌, List, [], ◌∷◌, codes, drop, find, nat_lt}
use Rattle.std.specs.Prelude.{Bool, true, false, not, Option, Some, None, if◌then◌else◌}
use Rattle.std.specs.Str.{bytes_eq}
use Rattle.sl_explain_names.specs.Brackets.{between}
use Rattle.sl_explain_names.specs.Items.{Item, begins_at, begins_statement, is_macro, is_section, is_settled, kind_of, name_at}
use Rattle.sl_explain_names.specs.Names.{is_known}
use Rattle.sl_explain_names.specs.Patterns.{found}
use Rattle.sl_explain_names.specs.Sections.{commas, depths, is_called, is_name, is_number}
use Rattle.sl_explain_names.specs.TokenKinds.{has_after, has_before, text_after}
use Rattle.sl_explain_names.specs.declared.findings.Finding.{Finding}
use Rattle.sl_explain_names.specs.declared.findings.Finding.TheVariants as finding
use Rattle.sl_explain_names.specs.declared.names.Mention.{Mention}
use Rattle.sl_explain_names.specs.declared.places.Place.{Place}
use Rattle.sl_lex.specs.Reading.{Token}

-- ---- the call

-- the name of a macro that a statement calls
abbrev pub is_macro_call : Item → Place → Bool
is_macro_call i p = is_called i p && (begins_statement i p && is_macro (kind_of i (name_at i p)))

-- the tokens between the bracket behind the name of a call and a later token
abbrev pub given_before : List Token → (call index : ℕ) → List Token
given_before ts call index = between (drop 2 (drop call ts)) 0 (index - call - 2)

-- An argument begins behind the bracket of its call, or behind a comma that is in no further one.
abbrev pub begins_argument : Item → (at call : Place) → Bool
begins_argument i at call =
    (has_before i.tokens at.index 1 (codes "(") || has_before i.tokens at.index 1 (codes ","))
    && (depths 0 (given_before i.tokens call.index at.index) == 0)

abbrev pub takes : Item → (at call : Place) → Bool
takes i at call =
    nat_lt call.index at.index && (is_macro_call i call && (not (is_settled i call at) && begins_argument i at call))

-- the call of a macro of which an argument begins at this place
abbrev pub call_of : Item → (at : Place) → Option Place
call_of i at = find (takes i at) i.places

-- how many of its arguments stand before it
abbrev pub count_before : Item → (at call : Place) → ℕ
count_before i at call = commas 0 (given_before i.tokens call.index at.index)

-- ---- what the macro assigns

-- Behind the name of a macro and a bracket its parameters stand, a comma between two.
abbrev pub parameter_name : List Token → (of count : ℕ) → List ℕ
parameter_name ts of count = text_after (drop 2 (drop of ts)) count count

-- a statement that begins here assigns the name, or bits of it
abbrev pub assigns : List Token → (name : List ℕ) → (index : ℕ) → (text : List ℕ) → Bool
assigns ts name index text =
    bytes_eq text name && (begins_at ts index && (has_after ts index 1 (codes "=") || has_after ts index 1 (codes "[")))

-- one of these tokens, which are those from this index on, up to the brace that closes
abbrev pub assigns_from : List Token → (name : List ℕ) → (index : ℕ) → List Token → Bool
assigns_from ts name index [] = false
assigns_from ts name index (t ∷ left) =
    if bytes_eq t.text (codes "}") then false
    else if assigns ts name index t.text then true
    else assigns_from ts name (index + 1) left

-- the macro whose name has this index assigns a parameter of this name by itself
abbrev pub macro_assigns : List Token → (name : List ℕ) → (of : ℕ) → Bool
macro_assigns ts name of = assigns_from ts name of (drop of ts)

-- ---- 27

-- a name that is an argument by itself
abbrev pub is_by_itself : Item → Place → Bool
is_by_itself i p = is_name i p && (has_after i.tokens p.index 1 (codes ",") || has_after i.tokens p.index 1 (codes ")"))

abbrev pub given_finding : Item → (at call : Place) → (of count : ℕ) → Option Finding
given_finding i at call of count =
    if is_by_itself i at then found (is_number i (name_at i at)) (finding.Assigned true call.index of count)
    else Some (finding.Assigned false call.index of count)

abbrev pub passed_finding : Item → (at call : Place) → (of count : ℕ) → Option Finding
passed_finding i at call of count =
    if macro_assigns i.tokens (parameter_name i.tokens of count) of then given_finding i at call of count else None

abbrev pub argument_by : Item → (at call : Place) → Option Mention → Option Finding
argument_by i at call None = None
argument_by i at call (Some m) = passed_finding i at call m.index (count_before i at call)

abbrev pub argument_of : Item → (at : Place) → (call : Option Place) → Option Finding
argument_of i at None = None
argument_of i at (Some call) = argument_by i at call (find (is_known i.tokens i.start (name_at i call)) i.names)

-- an argument whose parameter the macro assigns is a name that may be assigned
abbrev pub argument_finding : Item → Place → Option Finding
argument_finding i p = if is_section p.part then argument_of i p (call_of i p) else None
