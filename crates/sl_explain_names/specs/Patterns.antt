-- meaning: what is wrong with a word of a display, a pattern or an action: rules 16 to 25, 34 and 35.
use Rattle.std.specs.Prelude.{ℕ, ◌==◌, ◌&&◌, ◌||◌, List, codes, drop, filter, length, nat_lt}
use Rattle.std.specs.Prelude.{Bool, not, Option, Some, None, if◌then◌else◌, slice_get}
use Rattle.std.specs.List.{list_any}
use Rattle.std.specs.Str.{bytes_eq}
use Rattle.sl_explain_names.specs.Brackets.{encloses, stands_behind}
use Rattle.sl_explain_names.specs.Items.{Item, has_name, has_relation, is_action, is_action_name_before, is_address_name, has_bare_name, is_bare, is_bare_name}
use Rattle.sl_explain_names.specs.Items.{is_context_field, is_display, is_field, is_free, is_in_pattern, is_left, is_named, is_operand}
use Rattle.sl_explain_names.specs.Items.{is_pattern, is_pattern_name, is_register, is_set, is_set_before, is_settled, is_table, is_token_field, is_word_in}
use Rattle.sl_explain_names.specs.Items.{kind_of, name_at}
use Rattle.sl_explain_names.specs.Names.{stands_between}
use Rattle.sl_explain_names.specs.TokenKinds.{has_after, has_before, has_kind, is_integer, number_after}
use Rattle.sl_explain_names.specs.declared.findings.Finding.{Finding}
use Rattle.sl_explain_names.specs.declared.findings.Finding.TheVariants as finding
use Rattle.sl_explain_names.specs.declared.names.Kind.{Kind}
use Rattle.sl_explain_names.specs.declared.places.Place.{Place}

-- the finding where something is wrong
abbrev pub found : (is_wrong : Bool) → Finding → Option Finding
found is_wrong f = if is_wrong then Some f else None

-- ---- displays and patterns

-- 16: each display word after the mnemonic is an operand or a register
abbrev pub shown_finding : Item → (name : List ℕ) → Option Finding
shown_finding i name = found (not (is_operand i name || is_register (kind_of i name))) (finding.NoOperand (kind_of i name))

-- The word `is` ends a display.
abbrev pub is_display_word : Item → Place → Bool
is_display_word i p = is_display p.part && (is_word_in i p && not (is_named i (codes "is") p))

abbrev pub display_finding : Item → Place → Option Finding
display_finding i p = if is_display_word i p then shown_finding i (name_at i p) else None

-- 17: a name with a relation is a field; a bare name is a field, a table, or `epsilon`
abbrev pub related_finding : Kind → Option Finding
related_finding k = found (not (is_field k)) (finding.HasRelation k)

abbrev pub bare_finding : Kind → Option Finding
bare_finding k = found (not (is_field k || is_table k)) (finding.Is k)

abbrev pub name_finding : Item → Place → Kind → Option Finding
name_finding i p k = if has_relation i p then related_finding k else bare_finding k

abbrev pub pattern_finding : Item → Place → Option Finding
pattern_finding i p = if is_pattern_name i p then name_finding i p (kind_of i (name_at i p)) else None

-- 18: no name but `epsilon` is bare twice
abbrev pub has_bare_name_before : Item → (at : Place) → (name : List ℕ) → Place → Bool
has_bare_name_before i at name p = nat_lt p.index at.index && has_bare_name i name p

abbrev pub is_bare_before : Item → (at : Place) → (name : List ℕ) → Bool
is_bare_before i at name = list_any (has_bare_name_before i at name) i.places

abbrev pub twice_finding : Item → Place → Option Finding
twice_finding i p = found (is_bare_name i p && is_bare_before i p (name_at i p)) finding.BareTwice

-- a place that adds an operand: a bare name, or an action's name, that isn't there before
abbrev pub adds_bare_name : Item → Place → Bool
adds_bare_name i p = is_bare_name i p && not (is_bare_before i p (name_at i p))

abbrev pub adds_action_name : Item → Place → (name : List ℕ) → Bool
adds_action_name i p name = is_left i p && (not (is_context_field (kind_of i name)) && not (is_set_before i p name))

abbrev pub adds_operand : Item → Place → Bool
adds_operand i p = adds_bare_name i p || adds_action_name i p (name_at i p)

abbrev pub adds_before : Item → (at : Place) → Place → Bool
adds_before i at p = nat_lt p.index at.index && adds_operand i p

-- how many operands are added before a place
abbrev pub operands_before : Item → (at : Place) → ℕ
operands_before i at = length (filter (adds_before i at) i.places)

-- 18: a constructor has at most 32 operands
abbrev pub most_operands : ℕ
most_operands = 32

abbrev pub operand_finding : Item → Place → Option Finding
operand_finding i p = found (adds_operand i p && (operands_before i p == most_operands)) finding.TooManyOperands

-- a mark of the pattern
abbrev pub is_mark : Item → Place → (mark : List ℕ) → Bool
is_mark i p mark = is_pattern p.part && is_named i mark p

abbrev pub has_between : Item → (before after : Place) → (mark : List ℕ) → Bool
has_between i before after mark = stands_between i.tokens mark before.index after.index

-- Two places are in one pattern, and not in that of a block and one inside: no brace stands between them.
abbrev pub are_in_one : Item → Place → Place → Bool
are_in_one i p q = not (has_between i p q (codes "{")) && not (has_between i q p (codes "{"))

-- 19: a `|`, which joins least tightly, is round all in its brackets
abbrev pub is_or_round : Item → (at : Place) → Place → Bool
is_or_round i at p = is_mark i p (codes "|") && (are_in_one i p at && encloses i.tokens p.index at.index)

abbrev pub is_inside_or : Item → (at : Place) → Bool
is_inside_or i at = list_any (is_or_round i at) i.places

-- inside `|` no name but `epsilon` is bare
abbrev pub inside_finding : Item → Place → Option Finding
inside_finding i p = found (is_bare_name i p && is_inside_or i p) finding.IsBare

-- 20: another part of the pattern begins between two places
abbrev pub are_parted : Item → (before after : Place) → Bool
are_parted i before after =
    has_between i before after (codes "&") || (has_between i before after (codes ";")
    || (has_between i before after (codes "|") || has_between i before after (codes "{")))

-- a division of the constraint at a place
abbrev pub divides : Item → (at : Place) → Place → Bool
divides i at p = is_mark i p (codes "/") && (nat_lt at.index p.index && not (are_parted i at p))

-- one by the integer 0
abbrev pub divides_by_zero : Item → (at : Place) → Place → Bool
divides_by_zero i at p =
    divides i at p && (has_kind is_integer (slice_get (drop p.index i.tokens) 1) && (number_after i.tokens p.index 1 == 0))

-- one of another constraint
abbrev pub divides_elsewhere : Item → (at : Place) → Place → Bool
divides_elsewhere i at p = is_mark i p (codes "/") && not (divides i at p)

abbrev pub is_constrained : Item → Place → Bool
is_constrained i p = is_pattern_name i p && has_relation i p

abbrev pub has_zero : Item → (at : Place) → Bool
has_zero i at = list_any (divides_by_zero i at) i.places

-- no constraint divides by 0: the integer
abbrev pub zero_finding : Item → Place → Option Finding
zero_finding i p = found (is_constrained i p && has_zero i p) finding.DividesByZero

abbrev pub has_division : Item → (at : Place) → Bool
has_division i at = list_any (divides i at) i.places

abbrev pub has_other_division : Item → (at : Place) → Bool
has_other_division i at = list_any (divides_elsewhere i at) i.places

-- or else, where one constraint alone divides, that one
abbrev pub division_finding : Item → Place → Option Finding
division_finding i p =
    found (is_constrained i p && (has_division i p && not (has_other_division i p))) finding.DividesByZero

-- 34: no table names itself
abbrev pub itself_finding : Item → Place → Option Finding
itself_finding i p = found (is_bare_name i p && is_named i i.table p) finding.NamesItself

-- 35: at the constructor's first token
abbrev pub start_finding : Item → Place → Option Finding
start_finding i p = found (p.index == i.start) finding.NoBytes

-- ---- actions

-- 21: an action's left side is a context field, or a name that is no global name and set by no earlier action
abbrev pub is_built_in : (name : List ℕ) → Bool
is_built_in name =
    is_address_name name || (bytes_eq name (codes "const") || (bytes_eq name (codes "unique") || bytes_eq name (codes "epsilon")))

abbrev pub is_global : Item → (name : List ℕ) → Bool
is_global i name = is_built_in name || not (is_free (kind_of i name))

abbrev pub new_finding : Item → Place → (name : List ℕ) → Option Finding
new_finding i p name =
    if is_context_field (kind_of i name) then None
    else if is_global i name then Some (finding.Is (kind_of i name))
    else found (is_set_before i p name) finding.SetBefore

abbrev pub left_finding : Item → Place → Option Finding
left_finding i p = if is_left i p then new_finding i p (name_at i p) else None

-- a place in an action's expression: neither its left side, nor a word of `globalset`
abbrev pub is_field_set : Item → Place → Bool
is_field_set i p = is_action p.part && (is_word_in i p && (has_before i.tokens p.index 1 (codes ",") && has_after i.tokens p.index 1 (codes ")")))

abbrev pub is_address : Item → Place → Bool
is_address i p = is_action p.part && (is_word_in i p && has_before i.tokens p.index 2 (codes "globalset"))

abbrev pub is_used : Item → Place → Bool
is_used i p =
    is_action p.part && (is_word_in i p && (not (is_left i p) && (not (is_named i (codes "globalset") p)
    && (not (is_field_set i p) && not (is_address i p)))))

-- 22: an action uses token fields of the pattern, context fields, action names set before, `inst_start` and `inst_next`
abbrev pub unknown_finding : Item → (name : List ℕ) → Option Finding
unknown_finding i name =
    if is_token_field (kind_of i name) then found (not (is_in_pattern i name)) finding.NotInPattern
    else if is_set i name then Some finding.NotYetSet
    else Some (finding.Is (kind_of i name))

abbrev pub use_finding : Item → Place → (name : List ℕ) → Option Finding
use_finding i p name =
    if is_address_name name || (is_context_field (kind_of i name) || is_action_name_before i p name) then None
    else unknown_finding i name

abbrev pub used_finding : Item → Place → Option Finding
used_finding i p = if is_used i p then use_finding i p (name_at i p) else None

-- 23: a field of the context that the action sets in which a place is
abbrev pub sets_context : Item → (at : Place) → Place → Bool
sets_context i at p =
    is_left i p && (is_context_field (kind_of i (name_at i p)) && (nat_lt p.index at.index && not (is_settled i p at)))

abbrev pub is_for_context : Item → (at : Place) → Bool
is_for_context i at = list_any (sets_context i at) i.places

-- a table on the left of a `;` on whose right a place is
abbrev pub is_table_before : Item → (at : Place) → Place → Bool
is_table_before i at p =
    is_bare_name i p && (is_table (kind_of i (name_at i p)) && (nat_lt p.index at.index
    && (are_in_one i p at && stands_behind i.tokens p.index at.index)))

abbrev pub is_behind_table : Item → (at : Place) → Bool
is_behind_table i at = list_any (is_table_before i at) i.places

abbrev pub has_name_behind : Item → (name : List ℕ) → Place → Bool
has_name_behind i name p = has_name i name p && is_behind_table i p

abbrev pub is_name_behind : Item → (name : List ℕ) → Bool
is_name_behind i name = list_any (has_name_behind i name) i.places

abbrev pub early_finding : Item → Place → (name : List ℕ) → Option Finding
early_finding i p name =
    if bytes_eq name (codes "inst_next") then Some finding.NotYetKnown
    else if is_action_name_before i p name then Some finding.ActionName
    else found (is_name_behind i name) finding.BehindTable

-- an action on a context field uses no `inst_next`, no action name, and no field right of a `;` whose left side holds a table
abbrev pub context_finding : Item → Place → Option Finding
context_finding i p = if is_used i p && is_for_context i p then early_finding i p (name_at i p) else None

-- 24: `globalset` names a context field
abbrev pub committed_finding : Kind → Option Finding
committed_finding k =
    if is_context_field k then None else if is_token_field k then Some finding.OfToken else Some (finding.Is k)

abbrev pub set_finding : Item → Place → Option Finding
set_finding i p = if is_field_set i p then committed_finding (kind_of i (name_at i p)) else None

-- 25: its address is an integer, `inst_start`, `inst_next`, a bare token field or an earlier action name
abbrev pub place_finding : Item → Place → (name : List ℕ) → Option Finding
place_finding i p name =
    if is_address_name name || is_action_name_before i p name then None
    else if is_token_field (kind_of i name) then found (not (is_bare i name)) finding.NotBare
    else Some (finding.Is (kind_of i name))

abbrev pub address_finding : Item → Place → Option Finding
address_finding i p = if is_address i p then place_finding i p (name_at i p) else None
