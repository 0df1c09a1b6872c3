-- meaning: an item with the names that are known in it: its operands, its locals, its parameters.
use Rattle.std.specs.Prelude.{ℕ, ◌&&◌, ◌||◌, List, codes}
use Rattle.std.specs.Prelude.{Bool, true, false, not}
use Rattle.std.specs.List.{list_any}
use Rattle.std.specs.Str.{bytes_eq}
use Rattle.sl_explain_heads.specs.Words.{text_at}
use Rattle.sl_explain_names.specs.Names.{kind_known, stands_between}
use Rattle.sl_explain_names.specs.TokenKinds.{has_after, has_before, has_here, is_word_at, text_after}
use Rattle.sl_explain_names.specs.declared.names.Kind.{Kind}
use Rattle.sl_explain_names.specs.declared.names.Kind.TheVariants as kind
use Rattle.sl_explain_names.specs.declared.names.Mention.{Mention}
use Rattle.sl_explain_names.specs.declared.names.Role.{Role}
use Rattle.sl_explain_names.specs.declared.names.Role.TheVariants as role
use Rattle.sl_explain_names.specs.declared.places.Part.{Part}
use Rattle.sl_explain_names.specs.declared.places.Part.TheVariants as part
use Rattle.sl_explain_names.specs.declared.places.Place.{Place}
use Rattle.sl_lex.specs.Reading.{Token}

-- An item of a text: the text's tokens, the index of the item's first one, its table, what the text says of names, and the
-- item's tokens by their parts, after those of the heads of the blocks round it.
pub record Item : Type 0 where
  pub tokens : List Token
  pub start : ℕ
  pub table : List ℕ
  pub names : List Mention
  pub places : List Place

-- ---- parts

abbrev pub is_begin : Part → Bool
is_begin part.Begin = true
is_begin _ = false

abbrev pub is_display : Part → Bool
is_display part.Display = true
is_display _ = false

abbrev pub is_pattern : Part → Bool
is_pattern part.Pattern = true
is_pattern _ = false

abbrev pub is_action : Part → Bool
is_action part.Actions = true
is_action _ = false

abbrev pub is_parameter_list : Part → Bool
is_parameter_list part.Parameters = true
is_parameter_list _ = false

abbrev pub is_section : Part → Bool
is_section part.Section = true
is_section _ = false

abbrev pub is_defining : Part → Bool
is_defining part.Definition = true
is_defining _ = false

-- ---- kinds

abbrev pub is_token_field : Kind → Bool
is_token_field kind.Field = true
is_token_field _ = false

abbrev pub is_context_field : Kind → Bool
is_context_field kind.ContextField = true
is_context_field _ = false

abbrev pub is_field : Kind → Bool
is_field k = is_token_field k || is_context_field k

abbrev pub is_table : Kind → Bool
is_table kind.Table = true
is_table _ = false

abbrev pub is_register : Kind → Bool
is_register kind.Register = true
is_register _ = false

abbrev pub is_bit_range : Kind → Bool
is_bit_range kind.BitRange = true
is_bit_range _ = false

abbrev pub is_space : Kind → Bool
is_space kind.Space = true
is_space _ = false

abbrev pub is_operation : Kind → Bool
is_operation kind.UserOperation = true
is_operation _ = false

abbrev pub is_macro : Kind → Bool
is_macro kind.Macro = true
is_macro _ = false

-- Nothing has the name, or it is a word that no definition takes.
abbrev pub is_free : Kind → Bool
is_free kind.Nothing = true
is_free kind.Reserved = true
is_free _ = false

-- ---- names

-- the name that a place has
abbrev pub name_at : Item → Place → List ℕ
name_at i p = text_at i.tokens p.index

abbrev pub is_named : Item → (name : List ℕ) → Place → Bool
is_named i name p = has_here i.tokens p.index name

abbrev pub is_word_in : Item → Place → Bool
is_word_in i p = is_word_at i.tokens p.index

-- what a name is that the text defines
abbrev pub kind_of : Item → (name : List ℕ) → Kind
kind_of i name = kind_known i.tokens i.names i.start name

-- ---- patterns

-- A name with a relation behind it is constrained, any other is bare.
abbrev pub is_relation : (text : List ℕ) → Bool
is_relation text =
    bytes_eq text (codes "=") || (bytes_eq text (codes "!=") || (bytes_eq text (codes "<") || (bytes_eq text (codes "<=")
    || (bytes_eq text (codes ">") || bytes_eq text (codes ">=")))))

abbrev pub has_relation : Item → Place → Bool
has_relation i p = is_relation (text_after i.tokens p.index 1)

-- `epsilon` by itself
abbrev pub is_empty_pattern : Item → Place → Bool
is_empty_pattern i p = is_named i (codes "epsilon") p && not (has_relation i p)

-- a name of the pattern, which that isn't, nor the word `unimpl` behind it
abbrev pub is_pattern_name : Item → Place → Bool
is_pattern_name i p =
    is_pattern p.part && (is_word_in i p && (not (is_named i (codes "unimpl") p) && not (is_empty_pattern i p)))

abbrev pub is_bare_name : Item → Place → Bool
is_bare_name i p = is_pattern_name i p && not (has_relation i p)

abbrev pub has_name : Item → (name : List ℕ) → Place → Bool
has_name i name p = is_pattern_name i p && is_named i name p

abbrev pub has_bare_name : Item → (name : List ℕ) → Place → Bool
has_bare_name i name p = is_bare_name i p && is_named i name p

-- the name is in the pattern, by itself or with a relation
abbrev pub is_in_pattern : Item → (name : List ℕ) → Bool
is_in_pattern i name = list_any (has_name i name) i.places

-- it is there by itself
abbrev pub is_bare : Item → (name : List ℕ) → Bool
is_bare i name = list_any (has_bare_name i name) i.places

-- ---- actions

-- a place that is the left side of an action
abbrev pub is_left : Item → Place → Bool
is_left i p = is_action p.part && (is_word_in i p && has_after i.tokens p.index 1 (codes "="))

abbrev pub sets : Item → (name : List ℕ) → Place → Bool
sets i name p = is_left i p && is_named i name p

-- some action sets the name
abbrev pub is_set : Item → (name : List ℕ) → Bool
is_set i name = list_any (sets i name) i.places

-- a semicolon stands between the two places
abbrev pub is_settled : Item → (before after : Place) → Bool
is_settled i before after = stands_between i.tokens (codes ";") before.index after.index

abbrev pub sets_before : Item → (at : Place) → (name : List ℕ) → Place → Bool
sets_before i at name p = sets i name p && is_settled i p at

-- an action that ends before this place sets the name
abbrev pub is_set_before : Item → (at : Place) → (name : List ℕ) → Bool
is_set_before i at name = list_any (sets_before i at name) i.places

-- an action's name: a left side that is no field of the context
abbrev pub is_action_name : Item → (name : List ℕ) → Bool
is_action_name i name = is_set i name && not (is_context_field (kind_of i name))

abbrev pub is_action_name_before : Item → Place → (name : List ℕ) → Bool
is_action_name_before i at name = is_set_before i at name && not (is_context_field (kind_of i name))

-- a bare name of the pattern, or an action's name
abbrev pub is_operand : Item → (name : List ℕ) → Bool
is_operand i name = is_bare i name || is_action_name i name

-- ---- sections

-- a parameter of the macro
abbrev pub is_parameter_place : Item → Place → Bool
is_parameter_place i p =
    is_parameter_list p.part && (is_word_in i p && (has_before i.tokens p.index 1 (codes "(") || has_before i.tokens p.index 1 (codes ",")))

abbrev pub has_parameter_name : Item → (name : List ℕ) → Place → Bool
has_parameter_name i name p = is_parameter_place i p && is_named i name p

abbrev pub is_parameter : Item → (name : List ℕ) → Bool
is_parameter i name = list_any (has_parameter_name i name) i.places

-- a statement begins here: behind a semicolon, the brace or a label
abbrev pub begins_at : List Token → (index : ℕ) → Bool
begins_at ts index =
    has_before ts index 1 (codes ";") || (has_before ts index 1 (codes "{")
    || (has_before ts index 1 (codes ">") && has_before ts index 3 (codes "<")))

abbrev pub begins_statement : Item → Place → Bool
begins_statement i p = begins_at i.tokens p.index

-- a local with its word or its size
abbrev pub is_declared : Item → Place → Bool
is_declared i p =
    is_section p.part && (is_word_in i p
    && (has_before i.tokens p.index 1 (codes "local") || (begins_statement i p && has_after i.tokens p.index 1 (codes ":"))))

-- a name that a statement assigns
abbrev pub is_assigned : Item → Place → Bool
is_assigned i p = is_section p.part && (is_word_in i p && (begins_statement i p && has_after i.tokens p.index 1 (codes "=")))

-- a place that declares or assigns the name, in a statement that ends before another one
abbrev pub makes_local : Item → (at : Place) → (name : List ℕ) → Place → Bool
makes_local i at name p = (is_declared i p || is_assigned i p) && (is_named i name p && is_settled i p at)

-- a statement that ends before this place declares or assigns the name
abbrev pub is_local_before : Item → Place → (name : List ℕ) → Bool
is_local_before i at name = list_any (makes_local i at name) i.places

-- the register of the context, which `define context` names somewhere in the text
abbrev pub is_context_role : Role → Bool
is_context_role role.Context = true
is_context_role _ = false

abbrev pub names_context : Item → (name : List ℕ) → Mention → Bool
names_context i name m = is_context_role m.role && has_here i.tokens m.index name

abbrev pub is_context_register : Item → (name : List ℕ) → Bool
is_context_register i name = list_any (names_context i name) i.names

abbrev pub is_address_name : (name : List ℕ) → Bool
is_address_name name = bytes_eq name (codes "inst_start") || bytes_eq name (codes "inst_next")

-- the name stands for something in a section, at this place
abbrev pub stands_for : Item → Place → (name : List ℕ) → Bool
stands_for i at name =
    is_operand i name || (is_parameter i name || (is_address_name name
    || (is_register (kind_of i name) || (is_bit_range (kind_of i name) || is_local_before i at name))))
