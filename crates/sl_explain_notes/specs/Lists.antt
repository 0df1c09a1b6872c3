-- meaning: lists of registers and of names that are attached to a field with more values, and are a part of a longer one.
use Rattle.std.specs.Prelude.{ℕ, ◌+◌, ◌*◌, ◌^◌, ◌&&◌, ◌||◌, List, [], ◌∷◌, ◌++◌, codes, drop, find, length, nat_lt, take}
use Rattle.std.specs.Prelude.{Bool, true, false, Option, Some, None, if◌then◌else◌}
use Rattle.std.specs.Str.{bytes_eq}
use Rattle.sl_explain_heads.specs.Words.{text_at}
use Rattle.sl_explain_names.specs.Definitions.{is_attached_role, width_at}
use Rattle.sl_explain_names.specs.Names.{is_known, steps_to}
use Rattle.sl_explain_names.specs.TokenKinds.{has_after, has_before}
use Rattle.sl_explain_names.specs.declared.names.Mention.{Mention}
use Rattle.sl_explain_notes.specs.Uses.{told_at}
use Rattle.sl_explain_notes.specs.declared.notes.Note.{Note}
use Rattle.sl_explain_notes.specs.declared.notes.Note.TheVariants as note
use Rattle.sl_explain_notes.specs.declared.notes.Told.{Told}
use Rattle.sl_lex.specs.Reading.{Token}

-- ---- the members of a list

-- `attach KIND FIELD [ MEMBERS ] ;` or `attach KIND [ FIELDS ] [ MEMBERS ] ;`
abbrev pub has_several : List Token → (head : ℕ) → Bool
has_several ts head = has_after ts head 2 (codes "[")

-- what stands behind the bracket that closes the fields and the next one
abbrev pub behind_fields : List Token → List Token
behind_fields ts = drop 2 (drop (steps_to (codes "]") ts) ts)

-- the tokens from the first member on
abbrev pub list_from : List Token → (head : ℕ) → List Token
list_from ts head = if has_several ts head then behind_fields (drop 3 (drop head ts)) else drop 4 (drop head ts)

abbrev pub up_to_bracket : List Token → List Token
up_to_bracket ts = take (steps_to (codes "]") ts) ts

-- the members of the list that the item attaches whose first token has this index
abbrev pub members : List Token → (head : ℕ) → List Token
members ts head = up_to_bracket (list_from ts head)

-- ---- parts of lists

-- the list has these members from this one on, one behind the other
abbrev pub has_from : (list : List Token) → (at : ℕ) → (part : List Token) → Bool
has_from list at [] = true
has_from list at (m ∷ ms) = bytes_eq (text_at list at) m.text && has_from list (at + 1) ms

abbrev pub begins_with : (list part : List Token) → Bool
begins_with list part = has_from list 0 part

-- it has them from some member on
abbrev pub has_part : (list part : List Token) → Bool
has_part [] part = false
has_part (t ∷ ts) part = begins_with (t ∷ ts) part || has_part ts part

-- ---- lists that are too short

-- the first field to which registers or names are attached
abbrev pub is_first : List Token → (index : ℕ) → Bool
is_first ts index = has_before ts index 2 (codes "attach") || has_before ts index 3 (codes "attach")

abbrev pub is_listed : List Token → (head : ℕ) → Bool
is_listed ts head = has_after ts head 1 (codes "variables") || has_after ts head 1 (codes "names")

abbrev pub has_list : List Token → Mention → Bool
has_list ts m = is_attached_role m.role && (is_first ts m.index && is_listed ts m.head)

-- a field's values, of which more than 2^32 aren't counted
abbrev pub values_of : (width : ℕ) → ℕ
values_of width = if nat_lt width 32 then 2 * 2 ^ width else 0

-- those of the field to which a list is attached
abbrev pub values : List Token → List Mention → Mention → ℕ
values ts names m = values_of (width_at ts (find (is_known ts m.head (text_at ts m.index)) names))

-- another list is longer and has these members
abbrev pub is_longer : List Token → (part : List Token) → Mention → Bool
is_longer ts part other =
    has_list ts other && (nat_lt (length part) (length (members ts other.head)) && has_part (members ts other.head) part)

abbrev pub short_by : (count values : ℕ) → Option Mention → Option Note
short_by count values None = None
short_by count values (Some other) = Some (note.ShortList count values other.head)

-- what is said of a list with these members, attached to a field with so many values
abbrev pub note_on_list : List Token → List Mention → (part : List Token) → (values : ℕ) → Option Note
note_on_list ts names part values =
    if nat_lt (length part) values then short_by (length part) values (find (is_longer ts part) names) else None

-- what is said of a token to which something is attached
abbrev pub list_note : List Token → List Mention → Mention → Option Note
list_note ts names m = if has_list ts m then note_on_list ts names (members ts m.head) (values ts names m) else None

-- the lists that are too short, by their first fields, among these tokens
abbrev pub short_lists : List Token → (names left : List Mention) → List Told
short_lists ts names [] = []
short_lists ts names (m ∷ ms) = told_at m.index (list_note ts names m) ++ short_lists ts names ms
