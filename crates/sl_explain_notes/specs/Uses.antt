-- meaning: the names that a text uses, and those that it defines or attaches something to, and doesn't use.
use Rattle.std.specs.Prelude.{ℕ, ◌+◌, ◌&&◌, List, [], ◌∷◌, ◌++◌, codes}
use Rattle.std.specs.Prelude.{Bool, true, false, not, Option, Some, None, if◌then◌else◌}
use Rattle.sl_base_names.specs.Names.{is_in}
use Rattle.sl_explain_heads.specs.Words.{text_at}
use Rattle.sl_explain_names.specs.TokenKinds.{has_after, has_before, is_word_at}
use Rattle.sl_explain_names.specs.declared.names.Kind.{Kind}
use Rattle.sl_explain_names.specs.declared.names.Kind.TheVariants as kind
use Rattle.sl_explain_names.specs.declared.names.Mention.{Mention}
use Rattle.sl_explain_names.specs.declared.names.Role.{Role}
use Rattle.sl_explain_names.specs.declared.names.Role.TheVariants as role
use Rattle.sl_explain_notes.specs.declared.notes.Note.{Note}
use Rattle.sl_explain_notes.specs.declared.notes.Note.TheVariants as note
use Rattle.sl_explain_notes.specs.declared.notes.Told.{Told}
use Rattle.sl_lex.specs.Modes.{next_mode}
use Rattle.sl_lex.specs.Reading.{Token}
use Rattle.sl_lex.specs.declared.mode.Mode.{Mode}
use Rattle.sl_lex.specs.declared.mode.Mode.TheVariants as mode

-- ---- the names that are used

-- In a section the word before a bracket is called; the one behind `macro` is that of the macro itself.
abbrev pub is_call : List Token → (index : ℕ) → Bool
is_call ts index = has_after ts index 1 (codes "(") && not (has_before ts index 1 (codes "macro"))

-- a token in this mode is used as a name: one of a pattern or an action, in the head of a block too, and one that is called
abbrev pub is_used_in : Mode → List Token → (index : ℕ) → Bool
is_used_in mode.Pattern ts index = true
is_used_in mode.Head ts index = not (has_before ts index 1 (codes "with"))
is_used_in mode.Body ts index = is_call ts index
is_used_in mode.Top ts index = false
is_used_in mode.Plain ts index = false
is_used_in mode.Display ts index = false

abbrev pub uses : Mode → List Token → (index : ℕ) → Bool
uses m ts index = is_word_at ts index && is_used_in m ts index

-- these names and one more, each once
abbrev pub with_name : (names : List (List ℕ)) → (name : List ℕ) → List (List ℕ)
with_name names name = if is_in names name then names else names ++ (name ∷ [])

abbrev pub with_used : Mode → List Token → (index : ℕ) → (names : List (List ℕ)) → List (List ℕ)
with_used m ts index names = if uses m ts index then with_name names (text_at ts index) else names

-- these names and those that the tokens from this index on use, where these tokens are left of all
abbrev pub used_from : List Token → Mode → (index : ℕ) → (names : List (List ℕ)) → List Token → List (List ℕ)
used_from ts m index names [] = names
used_from ts m index names (t ∷ left) =
    used_from ts (next_mode m t.text) (index + 1) (with_used m ts index names) left

-- the name that is used by whoever reads a text
abbrev pub first_used : List (List ℕ)
first_used = codes "instruction" ∷ []

-- the names that a text uses
abbrev pub used : List Token → List (List ℕ)
used ts = used_from ts mode.Top 0 first_used ts

-- ---- those that nothing uses

-- A field that nothing uses is told only where something is attached to it: a token's other fields may be there for completeness.
abbrev pub defined_note : Kind → Option Note
defined_note kind.Table = Some note.IdleTable
defined_note kind.Macro = Some note.UncalledMacro
defined_note kind.UserOperation = Some note.UncalledOperation
defined_note _ = None

abbrev pub unused_note : Role → Option Note
unused_note (role.Defines k) = defined_note k
unused_note role.Attached = Some note.UnusedField
unused_note role.AttachedToRegisters = Some note.UnusedField
unused_note role.Context = None
unused_note role.Default = None
unused_note role.Alignment = None

-- what is said of a token, where these names are used
abbrev pub note_on : List Token → (names : List (List ℕ)) → Mention → Option Note
note_on ts names m = if is_in names (text_at ts m.index) then None else unused_note m.role

abbrev pub told_at : (index : ℕ) → Option Note → List Told
told_at index None = []
told_at index (Some n) = record { index = index; note = n } ∷ []

-- A name that was told isn't told again, as a table has several constructors.
abbrev pub with_told : (names : List (List ℕ)) → (name : List ℕ) → Option Note → List (List ℕ)
with_told names name None = names
with_told names name (Some n) = names ++ (name ∷ [])

-- what is said of these tokens, where these names are used or told
abbrev pub unused_from : List Token → (names : List (List ℕ)) → List Mention → List Told
unused_from ts names [] = []
unused_from ts names (m ∷ ms) =
    told_at m.index (note_on ts names m) ++ unused_from ts (with_told names (text_at ts m.index) (note_on ts names m)) ms

-- the names that the text defines, or to which it attaches something, and doesn't use, by the first tokens that do
abbrev pub unused : List Token → List Mention → List Told
unused ts ms = unused_from ts (used ts) ms
