-- meaning: locals of sections and of macros that are never read.
use Rattle.std.specs.Prelude.{ℕ, ◌+◌, ◌&&◌, ◌||◌, List, [], ◌∷◌, ◌++◌, codes, nat_lt}
use Rattle.std.specs.Prelude.{Bool, not, if◌then◌else◌}
use Rattle.std.specs.List.{list_any}
use Rattle.std.specs.Str.{bytes_eq}
use Rattle.sl_explain_heads.specs.Words.{begins_item, blocks_in, text_at}
use Rattle.sl_explain_names.specs.Items.{Item, is_assigned, is_declared, is_free, is_named, is_operand, is_parameter, kind_of, name_at}
use Rattle.sl_explain_names.specs.Places.{places_of}
use Rattle.sl_explain_names.specs.Sections.{is_assigned_bits, is_called, is_value_name}
use Rattle.sl_explain_names.specs.declared.names.Mention.{Mention}
use Rattle.sl_explain_names.specs.declared.places.Form.TheVariants as form
use Rattle.sl_explain_names.specs.declared.places.Place.{Place}
use Rattle.sl_explain_notes.specs.declared.notes.Note.TheVariants as note
use Rattle.sl_explain_notes.specs.declared.notes.Told.{Told}
use Rattle.sl_lex.specs.Modes.{next_mode}
use Rattle.sl_lex.specs.Reading.{Token}
use Rattle.sl_lex.specs.declared.mode.Mode.{Mode}
use Rattle.sl_lex.specs.declared.mode.Mode.TheVariants as mode

-- ---- the names of a section

-- a place that declares its name or gives it a value
abbrev pub gives : Item → Place → Bool
gives i p = is_declared i p || is_assigned i p

-- a place that takes the value of its name; bits of a name are assigned without that
abbrev pub takes : Item → Place → Bool
takes i p = (is_value_name i p || is_called i p) && not (is_assigned_bits i p)

abbrev pub reads : Item → (name : List ℕ) → Place → Bool
reads i name p = is_named i name p && takes i p

abbrev pub is_read : Item → (name : List ℕ) → Bool
is_read i name = list_any (reads i name) i.places

abbrev pub gives_before : Item → (at : Place) → (name : List ℕ) → Place → Bool
gives_before i at name p = nat_lt p.index at.index && (is_named i name p && gives i p)

abbrev pub is_given_before : Item → (at : Place) → (name : List ℕ) → Bool
is_given_before i at name = list_any (gives_before i at name) i.places

-- nothing else has the name: no operand, no parameter, no definition
abbrev pub is_new : Item → (name : List ℕ) → Bool
is_new i name = not (is_operand i name) && (not (is_parameter i name) && is_free (kind_of i name))

abbrev pub is_local : Item → Place → (name : List ℕ) → Bool
is_local i p name = is_declared i p || is_new i name

-- the first place of a local that its section doesn't read
abbrev pub is_unread : Item → Place → (name : List ℕ) → Bool
is_unread i p name = not (is_read i name) && (not (is_given_before i p name) && is_local i p name)

abbrev pub is_never_read : Item → Place → Bool
is_never_read i p = gives i p && is_unread i p (name_at i p)

-- the first places of such locals, among these places
abbrev pub unread_at : Item → List Place → List Told
unread_at i [] = []
unread_at i (p ∷ ps) =
    (if is_never_read i p then record { index = p.index; note = note.NeverRead } ∷ [] else []) ++ unread_at i ps

-- ---- the items of a text

-- A macro, or a constructor with these blocks round it. Its table and its mnemonic make no difference here.
abbrev pub item_in : List Token → List Mention → (blocks : List ℕ) → (start : ℕ) → Item
item_in ts names blocks start = record {
  tokens = ts;
  start = start;
  table = [];
  names = names;
  places = places_of form.Table ts blocks start;
}

-- Items that begin with these words have no section; the brace is a block's end.
abbrev pub is_without_section : (text : List ℕ) → Bool
is_without_section text =
    bytes_eq text (codes "define") || (bytes_eq text (codes "attach") || (bytes_eq text (codes "with") || bytes_eq text (codes "}")))

abbrev pub begins : Mode → List Token → (index : ℕ) → Bool
begins m ts index = begins_item m ts index && not (is_without_section (text_at ts index))

abbrev pub unread_in : Item → List Told
unread_in i = unread_at i i.places

abbrev pub locals_at : List Token → List Mention → Mode → (blocks : List ℕ) → (index : ℕ) → List Told
locals_at ts names m blocks index = if begins m ts index then unread_in (item_in ts names blocks index) else []

-- those of the items from this index on, where these tokens are left of all
abbrev pub locals_from : List Token → List Mention → Mode → (blocks : List ℕ) → (index : ℕ) → List Token → List Told
locals_from ts names m blocks index [] = []
locals_from ts names m blocks index (t ∷ left) =
    locals_at ts names m blocks index
    ++ locals_from ts names (next_mode m t.text) (blocks_in m blocks index t.text) (index + 1) left

-- the locals of a text that are never read
abbrev pub locals : List Token → List Mention → List Told
locals ts names = locals_from ts names mode.Top [] 0 ts
