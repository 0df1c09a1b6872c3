-- meaning: the lines of the notes on a text, by what they are told of: ten of each at most, and how many more there are.
use Rattle.std.specs.Prelude.{ℕ, ◌-◌, List, [], ◌∷◌, ◌++◌, codes, filter, length, nat_lt, take}
use Rattle.std.specs.Prelude.{Bool, true, false, if◌then◌else◌}
use Rattle.std.specs.Fmt.{decimal}
use Rattle.sl_explain_heads.specs.Words.{text_at}
use Rattle.sl_explain_lines.specs.Excerpts.{shown_up_to}
use Rattle.sl_explain_lines.specs.FactLines.{fact_line}
use Rattle.sl_explain_notes.specs.Notes.{notes}
use Rattle.sl_explain_notes.specs.declared.lines.Subject.{Subject}
use Rattle.sl_explain_notes.specs.declared.lines.Subject.TheVariants as subject
use Rattle.sl_explain_notes.specs.declared.notes.Note.{Note}
use Rattle.sl_explain_notes.specs.declared.notes.Note.TheVariants as note
use Rattle.sl_explain_notes.specs.declared.notes.Told.{Told}
use Rattle.sl_explain_places.specs.TokenPlaces.{token_place}
use Rattle.sl_lex.specs.Reading.{Token}
use Rattle.sl_preproc.specs.Expanded as expanded

-- ---- words

abbrev pub name_words : List Token → (index : ℕ) → List ℕ
name_words ts index = shown_up_to 40 (text_at ts index)

-- what is said of the name, where it is one phrase
abbrev pub phrase : Note → List ℕ
phrase note.UnusedField = codes " is attached, and no pattern and no action has it"
phrase note.UncalledMacro = codes " is a macro that nothing calls"
phrase note.UncalledOperation = codes " is a user operation that nothing calls"
phrase note.NeverRead = codes " is a local that is never read"
phrase _ = []

unfoldable pub has_words : (values : ℕ) → List ℕ
has_words values = codes " has " ++ decimal values

abbrev pub values_words : (values : ℕ) → List ℕ
values_words values = has_words values ++ codes " values and "

unfoldable pub members_words : (members : ℕ) → List ℕ
members_words members = decimal members ++ codes " members, which stand in the list of "

abbrev pub list_words : (members values : ℕ) → List ℕ
list_words members values = values_words values ++ members_words members

-- what is said behind the place of a token
abbrev pub said : expanded.Text → List Token → Note → List ℕ
said t ts (note.ShortList members values longer) = list_words members values ++ token_place t ts longer
said t ts n = phrase n

abbrev pub named_words : expanded.Text → List Token → Told → List ℕ
named_words t ts told = token_place t ts told.index ++ (codes " " ++ (name_words ts told.index ++ said t ts told.note))

abbrev pub idle_words : expanded.Text → List Token → (index : ℕ) → List ℕ
idle_words t ts index = name_words ts index ++ (codes " " ++ token_place t ts index)

abbrev pub note_line : expanded.Text → List Token → Told → Note → List ℕ
note_line t ts told note.IdleTable = fact_line (codes "  idle  ") (idle_words t ts told.index)
note_line t ts told n = fact_line (codes "  note  ") (named_words t ts told)

-- ---- lines

abbrev pub is_on : Subject → Note → Bool
is_on subject.Table note.IdleTable = true
is_on subject.Field note.UnusedField = true
is_on subject.Macro note.UncalledMacro = true
is_on subject.Operation note.UncalledOperation = true
is_on subject.List (note.ShortList members values longer) = true
is_on subject.Local note.NeverRead = true
is_on _ _ = false

abbrev pub is_told_of : Subject → Told → Bool
is_told_of s told = is_on s told.note

abbrev pub all_lines : expanded.Text → List Token → List Told → List ℕ
all_lines t ts [] = []
all_lines t ts (told ∷ more) = note_line t ts told told.note ++ all_lines t ts more

abbrev pub label : Subject → List ℕ
label subject.Table = codes "  idle  "
label _ = codes "  note  "

abbrev pub most : ℕ
most = 10

unfoldable pub more_words : (count : ℕ) → List ℕ
more_words count = decimal count ++ codes " more"

-- how many there are besides the first ones
abbrev pub more_line : Subject → (count : ℕ) → List ℕ
more_line s count = if nat_lt most count then fact_line (label s) (more_words (count - most)) else []

-- the lines of these notes
abbrev pub lines_by : expanded.Text → List Token → Subject → List Told → List ℕ
lines_by t ts s told = all_lines t ts (take most told) ++ more_line s (length told)

-- those of one subject
unfoldable pub lines_on : expanded.Text → List Token → List Told → Subject → List ℕ
lines_on t ts told s = lines_by t ts s (filter (is_told_of s) told)

abbrev pub lines_of : expanded.Text → List Token → List Told → List ℕ
lines_of t ts told =
    lines_on t ts told subject.Table ++ (lines_on t ts told subject.Field ++ (lines_on t ts told subject.Macro
    ++ (lines_on t ts told subject.Operation ++ (lines_on t ts told subject.List ++ lines_on t ts told subject.Local))))

-- the lines of the notes on a text
unfoldable pub note_lines : expanded.Text → List Token → List ℕ
note_lines t ts = lines_of t ts (notes ts)
