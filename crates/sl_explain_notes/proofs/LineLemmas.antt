-- What is said of a text that is accepted has no control byte.
use Rattle.std.proofs.Common.{ℕ, ◌-◌, List, [], ◌∷◌, ◌++◌, length, take, refl}
use Rattle.std.specs.Prelude.{codes, filter, nat_lt}
use Rattle.std.specs.Fmt.{decimal}
use Rattle.sl_explain_heads.specs.Words.{text_at}
use Rattle.sl_explain_lines.proofs.ShownLemmas.{AllShown, all_both, last_fact, lines_both, lines_either, number_shown, words_shown}
use Rattle.sl_explain_lines.specs.FactLines.{fact_line}
use Rattle.sl_explain_lines.specs.Laws.{AreLines}
use Rattle.sl_explain_lines.specs.Laws.AreLines.{no_line}
use Rattle.sl_explain_notes.specs.Laws.{NotesAreLines}
use Rattle.sl_explain_notes.specs.Lines.{all_lines, has_words, idle_words, is_told_of, label, lines_by, lines_of, lines_on, list_words, members_words, more_line, more_words, most, name_words, named_words, note_line, note_lines, phrase, said, values_words}
use Rattle.sl_explain_notes.specs.Notes.{notes}
use Rattle.sl_explain_notes.specs.declared.lines.Subject.{Subject}
use Rattle.sl_explain_notes.specs.declared.lines.Subject.TheVariants as subject
use Rattle.sl_explain_notes.specs.declared.notes.Note.{Note}
use Rattle.sl_explain_notes.specs.declared.notes.Note.TheVariants as note
use Rattle.sl_explain_notes.specs.declared.notes.Told.{Told}
use Rattle.sl_explain_places.proofs.PlaceLemmas.{place_shown}
use Rattle.sl_explain_places.specs.TokenPlaces.{token_place}
use Rattle.sl_lex.specs.Reading.{Token}
use Rattle.sl_preproc.specs.Expanded.{Text}

-- ---- words

name_shown : (ts : List Token) (index : ℕ) → AllShown (name_words ts index)
name_shown ts index = words_shown 40 (text_at ts index)

phrase_shown : (n : Note) → AllShown (phrase n)
phrase_shown note.UnusedField = refl
phrase_shown _ = refl

has_shown : (values : ℕ) → AllShown (has_words values)
unfolding has_words
has_shown values = all_both (codes " has ") (decimal values) refl (number_shown values)

values_shown : (values : ℕ) → AllShown (values_words values)
values_shown values = all_both (has_words values) (codes " values and ") (has_shown values) refl

members_shown : (members : ℕ) → AllShown (members_words members)
unfolding members_words
members_shown members = all_both (decimal members) (codes " members, which stand in the list of ") (number_shown members) refl

list_shown : (members values : ℕ) → AllShown (list_words members values)
list_shown members values = all_both (values_words values) (members_words members) (values_shown values) (members_shown members)

said_shown : (t : Text) (ts : List Token) (n : Note) → AllShown (said t ts n)
said_shown t ts (note.ShortList members values longer) =
    all_both (list_words members values) (token_place t ts longer) (list_shown members values) (place_shown t ts longer)
said_shown t ts n = phrase_shown n

named_shown : (t : Text) (ts : List Token) (told : Told) → AllShown (named_words t ts told)
named_shown t ts told =
    all_both (token_place t ts told.index) (codes " " ++ (name_words ts told.index ++ said t ts told.note)) (place_shown t ts told.index)
    (all_both (codes " ") (name_words ts told.index ++ said t ts told.note) refl
    (all_both (name_words ts told.index) (said t ts told.note) (name_shown ts told.index) (said_shown t ts told.note)))

idle_shown : (t : Text) (ts : List Token) (index : ℕ) → AllShown (idle_words t ts index)
idle_shown t ts index =
    all_both (name_words ts index) (codes " " ++ token_place t ts index) (name_shown ts index)
    (all_both (codes " ") (token_place t ts index) refl (place_shown t ts index))

-- ---- lines

note_is_line : (t : Text) (ts : List Token) (told : Told) (n : Note) → AreLines (note_line t ts told n)
note_is_line t ts told note.IdleTable = last_fact (codes "  idle  ") (idle_words t ts told.index) refl (idle_shown t ts told.index)
note_is_line t ts told _ = last_fact (codes "  note  ") (named_words t ts told) refl (named_shown t ts told)

all_are_lines : (t : Text) (ts : List Token) (told : List Told) → AreLines (all_lines t ts told)
all_are_lines t ts [] = no_line
all_are_lines t ts (told ∷ more) =
    lines_both (note_line t ts told told.note) (all_lines t ts more) (note_is_line t ts told told.note) (all_are_lines t ts more)

label_shown : (s : Subject) → AllShown (label s)
label_shown subject.Table = refl
label_shown _ = refl

more_shown : (count : ℕ) → AllShown (more_words count)
unfolding more_words
more_shown count = all_both (decimal count) (codes " more") (number_shown count) refl

more_is_line : (s : Subject) (count : ℕ) → AreLines (more_line s count)
more_is_line s count =
    lines_either (nat_lt most count) (fact_line (label s) (more_words (count - most))) []
    (last_fact (label s) (more_words (count - most)) (label_shown s) (more_shown (count - most))) no_line

by_are_lines : (t : Text) (ts : List Token) (s : Subject) (told : List Told) → AreLines (lines_by t ts s told)
by_are_lines t ts s told =
    lines_both (all_lines t ts (take most told)) (more_line s (length told)) (all_are_lines t ts (take most told)) (more_is_line s (length told))

on_are_lines : (t : Text) (ts : List Token) (told : List Told) (s : Subject) → AreLines (lines_on t ts told s)
unfolding lines_on
on_are_lines t ts told s = by_are_lines t ts s (filter (is_told_of s) told)

-- those of one subject, and then others
then_lines : (t : Text) (ts : List Token) (told : List Told) (s : Subject) (more : List ℕ) → AreLines more
    → AreLines (lines_on t ts told s ++ more)
then_lines t ts told s more m = lines_both (lines_on t ts told s) more (on_are_lines t ts told s) m

of_are_lines : (t : Text) (ts : List Token) (told : List Told) → AreLines (lines_of t ts told)
of_are_lines t ts told =
    then_lines t ts told subject.Table _ (then_lines t ts told subject.Field _ (then_lines t ts told subject.Macro _
    (then_lines t ts told subject.Operation _ (then_lines t ts told subject.List _ (on_are_lines t ts told subject.Local)))))

pub notes_shown : NotesAreLines
unfolding note_lines
notes_shown = λ t ts. of_are_lines t ts (notes ts)
