-- law: what is said of a text that is accepted is whole lines, whatever bytes it has.
use Rattle.std.specs.Prelude.{List}
use Rattle.sl_explain_lines.specs.Laws.{AreLines}
use Rattle.sl_explain_notes.specs.Lines.{note_lines}
use Rattle.sl_lex.specs.Reading.{Token}
use Rattle.sl_preproc.specs.Expanded.{Text}

abbrev pub NotesAreLines : Type 0
NotesAreLines = (t : Text) (ts : List Token) → AreLines (note_lines t ts)
