-- meaning: what more is said of a sound specification: the notes on its text.
use Rattle.std.specs.Prelude.{List, ℕ, []}
use Rattle.sl_explain_notes.specs.Lines.{note_lines}
use Rattle.sl_tool_stages.specs.Values.{InText, Origin, Stored}

-- A packed specification has no text.
abbrev pub noted_lines : Origin → List ℕ
noted_lines (InText k) = note_lines k.source.text k.tokens
noted_lines (Stored files places) = []
