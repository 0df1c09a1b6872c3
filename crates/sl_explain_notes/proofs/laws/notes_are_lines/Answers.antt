use Rattle.sl_explain_notes.proofs.LineLemmas.{notes_shown}
use Rattle.sl_explain_notes.proofs.laws.notes_are_lines.Goals as goal

pub returns : goal.returns
returns c = notes_shown
