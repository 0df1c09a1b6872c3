-- meaning: the notes of a text that is accepted: what is legal, and nearly always a slip.
use Rattle.std.specs.Prelude.{List, ◌++◌}
use Rattle.sl_explain_names.specs.Names.{mentions}
use Rattle.sl_explain_notes.specs.Lists.{short_lists}
use Rattle.sl_explain_notes.specs.Locals.{locals}
use Rattle.sl_explain_notes.specs.Uses.{unused}
use Rattle.sl_explain_notes.specs.declared.notes.Told.{Told}
use Rattle.sl_lex.specs.Reading.{Token}

-- names that nothing uses, attached lists that are a part of a longer one, locals that are never read
unfoldable pub notes : List Token → List Told
notes ts = unused ts (mentions ts) ++ (short_lists ts (mentions ts) (mentions ts) ++ locals ts (mentions ts))
