use Rattle.sl_session.proofs.reader.Reader.pcode.Goals as goal

pub list_pcode-requires-clause-short : goal.list_pcode-requires-clause-short
list_pcode-requires-clause-short g c = c.requires.stands.short

pub list_pcode-requires-clause-compiled : goal.list_pcode-requires-clause-compiled
list_pcode-requires-clause-compiled g c = c.requires.stands.compiled
