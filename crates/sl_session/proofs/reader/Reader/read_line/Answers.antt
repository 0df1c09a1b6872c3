use Rattle.sl_session.proofs.reader.Reader.read_line.Goals as goal

pub returns-in-Ok : goal.returns-in-Ok
returns-in-Ok c start made stands counts = record {
  answer = c.in-Ok.answer;
  is = c.in-Ok.ensures start made stands counts;
  length_is = c.length.ensures;
}
