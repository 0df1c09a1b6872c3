use Rattle.sl_session.proofs.SessionLemmas.{answered, cut_short, none_counts, still_made}
use Rattle.sl_session.proofs.session.Session.decode_at.Goals as goal

pub returns-in-Ok-go_on-clause-answers : goal.returns-in-Ok-go_on-clause-answers
returns-in-Ok-go_on-clause-answers c made stands counts =
    let old = c.args.self.now in
    let between = c.read_at.new.self in
    let read = c.in-Ok.ensures in
    let goes = c.in-Ok-go_on.ensures in
    answered c.args.reader.now made c.args.bytes.now c.args.address old between c.go_on.new.self
    read.start goes.buffers
    (goes.all made (still_made old between made read.start read.contexts counts)) c.in-Ok.answer
    (read.read made stands counts)

pub returns-in-Err-clause-cut : goal.returns-in-Err-clause-cut
returns-in-Err-clause-cut c made counts =
    let old = c.args.self.now in
    let between = c.read_at.new.self in
    let read = c.in-Err.ensures in
    none_counts old.start made between read.start
    (still_made old between made read.start read.contexts counts)

pub returns-in-Err-go_on-clause-cut : goal.returns-in-Err-go_on-clause-cut
returns-in-Err-go_on-clause-cut c made counts =
    let old = c.args.self.now in
    let between = c.read_at.new.self in
    let read = c.in-Ok.ensures in
    cut_short made old between c.go_on.new.self read.start
    (c.in-Err-go_on.ensures.some made (still_made old between made read.start read.contexts counts))
