use Rattle.sl_session.proofs.SessionLemmas.{cut_short, none_counts, still_made, translated}
use Rattle.sl_session.proofs.session.Session.translate_at.Goals as goal

pub returns-in-Ok-go_on-clause-translates : goal.returns-in-Ok-go_on-clause-translates
returns-in-Ok-go_on-clause-translates c made stands counts =
    let old = c.args.self.now in
    let between = c.look_at.new.self in
    let looked = c.in-Ok.ensures in
    let goes = c.in-Ok-go_on.ensures in
    translated c.args.reader.now made c.args.bytes.now c.args.address old between c.go_on.new.self
    looked.start goes.buffers
    (goes.all made (still_made old between made looked.start looked.contexts counts))
    c.in-Ok.translated (looked.looks made stands counts)

pub returns-in-Err-clause-cut : goal.returns-in-Err-clause-cut
returns-in-Err-clause-cut c made counts =
    let old = c.args.self.now in
    let between = c.look_at.new.self in
    let looked = c.in-Err.ensures in
    none_counts old.start made between looked.start
    (still_made old between made looked.start looked.contexts counts)

pub returns-in-Err-go_on-clause-cut : goal.returns-in-Err-go_on-clause-cut
returns-in-Err-go_on-clause-cut c made counts =
    let old = c.args.self.now in
    let between = c.look_at.new.self in
    let looked = c.in-Ok.ensures in
    cut_short made old between c.go_on.new.self looked.start
    (c.in-Err-go_on.ensures.some made
    (still_made old between made looked.start looked.contexts counts))
