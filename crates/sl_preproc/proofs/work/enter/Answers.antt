use Rattle.std.proofs.Common.{◌∙◌, sym}
use Rattle.sl_preproc.proofs.FileLemmas.{old_number, new_number, pushed}
use Rattle.sl_preproc.proofs.work.enter.Goals as goal

pub returns-in-Ok : goal.returns-in-Ok
returns-in-Ok c =
    let old = old_number c.args.name.now c.args.files.now.keys c.in-Some.index (sym c.in-Some.ensures.index) in
    (c.in-Ok.ensures.1 ∙ old.0, old.1)

pub returns : goal.returns
returns c =
    let new = new_number c.args.name.now c.args.files.now.keys c.insert.new.self.keys c.len-count.result c.in_ok-name.name (sym c.in_default.ensures.index) c.len-count.ensures.len c.in_ok-name.ensures.ok
    (pushed c.args.name.now c.args.files.now.keys c.insert.new.self.keys c.in_ok-name.name c.in_ok-name.ensures.ok c.in_default.ensures.found c.in_ok-_added.ensures.keys) in
    (c.in-Ok-try_from.ensures.1 ∙ new.0, new.1)
