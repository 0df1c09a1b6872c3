use Rattle.std.proofs.Common.{ℕ, List, subst}
use Rattle.sl_session.proofs.SessionLemmas.{map_ok}
use Rattle.sl_session.specs.Readers.{IsRead, choice_in, specification_in}
use Rattle.sl_session.proofs.session.Session.read_at.Goals as goal

pub returns-clause-read : goal.returns-clause-read
returns-clause-read c =
    let x = c.args.reader.now in
    let start = c.args.self.now.start in
    map_ok c.read.result (λ answer read made stands counts.
    subst (λ (w : List ℕ). IsRead (specification_in x) (choice_in x) start made w c.args.address answer
    c.read.new.buffers) c.window_at-window.ensures (read start made stands counts)) c.read.ensures
