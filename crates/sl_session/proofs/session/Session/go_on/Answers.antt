use Rattle.std.proofs.Common.{refl}
use Rattle.sl_session.proofs.SessionLemmas.{all_count, on_err, on_ok, some_count}
use Rattle.sl_session.proofs.session.Session.go_on.Goals as goal

pub returns-clause-all : goal.returns-clause-all
returns-clause-all c =
    let start = c.args.self.now.start in
    on_ok c.commit_all.result (λ all made counts.
    all_count start made c.as_slice.result.now _ c.as_slice.ensures.value refl (all start made counts))
    c.commit_all.ensures.all

pub returns-clause-some : goal.returns-clause-some
returns-clause-some c =
    let start = c.args.self.now.start in
    on_err c.commit_all.result (λ first made counts.
    let k = first start made counts in
    some_count start made c.as_slice.result.now _ c.as_slice.ensures.value refl k.0 k.1)
    c.commit_all.ensures.first
