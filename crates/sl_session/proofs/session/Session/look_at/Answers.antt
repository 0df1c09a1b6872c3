use Rattle.std.proofs.Common.{ℕ, List, subst, sym}
use Rattle.sl_session.proofs.SessionLemmas.{map_ok}
use Rattle.sl_session.specs.Operations.{IsTranslated}
use Rattle.sl_session.specs.Readers.{IsRead, choice_in, specification_in}
use Rattle.sl_session.proofs.session.Session.look_at.Goals as goal

pub returns-clause-looks : goal.returns-clause-looks
returns-clause-looks c =
    let x = c.args.reader.now in
    let start = c.args.self.now.start in
    let b = c.read_at.new.self.buffers in
    map_ok c.build.result (λ y built made stands counts.
    subst (λ (w : List ℕ). IsTranslated (specification_in x) (choice_in x) start made w c.args.address
    y.answer y.built b.text.items b.commits.items) c.window_at-window.ensures
    (built start made stands (subst (λ (w : List ℕ).
    IsRead (specification_in x) (choice_in x) start made w c.args.address c.in-Ok.answer b)
    (sym c.window_at-window.ensures) (c.in-Ok.ensures.read made stands counts)))) c.build.ensures
