use Rattle.std.proofs.Common.{◌≡◌, ℕ, ◌+◌, ◌-◌, ◌/◌, subst, arith}
use Rattle.sl_word.specs.Pages.{HasPage}
use Rattle.sl_word.proofs.space.Space.add_pages_of.Goals as goal

pub returns-clause-there : goal.returns-clause-there
returns-clause-there c = λ k h.
    let i : ℕ = (c.args.base + k) / 4096 - c.args.base / 4096 in
    let at : c.args.base / 4096 + ((c.args.base + k) / 4096 - c.args.base / 4096) ≡ (c.args.base + k) / 4096 = omega arith in
    subst (HasPage c.loop-after.self) at (c.loop-after.invariant.there ((c.args.base + k) / 4096 - c.args.base / 4096) (omega arith))
