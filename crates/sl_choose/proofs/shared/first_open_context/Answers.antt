use Rattle.std.proofs.Common.{rules, inl, inr, ◌<◌, ◌^◌}
use Rattle.std.specs.Int.{w64}
use Rattle.std.specs.Int.Bits.{and_zero_r}
use Rattle.sl_choose.proofs.SharedLemmas.{same_below}
use Rattle.sl_choose.proofs.shared.first_open_context.Goals as goal

pub returns : goal.returns
returns c =
    let s = c.args.shared.now in
    let within : s.some.context < 2 ^ 64 = search rules in
    λ k below.
    elim (same_below w64 s.some.context s.clear.context k within below) [
      | inl none ↦ inl (and_zero_r _, none)
      | inr none ↦ inr (and_zero_r _, none)
    ]
