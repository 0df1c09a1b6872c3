use Rattle.std.proofs.Common.{rules, inl, inr, ◌<◌, ◌^◌}
use Rattle.std.specs.Int.{w128}
use Rattle.std.specs.Int.Bits.{and_zero_r}
use Rattle.sl_choose.proofs.SharedLemmas.{same_below}
use Rattle.sl_choose.proofs.shared.first_open_byte.Goals as goal

pub returns : goal.returns
returns c =
    let s = c.args.shared.now in
    let within : s.some.bytes < 2 ^ 128 = search rules in
    λ k below.
    elim (same_below w128 s.some.bytes s.clear.bytes k within below) [
      | inl none ↦ inl (none, and_zero_r _)
      | inr none ↦ inr (none, and_zero_r _)
    ]
