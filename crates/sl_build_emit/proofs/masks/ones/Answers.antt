use Rattle.std.proofs.Common.{◌≡◌, ◌-◌, ◌^◌, ◌≤◌, ap, ◌∙◌, arith}
use Rattle.std.proofs.lemmas.Nat.Bits.{ones_shr}
use Rattle.sl_build_emit.proofs.masks.ones.Goals as goal

pub returns : goal.returns
returns c =
    let within : 64 - c.args.count ≤ 64 = omega arith in
    let back : 64 - (64 - c.args.count) ≡ c.args.count = omega (arith, c.requires) in
    ones_shr 64 (64 - c.args.count) within ∙ ap (λ k. 2 ^ k - 1) back
