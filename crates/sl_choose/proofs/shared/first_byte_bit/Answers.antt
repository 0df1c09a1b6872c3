use Rattle.std.proofs.Common.{rules, ◌<◌, ◌^◌}
use Rattle.std.specs.Int.{w128}
use Rattle.std.specs.Int.Bits.{and_zero_r}
use Rattle.std.proofs.lemmas.Nat.{trailing_le}
use Rattle.sl_choose.proofs.SharedLemmas.{none_below}
use Rattle.sl_choose.proofs.shared.first_byte_bit.Goals as goal

pub returns-clause-none : goal.returns-clause-none
returns-clause-none c =
    let s = c.args.shared.now in
    let within : s.fixed.bytes < 2 ^ 128 = search rules in
    let all_within : s.all.bytes < 2 ^ 128 = search rules in
    λ k below may. none_below w128 s.fixed.bytes s.some.bytes s.all.bytes k within all_within below may.fixed.0 (λ none. may.some (none, and_zero_r _)) may.all.0

pub returns-clause-most : goal.returns-clause-most
returns-clause-most c = trailing_le 128 _
