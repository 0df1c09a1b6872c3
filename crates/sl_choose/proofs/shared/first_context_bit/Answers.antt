use Rattle.std.proofs.Common.{rules, ◌<◌, ◌^◌}
use Rattle.std.specs.Int.{w64}
use Rattle.std.specs.Int.Bits.{and_zero_r}
use Rattle.std.proofs.lemmas.Nat.{trailing_le}
use Rattle.sl_choose.proofs.SharedLemmas.{none_below}
use Rattle.sl_choose.proofs.shared.first_context_bit.Goals as goal

pub returns-clause-none : goal.returns-clause-none
returns-clause-none c =
    let s = c.args.shared.now in
    let within : s.fixed.context < 2 ^ 64 = search rules in
    let all_within : s.all.context < 2 ^ 64 = search rules in
    λ k below may. none_below w64 s.fixed.context s.some.context s.all.context k within all_within below may.fixed.1 (λ none. may.some (and_zero_r _, none)) may.all.1

pub returns-clause-most : goal.returns-clause-most
returns-clause-most c = trailing_le 64 _
