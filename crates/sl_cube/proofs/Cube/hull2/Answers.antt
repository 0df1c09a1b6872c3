use Rattle.std.proofs.Common.{arith}
use Rattle.sl_cube.proofs.BitLemmas.{and_or_absorb}
use Rattle.sl_cube.proofs.CubeLemmas.{ValuesFit, hull_shares, hull_from_shared}
use Rattle.sl_cube.proofs.Cube.hull2.Goals as goal

pub invariant_of-result : goal.invariant_of-result
invariant_of-result c = record { within = and_or_absorb _ _; ctx_within = and_or_absorb _ _ }

pub returns : goal.returns
returns c = λ q range.
    let a = c.args.self.now in
    let b = c.args.other.now in
    let a_fits : ValuesFit a = record { value = omega arith; ctx_value = omega arith } in
    let b_fits : ValuesFit b = record { value = omega arith; ctx_value = omega arith } in (
      λ inside. hull_shares a b q a_fits b_fits range inside.0 inside.1,
      λ shared. hull_from_shared a b q shared.0 shared.1,
    )
