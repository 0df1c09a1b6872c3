use Rattle.std.proofs.Common.{subst}
use Rattle.std.specs.Prelude.{MatchOption}
use Rattle.std.specs.Int.{from_bool}
use Rattle.sl_asm_known.specs.OpenBits.{HasNoHalf, IsHalf}
use Rattle.sl_asm_values.proofs.GivingLemmas.{judged_half}
use Rattle.sl_asm_values.proofs.narrowing.Demand.half.Goals as goal

pub returns : goal.returns
returns c =
    let d = c.args.self.now in
    let region = c.args.region.now in
    let bit = from_bool c.args.is_set in
    judged_half d.tables.now d.frame d.value.now d.wanted region c.in-Some.cells.items c.args.bit.now bit c.judged.result
    (subst (λ o. MatchOption o (HasNoHalf region c.args.bit.now bit) (λ v. IsHalf region c.args.bit.now bit v.items)) c.in-Some.is c.in_ok-cells.ensures) c.judged.ensures
