use Rattle.std.proofs.Common.{subst, w64}
use Rattle.std.specs.Prelude.{MatchOption}
use Rattle.std.proofs.lemmas.Int.{to_z-of_z}
use Rattle.sl_asm_bits.specs.Known.{HasBits}
use Rattle.sl_asm_values.proofs.RowLemmas.{exact_none, exact_some}
use Rattle.sl_asm_values.specs.Narrowing.{GivesNone, KeepsGiving}
use Rattle.sl_asm_values.proofs.names.with_number.Goals as goal

pub returns-in_default : goal.returns-in_default
returns-in_default c =
    let t = c.args.t.now in
    let f = c.args.frame.now in
    let region = c.args.region.now in
    let v = c.args.v.now in
    let k = c.exact-known.result in
    exact_none t f region v k c.args.number (subst (HasBits k) (to_z-of_z w64 c.args.number c.ranges.number) c.exact-known.ensures.has)
    (subst (λ o. MatchOption o (GivesNone t f region v k) (λ n. KeepsGiving t f region v k n.items)) c.in_default.is c.in_ok-narrow.ensures)

pub returns : goal.returns
returns c =
    let t = c.args.t.now in
    let f = c.args.frame.now in
    let region = c.args.region.now in
    let v = c.args.v.now in
    let k = c.exact-known.result in
    exact_some t f region v (record { region = c.in-Some.region; known = k }) c.args.number (subst (HasBits k) (to_z-of_z w64 c.args.number c.ranges.number) c.exact-known.ensures.has)
    (subst (λ o. MatchOption o (GivesNone t f region v k) (λ n. KeepsGiving t f region v k n.items)) c.in-Some.is c.in_ok-narrow.ensures)
