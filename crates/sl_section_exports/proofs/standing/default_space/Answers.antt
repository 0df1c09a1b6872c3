use Rattle.std.proofs.Common.{IfOk, ◌≡◌, ◌<◌, Bool, length, ap, sym, subst, ◌∙◌, arith}
use Rattle.std.specs.Prelude.{unwrap_or}
use Rattle.sl_spec.specs.Tables.{Space}
use Rattle.sl_spec_tables.proofs.PositionLemmas.{at_slice, is_first, is_later, is_nowhere}
use Rattle.sl_section_exports.proofs.standing.default_space.Goals as goal

abbrev test : Space → Bool
test s = s.default

pub spaces-preserved : goal.spaces-preserved
spaces-preserved c =
    let spaces = c.args.t.now.spaces in
    let i = c.spaces.index in
    let s = c.member-space.result.now in
    let below : i < length spaces = omega (arith, c.spaces-test.true, c.len-index-end.ensures) in
    is_later test spaces i s below (at_slice spaces i s c.member-space.ensures) (sym (ap test c.space.view_is) ∙ c.if-space.false) c.spaces.invariant

pub returns-then-space : goal.returns-then-space
returns-then-space c =
    let spaces = c.args.t.now.spaces in
    let i = c.spaces.index in
    let s = c.member-space.result.now in
    let below : i < length spaces = omega (arith, c.spaces-test.true, c.len-index-end.ensures) in
    subst (λ n. IfOk c.space_at.result (λ space. space.0 ≡ n))
    (ap (λ o. unwrap_or o 0) (is_first test spaces i s below (at_slice spaces i s c.member-space.ensures) (sym (ap test c.space.view_is) ∙ c.if-space.true) c.spaces.invariant)) c.space_at.ensures

pub returns : goal.returns
returns c =
    let spaces = c.args.t.now.spaces in
    ap (λ o. unwrap_or o 0) (is_nowhere test spaces c.spaces.index (omega (arith, c.spaces-test.false, c.len-index-end.ensures)) c.spaces.invariant)
