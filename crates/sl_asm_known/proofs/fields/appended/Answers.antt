use Rattle.std.proofs.Common.{ℕ, ◌*◌, ◌+◌, ◌<◌, arith, sym, subst}
use Rattle.sl_asm_known.proofs.TokenLemmas.{appended_has}
use Rattle.sl_asm_known.proofs.fields.appended.Goals as goal
use Rattle.sl_cube.specs.Bits.{Agrees}

pub returns : goal.returns
returns c =
    let number = c.args.number.now in
    let mask : c.from.result < 256 = omega (arith, c.from.ensures, c.ranges.mask.fits) in
    let value : c.from-2.result < 256 = omega (arith, c.from-2.ensures, c.ranges.value.fits) in
    λ n b small f g. (c.under.ensures (n * 256 + b)).0
    (appended_has number.mask number.value c.from.result c.from-2.result n b mask value small f
    (subst (λ (m : ℕ). Agrees m c.from-2.result b) (sym c.from.ensures) (subst (λ (v : ℕ). Agrees c.args.mask v b) (sym c.from-2.ensures) g)))
