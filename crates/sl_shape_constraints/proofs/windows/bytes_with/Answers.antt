use Rattle.std.proofs.Common.{◌≡◌, ◌+◌, ◌/◌, ◌<◌, sym, ap, subst, ◌∙◌, arith}
use Rattle.sl_word.specs.declared.word.Endian.TheVariants.{Little}
use Rattle.sl_shape_constraints.specs.Codes.{HasBitOf}
use Rattle.sl_shape_constraints.specs.Windows.{IsEnd}
use Rattle.sl_shape_constraints.specs.declared.homes.Home.{Home}
use Rattle.sl_shape_constraints.specs.declared.homes.Home.TheVariants.{Token}
use Rattle.sl_shape_constraints.proofs.WindowLemmas.{little_end}
use Rattle.sl_shape_constraints.proofs.windows.bytes_with.Goals as goal

pub returns-in-Little : goal.returns-in-Little
returns-in-Little c =
    let b = c.args.bits.now in
    let home : b.home ≡ Token Little c.in-Token.bytes = c.in-Token.is ∙ ap (λ o. Token o c.in-Token.bytes) c.in-Little.is in
    let within : b.low / 8 < c.in-Token.bytes = omega (arith, c.if-bytes-bits.false) in
    subst (λ (h : Home). IsEnd (HasBitOf h b.low b.high) (c.min.result + 1)) (sym home)
    (little_end c.in-Token.bytes b.low b.high (c.min.result + 1) b.fits.0 within (omega (arith, c.min.ensures)))
