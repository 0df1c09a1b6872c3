use Rattle.std.proofs.Common.{◌+◌, ◌*◌, ◌%◌, ◌^◌, ◌≤◌, bit_and, ap, ◌∙◌, arith}
use Rattle.sl_faithful_code.specs.Bits.{ones}
use Rattle.sl_faithful_code.proofs.Masks.{lowest, raised_cut}
use Rattle.sl_build_emit.proofs.masks.placed.Goals as goal

pub returns-then-span-lt64 : goal.returns-then-span-lt64
returns-then-span-lt64 c =
    let x = c.args.x in
    let low = c.args.span.low in
    let count = c.args.span.count in
    let fits : low + count ≤ 8 * 8 = omega (arith, c.requires) in
    ap (λ q. bit_and x q * 2 ^ low % 256 ^ 8) (c.ones.ensures ∙ ap ones c.from.ensures)
    ∙ ap (λ q. q * 2 ^ low % 256 ^ 8) (lowest x count) ∙ raised_cut 8 x low count fits
