use Rattle.std.proofs.Common.{◌<◌, ◌^◌, bit_and, arith}
use Rattle.std.specs.Int.{w64, w128, bit_not}
use Rattle.sl_cube.specs.declared.Cube.{Cube}
use Rattle.sl_cube.specs.declared.Point.{Point}
use Rattle.sl_cube.proofs.HalfLemmas.{open_bit}
use Rattle.sl_cube.proofs.OutsideLemmas.{rest_high, rest_low, opens}
use Rattle.sl_cube.proofs.outside.trimmed.Goals as goal

abbrev wanted : Cube → Cube → Point
wanted cube other = record { bytes = bit_and other.mask (bit_not w128 cube.mask); context = bit_and other.ctx_mask (bit_not w64 cube.ctx_mask) }

pub parts-requires : goal.parts-requires
parts-requires c =
    let cube = c.args.cube.now in
    let other = c.args.other.now in
    let fits : cube.mask < 2 ^ 128 = omega arith in
    let ctx_fits : cube.ctx_mask < 2 ^ 64 = omega arith in
    opens cube (wanted cube other) c.in-Some.bit (λ i on. open_bit w128 other.mask cube.mask i fits on)
    (λ i on. open_bit w64 other.ctx_mask cube.ctx_mask i ctx_fits on) c.in-Some.ensures

pub returns-then-contains-2 : goal.returns-then-contains-2
returns-then-contains-2 c = rest_high c.args.cube.now c.args.other.now (wanted c.args.cube.now c.args.other.now) c.in-Some.bit c.parts.result.0 c.parts.result.1
    c.in-Some.ensures c.parts.ensures.low c.parts.ensures.high (c.contains-2.ensures.0 c.if-contains-2.true)

pub returns-then-contains-3 : goal.returns-then-contains-3
returns-then-contains-3 c = rest_low c.args.cube.now c.args.other.now (wanted c.args.cube.now c.args.other.now) c.in-Some.bit c.parts.result.0 c.parts.result.1
    c.in-Some.ensures c.parts.ensures.low c.parts.ensures.high (c.contains-else-contains-2.ensures.0 c.if-contains-3.true)
