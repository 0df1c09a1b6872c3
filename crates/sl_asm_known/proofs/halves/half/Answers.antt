use Rattle.std.proofs.Common.{◌≤◌, ◌<◌, ◌^◌, Bool, true, false, arith}
use Rattle.std.specs.Int.{from_bool}
use Rattle.sl_asm_known.proofs.HalfLemmas.{half_or_none}
use Rattle.sl_asm_known.proofs.halves.half.Goals as goal

bit_small : (b : Bool) → from_bool b < 2
bit_small true = omega arith
bit_small false = omega arith

pub returns : goal.returns
returns c =
    let bit = c.args.bit.now in
    let cube = c.cube_of-cube.result in
    let fits : cube.mask < 2 ^ 128 = omega arith in
    let at : bit.index ≤ 255 = omega (arith, c.requires.within, c.requires.long) in
    half_or_none cube c.args.region.now bit (from_bool c.args.is_set) c.requires.low (bit_small c.args.is_set) c.cube_of-cube.ensures.mask c.cube_of-cube.ensures.value
    c.cube_of-cube.ensures.context fits at (λ v. v.items) c.in_ok-answer.answer c.in_ok-answer.ensures
