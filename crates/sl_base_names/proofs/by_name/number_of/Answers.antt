use Rattle.std.proofs.Common.{◌<◌, arith}
use Rattle.sl_base_names.proofs.DigitLemmas.{room_for_byte}
use Rattle.sl_base_names.proofs.by_name.number_of.Goals as goal

pub overflow_mul-number : goal.overflow_mul-number
overflow_mul-number c =
    let byte : 0 < 256 = omega arith in
    omega (arith, room_for_byte c.bytes.number c.bytes.index 0 c.bytes.invariant.1 (omega arith) byte)

pub overflow_add-number : goal.overflow_add-number
overflow_add-number c = omega (arith, room_for_byte c.bytes.number c.bytes.index c.from.result c.bytes.invariant.1 (omega arith) (omega arith))
