use Rattle.std.proofs.Common.{◌+◌, ◌<◌, rules, arith}
use Rattle.sl_word.specs.Pages.{byte_after}
use Rattle.sl_word.proofs.Powers.{bytes_mono}
use Rattle.sl_word.proofs.Memory.{byte_below_it, big_endian-more}
use Rattle.sl_word.proofs.space.Space.big_endian.Goals as goal

pub overflow_mul-number : goal.overflow_mul-number
overflow_mul-number c =
    let whole = byte_below_it c.loop-place.number 0 c.loop-place.place c.loop-place.invariant.1 (omega arith) in
    omega (arith, whole, bytes_mono (c.loop-place.place + 1) 16 (omega (arith, c.args.size.at_most_16)))

pub overflow_add-number : goal.overflow_add-number
overflow_add-number c =
    let byte : c.from.result < 256 = search rules in
    let whole = byte_below_it c.loop-place.number c.from.result c.loop-place.place c.loop-place.invariant.1 byte in
    omega (arith, whole, bytes_mono (c.loop-place.place + 1) 16 (omega (arith, c.args.size.at_most_16)))

pub loop-place-preserved : goal.loop-place-preserved
loop-place-preserved c =
    let byte : c.from.result < 256 = search rules in
    let whole = byte_below_it c.loop-place.number c.from.result c.loop-place.place c.loop-place.invariant.1 byte in
    let more = big_endian-more (byte_after c.args.self.now c.args.base) c.loop-place.place in
    (rw (c.from.ensures, c.byte_after.ensures, c.loop-place.invariant.0, more), whole)
