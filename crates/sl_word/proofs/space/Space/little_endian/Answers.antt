use Rattle.std.proofs.Common.{◌+◌, ◌<◌, rules, arith}
use Rattle.sl_word.specs.Pages.{byte_after}
use Rattle.sl_word.proofs.Powers.{bytes_mono}
use Rattle.sl_word.proofs.Memory.{byte_above, little_endian-more}
use Rattle.sl_word.proofs.space.Space.little_endian.Goals as goal

pub overflow_add-number : goal.overflow_add-number
overflow_add-number c =
    let byte : c.byte_after.result < 256 = search rules in
    let whole = byte_above c.loop-place.number c.byte_after.result c.loop-place.place c.loop-place.invariant.1 byte in
    omega (arith, c.worth-number.ensures, whole, bytes_mono (c.loop-place.place + 1) 16 (omega (arith, c.args.size.at_most_16)))

pub loop-place-preserved : goal.loop-place-preserved
loop-place-preserved c =
    let byte : c.byte_after.result < 256 = search rules in
    let whole = byte_above c.loop-place.number c.byte_after.result c.loop-place.place c.loop-place.invariant.1 byte in
    let more = little_endian-more (byte_after c.args.self.now c.args.base) c.loop-place.place in
    (rw (c.worth-number.ensures, c.byte_after.ensures, c.loop-place.invariant.0, more), rw c.worth-number.ensures whole)
