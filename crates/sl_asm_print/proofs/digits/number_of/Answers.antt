use Rattle.std.proofs.Common.{◌+◌, ◌*◌, ◌<◌, ◌≤◌, ◌^◌, length, get_or, arith, refl}
use Rattle.std.specs.Char.{digit_value}
use Rattle.sl_asm_print.proofs.DigitLemmas.{one_more, too_great}
use Rattle.sl_asm_print.proofs.digits.number_of.Goals as goal

pub returns-in_default : goal.returns-in_default
returns-in_default c = λ fits.
    let ds = c.args.digits.now in
    let i = c.loop-byte.byte-index in
    let below : i < length ds = omega arith in
    let great : 2 ^ 64 ≤ c.loop-byte.number * c.args.base + digit_value (get_or ds i 0) = omega (arith, c.in_default.ensures) in
    absurd (too_great c.args.base ds i c.loop-byte.number (digit_value (get_or ds i 0)) c.requires below c.loop-byte.invariant refl great fits)

pub returns-in_default-checked_add : goal.returns-in_default-checked_add
returns-in_default-checked_add c = λ fits.
    let ds = c.args.digits.now in
    let i = c.loop-byte.byte-index in
    let below : i < length ds = omega arith in
    let great : 2 ^ 64 ≤ c.loop-byte.number * c.args.base + c.digit.result = omega (arith, c.in-Some.ensures, c.in_default-checked_add.ensures) in
    absurd (too_great c.args.base ds i c.loop-byte.number c.digit.result c.requires below c.loop-byte.invariant c.digit.ensures great fits)

pub loop-byte-preserved : goal.loop-byte-preserved
loop-byte-preserved c =
    let ds = c.args.digits.now in
    let i = c.loop-byte.byte-index in
    let below : i < length ds = omega arith in
    let more = one_more c.args.base ds i c.loop-byte.number below c.loop-byte.invariant in
    omega (arith, more, c.digit.ensures, c.in-Some.ensures, c.in-Some-checked_add.ensures)
