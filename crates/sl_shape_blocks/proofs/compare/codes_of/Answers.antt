use Rattle.std.proofs.Common.{◌↔◌, ◌≤◌, ◌^◌, ◌*◌, ◌<◌, ◌≡◌, ℕ, pos, ◌+ℤ◌, Bool, true, false, sym, subst, arith}
use Rattle.std.proofs.lemmas.Int.{ints}
use Rattle.sl_shape_blocks.specs.Blocks.{between_or_not}
use Rattle.sl_shape_blocks.specs.Compare.{IsValue}
use Rattle.sl_shape_blocks.specs.Relations.{Stands}
use Rattle.sl_shape_blocks.proofs.CompareLemmas.{standing_unsigned, standing_signed, value_half, twice_half, half_most}
use Rattle.sl_shape_blocks.proofs.compare.codes_of.Goals as goal

pub overflow_add-zero-2 : goal.overflow_add-zero-2
overflow_add-zero-2 c =
    let most = c.requires.unsigned c.if-is_signed.false in
    let small = half_most c.args.size c.half_of-half.result 62 most c.half_of-half.ensures in
    omega (arith, small)

pub returns-then-is_signed : goal.returns-then-is_signed
returns-then-is_signed c = λ n x less is.
    let up : pos c.above_least-above.result ≡ c.args.number +ℤ pos (2 ^ 63) = omega (arith, ints, c.above_least-above.ensures) in
    let half = c.half_of-half.result in
    let twice = twice_half c.args.size half c.requires.some c.half_of-half.ensures in
    let most = half_most c.args.size half 63 c.requires.most c.half_of-half.ensures in
    let value = value_half c.args.size half n x c.half_of-half.ensures twice (subst (λ (b : Bool). IsValue b c.args.size n x) c.if-is_signed.true is) in
    let under : n < 2 * c.half_of-half.result = omega (arith, less, twice) in
    subst (λ (b : Bool). between_or_not b c.signed-codes.result.low c.signed-codes.result.high n ↔ Stands c.args.relation x c.args.number) (sym c.agreed_inside-inside.ensures)
    (standing_signed c.args.relation c.above_least-above.result c.args.number c.values_of-values.result c.signed-codes.result up half n x most
    c.signed-codes.ensures (λ v low high. c.values_of-values.ensures v low (omega (arith, high))) under value)

pub returns : goal.returns
returns c = λ n x less is.
    let up : pos c.above_least-above.result ≡ c.args.number +ℤ pos (2 ^ 63) = omega (arith, ints, c.above_least-above.ensures) in
    let half = c.half_of-half.result in
    let twice = twice_half c.args.size half c.requires.some c.half_of-half.ensures in
    let under : n < 2 * c.half_of-half.result = omega (arith, less, twice) in
    let value = subst (λ (b : Bool). IsValue b c.args.size n x) c.if-is_signed.false is in
    subst (λ (b : Bool). between_or_not b c.unsigned-codes.result.low c.unsigned-codes.result.high n ↔ Stands c.args.relation x c.args.number) (sym c.agreed_inside-inside-2.ensures)
    (standing_unsigned c.args.relation c.above_least-above.result c.args.number c.values_of-values-2.result c.unsigned-codes.result up (2 * c.half_of-half.result) n x
    (c.unsigned-codes.ensures (2 * c.half_of-half.result)) (λ v low high. c.values_of-values-2.ensures v low (omega (arith, high))) under value)
