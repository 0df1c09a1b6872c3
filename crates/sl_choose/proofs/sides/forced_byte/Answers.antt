use Rattle.std.proofs.Common.{◌≡◌, ◌*◌, ◌%◌, ◌<◌, ◌^◌, ℕ, arith, sym, ◌∙◌, subst, below_more}
use Rattle.std.proofs.lemmas.Bool.{false≢true}
use Rattle.std.proofs.lemmas.Nat.{one_shl}
use Rattle.sl_cube.specs.declared.Point.{Point}
use Rattle.sl_choose.specs.Sides.{IsForced}
use Rattle.sl_choose.proofs.SharedLemmas.{none_byte}
use Rattle.sl_choose.proofs.sides.forced_byte.Goals as goal

abbrev bits_of : ℕ → Point
bits_of x = record { bytes = x; context = 0 }

pub loop-place-preserved : goal.loop-place-preserved
loop-place-preserved c =
    let below : c.loop-place.place < 128 = c.loop-place-test.true in
    let value : 1 * 2 ^ c.loop-place.place % 2 ^ 128 ≡ 2 ^ c.loop-place.place = one_shl c.loop-place.place 128 below in
    below_more _ _ c.loop-place.invariant (λ forced.
    false≢true (sym c.if-is_forced.false ∙ c.is_forced.ensures.1 (subst (λ (x : ℕ). IsForced c.args.entries.now (bits_of x)) (sym value) forced)))

pub returns : goal.returns
returns c = λ k lt. c.loop-place.invariant k (omega (arith, lt, c.loop-place-test.false))

pub loop-place-init : goal.loop-place-init
loop-place-init c = λ k below forced. none_byte c.args.entries.now c.args.shared.now c.first_byte_bit-place.result k c.first_byte_bit-place.ensures.most c.requires c.first_byte_bit-place.ensures.none below forced
