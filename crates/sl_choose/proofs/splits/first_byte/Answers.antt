use Rattle.std.proofs.Common.{◌≡◌, ◌*◌, ◌%◌, ◌<◌, ◌^◌, ℕ, arith, sym, ◌∙◌, subst, below_more}
use Rattle.std.proofs.lemmas.Bool.{false≢true}
use Rattle.std.proofs.lemmas.Nat.{one_shl}
use Rattle.sl_cube.specs.declared.Point.{Point}
use Rattle.sl_choose.specs.Sides.{byte_bit}
use Rattle.sl_choose.specs.Splits.{IsSplit}
use Rattle.sl_choose.proofs.CountLemmas.{same_splits}
use Rattle.sl_choose.proofs.splits.first_byte.Goals as goal

abbrev bits_of : ℕ → Point
bits_of x = record { bytes = x; context = 0 }

pub loop-place-init : goal.loop-place-init
loop-place-init c = λ k below. same_splits c.args.entries.now c.args.shared.now (byte_bit k) c.args.room c.requires.shared (c.first_open_byte-place.ensures k below)

pub loop-place-preserved : goal.loop-place-preserved
loop-place-preserved c =
    let below : c.loop-place.place < 128 = c.loop-place-test.true in
    let value : 1 * 2 ^ c.loop-place.place % 2 ^ 128 ≡ 2 ^ c.loop-place.place = one_shl c.loop-place.place 128 below in
    below_more _ _ c.loop-place.invariant (λ split.
    false≢true (sym c.if-splits.false ∙ c.splits.ensures.1 (subst (λ (x : ℕ). IsSplit c.args.entries.now (bits_of x) c.args.room) (sym value) split)))

pub returns : goal.returns
returns c = λ k lt. c.loop-place.invariant k (omega (arith, lt, c.loop-place-test.false))
