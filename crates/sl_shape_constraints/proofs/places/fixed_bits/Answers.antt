use Rattle.std.proofs.Common.{◌≡◌, ◌≢◌, ℕ, ◌+◌, ◌<◌, subst, sym, ◌∙◌, arith}
use Rattle.std.specs.Int.{bit_at}
use Rattle.std.proofs.lemmas.Nat.Bits.{shr_and_one, bit_at-lt}
use Rattle.sl_shape_constraints.specs.Homes.{place_of}
use Rattle.sl_shape_constraints.specs.FixedBits.{FixesBits}
use Rattle.sl_shape_constraints.proofs.PlaceLemmas.{fix_one, fix_zero, apart, zero_or_one}
use Rattle.sl_shape_constraints.proofs.places.fixed_bits.Goals as goal
use Rattle.sl_shape_constraints.proofs.places.fixed_bits.Goals.{then-value-r-eq1, else-value-r-eq1}

pub bits-preserved : goal.bits-preserved
bits-preserved c =
    let place : ℕ → ℕ = λ r. place_of c.args.home (c.args.low + r) in
    let lt : place c.bits.r < 128 = subst (λ (k : ℕ). k < 128) c.place_of.ensures.place c.place_of.ensures.in_point in
    let others : (r : ℕ) → r < c.bits.r → place r ≢ place c.bits.r = λ r below.
    apart c.args.home (c.args.low + r) (c.args.low + c.bits.r) c.requires.few (omega (arith, c.requires.within)) (omega (arith, c.requires.within)) (λ e. absurd (omega (arith, e))) in
    rw c.place_of.ensures.place (elim c.if-value-r-eq1.branch [
      | then-value-r-eq1 w ↦ rw w.fixed-is (rw c.place_of.ensures.place (fix_one place c.args.value c.bits.r c.bits.mask c.bits.fixed lt others c.bits.invariant
          (sym (shr_and_one c.args.value c.bits.r) ∙ w.if-value-r-eq1.true)))
      | else-value-r-eq1 w ↦ rw w.fixed-is (fix_zero place c.args.value c.bits.r c.bits.mask c.bits.fixed lt others c.bits.invariant
          (zero_or_one (bit_at c.args.value c.bits.r) (bit_at-lt c.args.value c.bits.r) (λ e. w.if-value-r-eq1.false (shr_and_one c.args.value c.bits.r ∙ e))))
    ])

pub returns : goal.returns
returns c =
    let n : c.bits.r ≡ c.args.count = omega (arith, c.bits.auto.r-end, c.bits-test.false) in
    subst (λ (k : ℕ). FixesBits (λ r. place_of c.args.home (c.args.low + r)) c.args.value k c.bits.mask c.bits.fixed) n c.bits.invariant
