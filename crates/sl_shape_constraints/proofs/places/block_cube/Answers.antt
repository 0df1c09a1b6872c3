use Rattle.std.proofs.Common.{◌≡◌, suc, ◌+◌, ◌-◌, ◌/◌, ◌<◌, ◌≤◌, ◌^◌, min, sym, ◌∙◌, arith, inl, inr}
use Rattle.std.proofs.Math.Nat.{div-eq_of_lt, div-lt_iff_lt-mul}
use Rattle.std.proofs.lemmas.Bool.{cases_lt}
use Rattle.std.proofs.lemmas.Nat.{pow_pos}
use Rattle.sl_shape_constraints.specs.Rooms.{room}
use Rattle.sl_shape_constraints.proofs.FieldLemmas.{in_block, in_no_block}
use Rattle.sl_shape_constraints.proofs.places.block_cube.Goals as goal

pub returns-then-index-count-ne0 : goal.returns-then-index-count-ne0
returns-then-index-count-ne0 c = λ p range inside.
    let b = c.args.bits.now in
    let end_is : c.min-end.result ≡ min (suc b.high) (room b.home) = omega (arith, c.min-end.ensures, c.room.ensures) in
    let from_is : c.min-from.result ≡ min (b.low + c.args.block.size) c.min-end.result = omega (arith, c.min-from.ensures, c.saturating_add.ensures, end_is, b.fits.1) in
    let wide : 2 ^ (c.min-end.result - c.min-from.result) ≤ c.from-index.result = elim (cases_lt c.from-index.result (2 ^ (c.min-end.result - c.min-from.result))) [
      | inl lt ↦ absurd (c.if-index-count-ne0.true (div-eq_of_lt lt))
      | inr ge ↦ ge
    ] in
    in_no_block b.home b.low b.high c.args.block.size p b.fits.2 range c.min-end.result c.min-from.result (c.min-end.result - c.min-from.result) c.from-index.result
    end_is from_is (omega arith) wide (inside ∙ sym c.from-index.ensures)

pub returns : goal.returns
returns c = λ p range.
    let b = c.args.bits.now in
    let end_is : c.min-end.result ≡ min (suc b.high) (room b.home) = omega (arith, c.min-end.ensures, c.room.ensures) in
    let from_is : c.min-from.result ≡ min (b.low + c.args.block.size) c.min-end.result = omega (arith, c.min-from.ensures, c.saturating_add.ensures, end_is, b.fits.1) in
    let one : c.from-index.result / 2 ^ (c.min-end.result - c.min-from.result) < 1 = omega (arith, c.if-index-count-ne0.false) in
    let small : c.from-index.result < 2 ^ (c.min-end.result - c.min-from.result) = omega (arith, (div-lt_iff_lt-mul (pow_pos (c.min-end.result - c.min-from.result))).0 one) in
    let same = in_block b.home b.low b.high c.args.block.size p b.fits.2 range c.min-end.result c.min-from.result (c.min-end.result - c.min-from.result) c.from-index.result
    end_is from_is (omega arith) small in
    let is = c.fixed_cube.ensures p range in (
      λ inside. same.0 (is.0 inside) ∙ c.from-index.ensures,
      λ holds. is.1 (same.1 (holds ∙ sym c.from-index.ensures)),
    )
