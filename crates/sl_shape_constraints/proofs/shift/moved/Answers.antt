use Rattle.std.proofs.Common.{◌≡◌, ℕ, ◌+◌, ◌-◌, ◌*◌, ◌/◌, ◌%◌, ◌^◌, ◌<◌, min, sym, ◌∙◌, subst, arith}
use Rattle.std.proofs.lemmas.Nat.{shr-shr}
use Rattle.sl_shape_constraints.proofs.ShiftLemmas.{IsUp, seen_up, down_agrees, low_zero, whole_from_zero, wants_zero, down_within, down_up}
use Rattle.sl_shape_constraints.proofs.shift.moved.Goals as goal

pub returns-then-value-bits : goal.returns-then-value-bits
returns-then-value-bits c = λ p range inside.
    let b = 8 * c.min-bits.result in
    let l = 8 * (c.min.result - c.min-2.result) in
    let s : b + l ≡ 8 * min c.args.place 16 = omega (arith, c.min-bits.ensures, c.min.ensures, c.min-2.ensures) in
    let up = subst (λ (k : ℕ). IsUp k p.bytes (p.bytes * 2 ^ (8 * c.args.place) % 2 ^ 128)) (sym s) (seen_up c.args.place p.bytes) in
    let v = c.args.cube.now.value in
    let v_fits : v < 2 ^ 128 = omega arith in
    let zero = wants_zero c.args.cube.now.mask v (b + l) p.bytes (p.bytes * 2 ^ (8 * c.args.place) % 2 ^ 128) (omega (arith, s)) c.args.cube.now.within up inside.0 in
    c.if-value-bits.true (down_up v b l v_fits ∙ whole_from_zero v (b + l) zero)

pub invariant_of-result : goal.invariant_of-result
invariant_of-result c =
    let b = 8 * c.min-bits.result in
    let l = 8 * (c.min.result - c.min-2.result) in
    record {
      within = down_within (c.args.cube.now.value / 2 ^ b) (c.args.cube.now.mask / 2 ^ b) l (down_within c.args.cube.now.value c.args.cube.now.mask b c.args.cube.now.within);
      ctx_within = c.args.cube.now.ctx_within;
    }

pub returns : goal.returns
returns c = λ p range.
    let b = 8 * c.min-bits.result in
    let l = 8 * (c.min.result - c.min-2.result) in
    let v = c.args.cube.now.value in
    let m = c.args.cube.now.mask in
    let v_fits : v < 2 ^ 128 = omega arith in
    let m_fits : m < 2 ^ 128 = omega arith in
    let y = p.bytes * 2 ^ (8 * c.args.place) % 2 ^ 128 in
    let s : b + l ≡ 8 * min c.args.place 16 = omega (arith, c.min-bits.ensures, c.min.ensures, c.min-2.ensures) in
    let up = subst (λ (k : ℕ). IsUp k p.bytes y) (sym s) (seen_up c.args.place p.bytes) in
    let whole : v / 2 ^ (b + l) * 2 ^ (b + l) ≡ v = sym (down_up v b l v_fits) ∙ c.if-value-bits.false in
    let down = down_agrees m v (b + l) p.bytes y m_fits up (λ i lt. low_zero v (b + l) i whole lt) in
    let mask_is = shr-shr m b l in
    let value_is = shr-shr v b l in (
      λ inside. (down.0 (rw (← mask_is, ← value_is) inside.0), inside.1),
      λ seen_inside. (rw (mask_is, value_is) (down.1 seen_inside.0), seen_inside.1),
    )
