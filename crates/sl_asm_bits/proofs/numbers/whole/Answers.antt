use Rattle.std.proofs.Common.{◌<◌, ◌^◌, ◌∙◌, arith, rules, sym, subst, ℕ}
use Rattle.std.specs.Int.{cast_unsigned, w64}
use Rattle.std.proofs.lemmas.Int.{to_z-of_z}
use Rattle.sl_asm_bits.proofs.NumberLemmas.{all_bits}
use Rattle.sl_asm_bits.proofs.numbers.whole.Goals as goal
use Rattle.sl_cube.specs.Bits.{Agrees}

pub returns-then-k : goal.returns-then-k
returns-then-k c =
    let k = c.args.k.now in
    let value : k.value < 2 ^ 64 = omega arith in
    λ z h.
    all_bits k.value z value h.fits (subst (λ (m : ℕ). Agrees m k.value (cast_unsigned w64 z)) c.if-k.true h.bits)
    ∙ sym c.cast_signed.ensures ∙ sym (to_z-of_z w64 c.cast_signed.result (search rules))
