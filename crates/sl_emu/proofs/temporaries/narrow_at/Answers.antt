use Rattle.std.proofs.Common.{◌≡◌, ◌+◌, ◌^◌, ◌<◌, ◌∙◌, ap, get_or, subst, arith}
use Rattle.sl_word.specs.declared.word.Size.{Size}
use Rattle.sl_word.proofs.Powers.{bytes_mono}
use Rattle.sl_emu.proofs.TemporaryLemmas.{number_along}
use Rattle.sl_emu.proofs.temporaries.narrow_at.Goals as goal

pub returns-in-Some-clause-value : goal.returns-in-Some-clause-value
returns-in-Some-clause-value c =
    c.from_first.ensures.value
    ∙ number_along c.args.endian _ _ c.args.size.bytes
    (λ i h.
    let place : 0 + i ≡ i = omega arith in
    c.eight_at.ensures i (omega (arith, h, c.requires.narrow))
    ∙ ap (λ k. get_or c.in-Some.bytes.now k 0) place
    ∙ c.in-Some.ensures.1 i (omega (arith, h, c.requires.narrow)))

pub overflow_cast-bits : goal.overflow_cast-bits
overflow_cast-bits c =
    let below : c.word_at-bits.result.bits < 256 ^ c.args.size.bytes =
    subst (λ (n : Size). c.word_at-bits.result.bits < 256 ^ n.bytes) c.word_at-bits.ensures.size c.word_at-bits.result.in_range
    in
    omega (arith, below, bytes_mono c.args.size.bytes 8 c.requires.narrow)
