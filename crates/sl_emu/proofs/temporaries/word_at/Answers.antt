use Rattle.std.proofs.Common.{◌∙◌, arith}
use Rattle.std.proofs.lemmas.List.{places}
use Rattle.sl_emu.proofs.TemporaryLemmas.{number_along}
use Rattle.sl_emu.proofs.temporaries.word_at.Goals as goal

pub returns-in-Some-clause-value : goal.returns-in-Some-clause-value
returns-in-Some-clause-value c =
    c.from_bytes.ensures.value
    ∙ number_along c.args.endian _ _ c.args.size.bytes (λ i h. c.in-Some.ensures.1 i (omega (arith, h, c.from-count.ensures, c.get.ensures)))

pub returns-in-None-clause-value : goal.returns-in-None-clause-value
returns-in-None-clause-value c =
    c.from_bytes-in-None.ensures.value
    ∙ number_along c.args.endian _ _ c.args.size.bytes (λ i h. grind (arith, places, c.front_of-whole.ensures i))
