use Rattle.std.proofs.Common.{ap, ◌∙◌, ◌^◌, pos}
use Rattle.std.proofs.lemmas.Int.{to_z-of_z}
use Rattle.std.specs.Int.{int_rem_euclid, w128}
use Rattle.sl_tool_contexts.proofs.BitLemmas.{low_bits}
use Rattle.sl_tool_contexts.proofs.words.bits.Goals as goal

pub returns : goal.returns
returns c =
    low_bits c.args.value c.rem_euclid.result
    (c.rem_euclid.ensures.value ∙ ap (λ z. int_rem_euclid z (pos (2 ^ 64))) (to_z-of_z w128 c.args.value c.ranges.value))
