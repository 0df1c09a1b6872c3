use Rattle.sl_asm_known.proofs.BitsLemmas.{IsNarrowed}
use Rattle.sl_asm_known.proofs.narrowing.by_token.Given as goal

abbrev pub invariant-bytes : goal.invariant-bytes
invariant-bytes l = IsNarrowed l.token.endian l.size l.at l.integer l.fn.region.items l.left.items l.rest l.step
