use Rattle.std.proofs.Common.{ℕ, List}
use Rattle.sl_asm_bits.specs.Known.{Has}
use Rattle.sl_asm_fit.specs.Regions.{IsOf}
use Rattle.sl_asm_known.proofs.TokenLemmas.{part_at, read_first}
use Rattle.sl_asm_known.proofs.fields.token_bits.Given as goal

abbrev pub invariant-bytes : goal.invariant-bytes
invariant-bytes l = (xs : List ℕ) → IsOf l.region xs → Has l.number (read_first l.token.endian (part_at l.size l.at xs) l.index)
