use Rattle.std.proofs.Common.{ℕ, ◌+◌, ◌%◌, ◌^◌, ap₂, ◌∙◌}
use Rattle.sl_decode.proofs.BitLemmas.{wrapped_number}
use Rattle.sl_asm.proofs.wanted.address_after.Goals as goal

pub returns : goal.returns
returns c =
    wrapped_number (c.from.result + c.from-2.result) c.address_size.result.bytes c.from-3.result c.from-3.ensures c.address_size.result.at_most_8
    ∙ ap₂ (λ (n k : ℕ). n % 256 ^ k) (ap₂ (λ (a b : ℕ). a + b) c.from.ensures c.from-2.ensures) c.address_size.ensures
