use Rattle.std.proofs.Common.{ℕ, ◌<◌, ◌*◌, ◌%◌, ◌^◌}
use Rattle.sl_asm_bits.specs.Known.{Has}
use Rattle.sl_asm_bits.proofs.sums.product.Given as goal

abbrev pub invariant-loop-index : goal.invariant-loop-index
invariant-loop-index l =
    (m n : ℕ) → m < 2 ^ 64 → n < 2 ^ 64 → Has l.a m → Has l.b n → Has l.all (m % 2 ^ l.index * n % 2 ^ 64)
