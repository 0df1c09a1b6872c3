use Rattle.std.proofs.Common.{ℕ, ◌≡◌, ◌<◌, ◌*◌, ◌%◌, ◌^◌, arith, subst}
use Rattle.std.specs.Int.{bit_at}
use Rattle.sl_asm_bits.proofs.SumLemmas.{bit_times_lt, product_all, product_step}
use Rattle.sl_asm_bits.proofs.sums.product.Goals as goal
use Rattle.sl_asm_bits.specs.Known.{Has}

pub loop-index-preserved : goal.loop-index-preserved
loop-index-preserved c =
    let k = c.loop-index.index in
    λ m n small below f g.
    let first : m % 2 ^ k * n % 2 ^ 64 < 2 ^ 64 = omega arith in
    let next : bit_at m k * (n * 2 ^ k % 2 ^ 64) < 2 ^ 64 = bit_times_lt m n k in
    subst (λ (x : ℕ). Has c.sum-all.result x) (product_step m n k)
    (c.sum-all.ensures (m % 2 ^ k * n % 2 ^ 64) (bit_at m k * (n * 2 ^ k % 2 ^ 64)) first next (c.loop-index.invariant m n small below f g)
    (c.row-next.ensures m (n * 2 ^ k % 2 ^ 64) f (c.raised.ensures n g)))

pub returns : goal.returns
returns c =
    let whole : c.loop-index.index ≡ 64 = omega arith in
    λ m n small below f g. subst (λ (x : ℕ). Has c.loop-index.all x) (product_all m n c.loop-index.index small whole)
    (c.loop-index.invariant m n small below f g)
