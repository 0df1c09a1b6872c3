use Rattle.std.proofs.Common.{◌≡◌, ◌*◌, ◌^◌, ℕ, arith, ap, refl}
use Rattle.std.proofs.lemmas.Bool.{false≢true}
use Rattle.sl_shape_blocks.proofs.BlockLemmas.{ends_from_full, full_from_ends}
use Rattle.sl_shape_blocks.proofs.is_full.Goals as goal

pub returns-then-first-low : goal.returns-then-first-low
returns-then-first-low c =
    let e : c.args.index * c.width-codes.result ≡ c.args.index * 2 ^ c.args.size = ap (λ (x : ℕ). c.args.index * x) c.width-codes.ensures in (
      λ t. absurd (false≢true t),
      λ full. absurd (omega (arith, (ends_from_full c.args.low c.args.high c.args.index c.args.size full).0)),
    )

pub returns-then-high-last : goal.returns-then-high-last
returns-then-high-last c =
    let e : c.args.index * c.width-codes.result ≡ c.args.index * 2 ^ c.args.size = ap (λ (x : ℕ). c.args.index * x) c.width-codes.ensures in (
      λ t. absurd (false≢true t),
      λ full. absurd (omega (arith, (ends_from_full c.args.low c.args.high c.args.index c.args.size full).1, c.width-codes.ensures)),
    )

pub returns : goal.returns
returns c =
    let e : c.args.index * c.width-codes.result ≡ c.args.index * 2 ^ c.args.size = ap (λ (x : ℕ). c.args.index * x) c.width-codes.ensures in (
      λ t. full_from_ends c.args.low c.args.high c.args.index c.args.size (omega arith) (omega (arith, c.width-codes.ensures)),
      λ full. refl,
    )
