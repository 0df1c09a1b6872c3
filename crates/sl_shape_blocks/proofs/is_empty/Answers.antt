use Rattle.std.proofs.Common.{◌≡◌, ◌*◌, ◌^◌, ℕ, arith, ap, refl}
use Rattle.std.proofs.lemmas.Bool.{false≢true}
use Rattle.sl_shape_blocks.proofs.BlockLemmas.{empty_below, empty_above, empty_turned, meets_from}
use Rattle.sl_shape_blocks.proofs.is_empty.Goals as goal

pub returns-then-high-low : goal.returns-then-high-low
returns-then-high-low c = (λ t. empty_turned c.args.low c.args.high c.args.index c.args.size c.if-high-low.true, λ empty. refl)

pub returns-then-last-low : goal.returns-then-last-low
returns-then-last-low c = (
  λ t.
      let e : c.args.index * c.width-codes.result ≡ c.args.index * 2 ^ c.args.size = ap (λ (x : ℕ). c.args.index * x) c.width-codes.ensures in
      empty_below c.args.low c.args.high c.args.index c.args.size (omega (arith, c.width-codes.ensures)),
  λ empty. refl,
)

pub returns-then-high-first : goal.returns-then-high-first
returns-then-high-first c = (
  λ t.
      let e : c.args.index * c.width-codes.result ≡ c.args.index * 2 ^ c.args.size = ap (λ (x : ℕ). c.args.index * x) c.width-codes.ensures in
      empty_above c.args.low c.args.high c.args.index c.args.size (omega arith),
  λ empty. refl,
)

pub returns : goal.returns
returns c =
    let e : c.args.index * c.width-codes.result ≡ c.args.index * 2 ^ c.args.size = ap (λ (x : ℕ). c.args.index * x) c.width-codes.ensures in (
      λ t. absurd (false≢true t),
      λ empty. absurd (meets_from c.args.low c.args.high c.args.index c.args.size (omega arith) (omega (arith, c.width-codes.ensures)) (omega arith) empty),
    )
