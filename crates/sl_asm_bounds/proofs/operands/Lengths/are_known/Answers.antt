use Rattle.std.proofs.Common.{ℕ, ◌<◌, below_more, get_or, length, arith, refl, subst, sym}
use Rattle.std.proofs.lemmas.Grind.{same_number_lists}
use Rattle.std.proofs.lemmas.List.{get_or_read}
use Rattle.sl_asm_bounds.specs.Bounds.{IsKnown}
use Rattle.sl_asm_bounds.proofs.operands.Lengths.are_known.Goals as goal

pub operands-preserved : goal.operands-preserved
operands-preserved c =
    let low = c.args.self.now.leasts.items in
    let high = c.args.self.now.mosts.items in
    let i = c.operands.index in
    let in_low : i < length low = omega arith in
    let in_high : i < length high = omega arith in
    let its = c.if-not-is_known.ensures refl in
    below_more (λ k. IsKnown (get_or low k 0) (get_or high k 0)) i c.operands.invariant
    (subst (λ (m : ℕ). IsKnown (get_or low i 0) m) (get_or_read high i c.index-in-operands.result.now in_high c.index-in-operands.ensures 0)
    (subst (λ (l : ℕ). IsKnown l c.index-in-operands.result.now) (get_or_read low i c.index.result.now in_low c.index.ensures 0) its))

pub returns : goal.returns
returns c = λ _ lengths between.
    let low = c.args.self.now.leasts.items in
    let few = between.fewest in
    same_number_lists lengths low (sym few)
    (λ k below. c.operands.invariant k (omega (arith, below, few)) (get_or lengths k 0) (between.least k) (between.most k))
