use Rattle.std.proofs.Common.{◌-◌, ◌^◌, ℕ, List, min, ap, ◌∙◌}
use Rattle.sl_asm_bounds.proofs.ExtentLemmas.{told_most}
use Rattle.sl_asm_bounds.specs.Bounds.{unbounded}
use Rattle.sl_decode_leaves.specs.Extents.{extent}
use Rattle.sl_asm_bounds.proofs.operands.Lengths.most.Goals as goal

pub returns : goal.returns
returns c = λ lengths between. told_most c.args.of.now c.args.self.now.leasts.items c.args.self.now.mosts.items lengths c.told.result
    (c.told.ensures ∙ ap (λ (n : ℕ). min n unbounded) (c.extent_of.ensures
    ∙ ap (λ (l : List ℕ). min (extent c.args.of.now l) (2 ^ 64 - 1)) c.deref.ensures.value)) between
