use Rattle.std.proofs.Common.{◌≡◌, ◌-◌, length}
use Rattle.sl_asm_fit.proofs.FrontLemmas.{FirstWithout}
use Rattle.sl_asm_fit.proofs.lists.+pass_from.Given as goal

abbrev pub decreases-pass_from : goal.decreases-pass_from
decreases-pass_from g l = length l.region.now - length l.front.now.items

abbrev pub invariant-loop-value : goal.invariant-loop-value
invariant-loop-value g l = record {
  same : l.front.items ≡ l.fn.front.items;
  without : FirstWithout (g.T.Test.passes l.test) l.region l.fn.front.items l.value;
}
