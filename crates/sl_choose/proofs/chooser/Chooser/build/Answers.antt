use Rattle.std.proofs.Common.{arith}
use Rattle.sl_choose.proofs.chooser.Chooser.build.Goals as goal

pub returns : goal.returns
returns c = record {
  counted = omega (arith, c.len-cubes.ensures, c.in_ok-entries.ensures.count);
  entries = c.in_ok-entries.entries.items;
  are_given = c.in_ok-entries.ensures.given;
  tree =
      let tree = rw c.deref.ensures.value at c.in_ok-root.ensures.tree in
      tree c.args.sets.now c.in_ok-ranks.ensures;
}
