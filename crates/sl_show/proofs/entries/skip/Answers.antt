use Rattle.std.proofs.Common.{◌∙◌, ap, sym, add-one, arith}
use Rattle.sl_show.specs.Entries.{from_tree, rows}
use Rattle.sl_show.proofs.EntryLemmas.{from_suc}
use Rattle.sl_show.proofs.entries.skip.Goals as goal

pub trees-preserved : goal.trees-preserved
trees-preserved c = record {
  trees = λ values f e. c.next_tree-rest.ensures.trees values (from_tree c.trees.counter f) (c.trees.invariant.trees values f e)
      ∙ ap rows (sym (from_suc c.trees.counter f) ∙ ap (λ k. from_tree k f) (sym (add-one c.trees.counter)));
  within = omega (arith, c.next_tree-rest.ensures.within, c.trees.invariant.within);
}
