use Rattle.std.proofs.Common.{◌-◌, length, refl}
use Rattle.sl_build.specs.Views.{gives_in, list_in, section_in, setting_in}
use Rattle.sl_build.proofs.LoopLemmas.{one_round}
use Rattle.sl_build.proofs.trees.trees.Goals as goal

pub nodes-preserved : goal.nodes-preserved
nodes-preserved c =
    let w = c.args.w.now in
    one_round (section_in w) (setting_in w) (list_in w) (gives_in w) w.values.now c.args.nodes.now c.nodes.done.items c.add_tree.new.done.items c.nodes.round (length c.args.nodes.now - 1 - c.nodes.round) c.in_ok-k.k c.index-nodes-index.result
    c.nodes-test.true refl c.in_ok-k.ensures c.index-nodes-index.is c.nodes.invariant c.in_ok-add_tree.ensures
