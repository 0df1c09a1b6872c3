use Rattle.std.proofs.Common.{◌∙◌}
use Rattle.sl_decode_leaves.specs.Looks.{look_step}
use Rattle.sl_decode_leaves.proofs.WholeLemmas.{looks_end, looks_next}
use Rattle.sl_decode_leaves.proofs.whole.add_looks.Goals as goal

pub looks-preserved : goal.looks-preserved
looks-preserved c = λ t s own.
    looks_next (look_step t s) c.args.looks.now c.looks.index c.index-looks-index.result c.in_ok-look.look c.looks.all.items c.push.new.self.items
    c.looks-test.true c.index-looks-index.is c.in_ok-push.ensures.items (c.in_ok-look.ensures t s) own ∙ c.looks.invariant t s own

pub returns : goal.returns
returns c = λ t s own.
    looks_end (look_step t s) c.args.looks.now c.looks.index c.looks.all.items c.looks-test.false own ∙ c.looks.invariant t s own
