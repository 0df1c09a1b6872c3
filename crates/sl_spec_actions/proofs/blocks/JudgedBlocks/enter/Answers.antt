use Rattle.std.proofs.Common.{ap, ◌∙◌}
use Rattle.std.specs.Prelude.{List, take}
use Rattle.sl_spec_actions.specs.Levels.{Level}
use Rattle.sl_spec_actions.proofs.BlockLemmas.{first_begin, first_end, first_go}
use Rattle.sl_spec_actions.proofs.blocks.JudgedBlocks.enter.Goals as goal

pub inside-init : goal.inside-init
inside-init c =
    first_begin c.args.all.now c.args.t.now c.args.blocks.now c.args.self.now _ c.front-front.result
    (c.truncate.ensures.items ∙ ap (λ (ls : List Level). take c.front-front.result ls) c.self.view_is) c.front-front.ensures

pub inside-preserved : goal.inside-preserved
inside-preserved c =
    first_go c.args.all.now c.args.t.now c.args.blocks.now c.args.self.now _ _ c.inside.index _
    c.inside-test.true c.index-blocks-index.is c.in_ok-add.ensures c.inside.invariant

pub returns : goal.returns
returns c = first_end c.args.all.now c.args.t.now c.args.blocks.now c.args.self.now _ c.inside.index c.inside-test.false c.inside.invariant
