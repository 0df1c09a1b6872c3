use Rattle.std.proofs.Common.{refl}
use Rattle.sl_spec_actions.specs.Levels.{any_unwanted}
use Rattle.sl_spec_actions.proofs.LevelLemmas.{begins_inside, judged_inside}
use Rattle.sl_spec_actions.proofs.actions.level_inside.Goals as goal

pub returns : goal.returns
returns c =
    let all = c.args.all.now in
    let t = c.args.t.now in
    let levels = c.args.around.now in
    record {
      number_is = refl;
      names_are = refl;
      judged = λ before known. judged_inside levels _ all t _
          (c.in_ok-add_written.ensures (any_unwanted levels) before (begins_inside all t levels c.args.names before c.in_ok-judged.judged c.in_ok-judged.ensures known));
    }
