use Rattle.sl_cube_sets.proofs.AnswerLemmas.{nothing_right, all_right}
use Rattle.sl_cube_sets.proofs.answers.Answers.new.Goals as goal

pub returns : goal.returns
returns c = all_right c.args.sets.now _ c.min-count.result c.in_ok-slots.slots.items (c.in_ok-slots.ensures.items_if_clones_equal (λ y e. e)) (nothing_right c.args.sets.now 0)
