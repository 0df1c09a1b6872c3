use Rattle.std.proofs.Common.{refl}
use Rattle.sl_cube_marks.proofs.MarkLemmas.{holds_all, marks_whole, none_chosen}
use Rattle.sl_cube_sets.proofs.LeastLemmas.{whole_cube}
use Rattle.sl_cube_marks.proofs.marks.chosen_sets.Goals as goal

pub mark-requires-clause-holds : goal.mark-requires-clause-holds
mark-requires-clause-holds c = rw c.deref.ensures.value (holds_all c.args.sets.now _ c.in_ok-left.left.items c.in_ok-left.ensures)

pub mark-requires-clause-chosen : goal.mark-requires-clause-chosen
mark-requires-clause-chosen c = none_chosen c.args.sets.now c.in_ok-marks.marks.items (c.in_ok-marks.ensures.items_if_clones_equal (λ y e. e))

pub returns-clause-all : goal.returns-clause-all
returns-clause-all c = marks_whole c.args.sets.now whole_cube c.mark.new.marks.items refl refl c.in_ok-mark.ensures.all
