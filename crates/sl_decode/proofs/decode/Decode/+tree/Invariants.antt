use Rattle.std.proofs.Common.{◌≡◌, ◌*◌, ◌+◌, ◌≤◌, drop, take, [], map, length}
use Rattle.sl_decode.specs.Inputs.{input_of}
use Rattle.sl_decode.specs.Sprouts.{laid_grove, row_of}
use Rattle.sl_decode_meaning.specs.Decoding.{grow, operands}
use Rattle.sl_decode_plan.specs.Plans.{done_slot}
use Rattle.sl_decode.proofs.decode.Decode.+tree.Given as goal

abbrev pub decreases-grow : goal.decreases-grow
decreases-grow g l = 2 * l.left

abbrev pub decreases-operands : goal.decreases-operands
decreases-operands g l = 2 * l.left + 1

abbrev pub invariant-operands-slots : goal.invariant-operands-slots
invariant-operands-slots g l =
    (laid_grove (row_of l.growth) (operands (grow (input_of g.C.Choose.chosen l.self) l.left) (map done_slot (drop l.k l.slots)) l.at (take l.k l.lengths) l.after)
    ≡ laid_grove (row_of l.initial.growth) (operands (grow (input_of g.C.Choose.chosen l.self) l.left) (map done_slot l.slots) l.at [] l.context))
    × (length l.initial.growth.sprouts.items ≤ length l.growth.sprouts.items)
