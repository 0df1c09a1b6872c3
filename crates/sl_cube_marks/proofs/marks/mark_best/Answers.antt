use Rattle.std.proofs.Common.{arith}
use Rattle.sl_cube.specs.Points.{InRange}
use Rattle.sl_cube_marks.proofs.MarkLemmas.{still_chosen, marks_best}
use Rattle.sl_cube_marks.proofs.marks.mark_best.Goals as goal

pub returns-clause-chosen : goal.returns-clause-chosen
returns-clause-chosen c =
    let range : InRange c.least-least.result = (omega arith, omega arith) in
    still_chosen c.args.sets.now c.args.region.now c.args.left.now c.requires.holds c.requires.settled c.least-least.result range c.least-least.ensures.0
    c.in_ok-found.found c.in_ok-found.ensures c.args.marks.now.items c.mark_found.new.marks.items c.requires.chosen c.mark_found.ensures

pub returns-clause-all : goal.returns-clause-all
returns-clause-all c =
    let range : InRange c.least-least.result = (omega arith, omega arith) in
    marks_best c.args.sets.now c.args.region.now c.args.left.now c.requires.holds c.requires.settled c.least-least.result range c.least-least.ensures.0
    c.in_ok-found.found c.in_ok-found.ensures c.args.marks.now.items c.mark_found.new.marks.items c.requires.chosen c.mark_found.ensures c.requires.constant
