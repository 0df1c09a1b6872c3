use Rattle.std.proofs.Common.{rules}
use Rattle.sl_cube_marks.proofs.MarkLemmas.{all_marked, holds_half, marks_halves}
use Rattle.sl_cube_marks.proofs.marks.+mark.Goals as goal

pub returns-then-are_marked-clause-all : goal.returns-then-are_marked-clause-all
returns-then-are_marked-clause-all t c =
    let all = rw c.deref.ensures.value at c.are_marked.ensures in
    all_marked c.args.sets.now c.args.region.now c.args.left.now c.requires.holds c.args.marks.now.items (all c.if-are_marked.true)

pub mark-requires : goal.mark-requires
mark-requires t c =
    let holds = holds_half c.args.sets.now c.args.region.now c.in-Some.low c.args.left.now c.in_ok-in_low.in_low.items c.in_ok-filled.filled c.in-Some.ensures.low_within
    c.in_ok-filled.ensures c.in_ok-in_low.ensures c.requires.holds in (
      search rules,
      (c.requires.settled, (rw c.deref-2.ensures.value holds, c.requires.chosen)),
    )

pub mark-requires-2 : goal.mark-requires-2
mark-requires-2 t c =
    let holds = holds_half c.args.sets.now c.args.region.now c.in-Some.high c.args.left.now c.in_ok-in_high.in_high.items c.in_ok-filled.filled c.in-Some.ensures.high_within
    c.in_ok-filled.ensures c.in_ok-in_high.ensures c.requires.holds in (
      search rules,
      (c.requires.settled, (rw c.deref-3.ensures.value holds, c.in_ok-mark.ensures.chosen)),
    )

pub returns-clause-all : goal.returns-clause-all
returns-clause-all t c =
    marks_halves c.args.sets.now c.args.region.now c.in-Some.low c.in-Some.high c.mark.new.marks.items c.mark-2.new.marks.items c.in-Some.ensures
    c.in_ok-mark.ensures.all c.in_ok-mark-2.ensures.kept c.in_ok-mark-2.ensures.all
