use Rattle.std.proofs.Common.{◌<◌, ◌≤◌, false, length, arith}
use Rattle.std.proofs.lemmas.Option.{slice_get-get_or}
use Rattle.sl_gap.proofs.ListLemmas.{unmarked_all, unmarked_more, unmarked_none}
use Rattle.sl_gap.proofs.unmarked.unmarked.Goals as goal

pub marks-init : goal.marks-init
marks-init c = rw c.new-ids.ensures.items (unmarked_none c.args.marks.now)

pub marks-preserved : goal.marks-preserved
marks-preserved c =
    let below : c.marks.number < length c.args.marks.now = omega arith in
    unmarked_more c.args.marks.now c.marks.ids.items c.add_unmarked.new.ids.items c.marks.number _ (slice_get-get_or c.args.marks.now c.marks.number false below)
    c.in_ok-add_unmarked.ensures c.marks.invariant

pub returns : goal.returns
returns c =
    let all : length c.args.marks.now ≤ c.marks.number = omega arith in
    unmarked_all c.args.marks.now c.marks.ids.items c.marks.number all c.marks.invariant
