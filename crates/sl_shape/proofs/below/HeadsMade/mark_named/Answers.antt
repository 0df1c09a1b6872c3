use Rattle.sl_shape.proofs.KeptLemmas.{marked_more}
use Rattle.sl_shape.proofs.below.HeadsMade.mark_named.Goals as goal

pub returns-in-Some-clause-right : goal.returns-in-Some-clause-right
returns-in-Some-clause-right c = λ b lists head_at right.
    let t = b.tables.now in
    let old = c.args.self.now in
    let marks = c.mark_all.new.marks.items in
    let still = c.mark_all.ensures.still in
    record {
      there = right.there;
      counts = right.counts;
      shapes = right.shapes;
      windows = right.windows;
      sets = right.sets;
      shapes_marked = marked_more t old.marks.items marks still head_at old.shapes right.shapes_marked;
      windows_marked = marked_more t old.marks.items marks still head_at old.windows right.windows_marked;
      sets_marked = marked_more t old.marks.items marks still head_at old.sets right.sets_marked;
    }
