use Rattle.sl_list_instructions.proofs.ListLemmas.{cut_of, next_of, whole_front}
use Rattle.sl_list_instructions.proofs.listings.next_line.Goals as goal

pub returns-in-Err-write_all-clause-front : goal.returns-in-Err-write_all-clause-front
returns-in-Err-write_all-clause-front g c cs s =
    cut_of (g.L.Lister.shows c.args.lister.now) c.args.at c.in-Ok.count cs c.show.new.text.items c.show.new.commits.items _ _ (c.in-Ok.ensures.shown cs s) (rw c.deref.ensures.value at c.in-Err-write_all.ensures.front)

pub returns-in-Ok-commit_all-clause-next : goal.returns-in-Ok-commit_all-clause-next
returns-in-Ok-commit_all-clause-next g c cs s =
    next_of (g.L.Lister.shows c.args.lister.now) c.args.at c.in-Ok.count cs c.show.new.text.items c.show.new.commits.items _ _ (g.L.Lister.start c.args.lister.now) _ (c.in-Ok.ensures.shown cs s)
    (rw c.deref-2.ensures.value at (c.in-Ok-commit_all.ensures.all (g.L.Lister.start c.args.lister.now) cs s)) (rw c.deref.ensures.value at c.in-Ok-write_all.ensures.whole)

pub returns-in-Err-commit_all-clause-front : goal.returns-in-Err-commit_all-clause-front
returns-in-Err-commit_all-clause-front g c cs s =
    cut_of (g.L.Lister.shows c.args.lister.now) c.args.at c.in-Ok.count cs c.show.new.text.items c.show.new.commits.items _ _ (c.in-Ok.ensures.shown cs s)
    (whole_front _ _ _ (rw c.deref.ensures.value at c.in-Ok-write_all.ensures.whole))
