use Rattle.std.proofs.Common.{ℕ, ◌<◌, ◌≤◌, subst, arith}
use Rattle.sl_list_instructions.proofs.ListLemmas.{all_listed, cut_line, one_line}
use Rattle.sl_list_instructions.proofs.listings.list_all.Goals as goal

pub lines-preserved : goal.lines-preserved
lines-preserved g c =
    let u = c.lines.invariant.listed in
    let within = subst (λ (end : ℕ). c.lines.at < end) c.end-end.ensures.value c.lines-test.true in record {
      listed = one_line (g.L.Lister.shows c.args.lister.now) (g.L.Lister.end c.args.lister.now) c.lines.at (g.L.Lister.start c.args.lister.now) _ _ _ _ _ _ u within (c.in-Ok.ensures.next u.made u.stands);
      faults = omega (arith, c.lines.invariant.faults, c.next_line.ensures.sink.never_falls);
      calls = omega (arith, c.lines.invariant.calls, c.next_line.ensures.sink.goes_on);
    }

pub returns-in-Err-clause-front : goal.returns-in-Err-clause-front
returns-in-Err-clause-front g c =
    let u = c.lines.invariant.listed in
    let within = subst (λ (end : ℕ). c.lines.at < end) c.end-end.ensures.value c.lines-test.true in
    cut_line (g.L.Lister.shows c.args.lister.now) (g.L.Lister.end c.args.lister.now) c.lines.at (g.L.Lister.start c.args.lister.now) _ _ _ _ u within (c.in-Err.ensures.front u.made u.stands)

pub returns-clause-whole : goal.returns-clause-whole
returns-clause-whole g c =
    let past = subst (λ (end : ℕ). end ≤ c.lines.at) c.end-end.ensures.value c.lines-test.false in
    all_listed (g.L.Lister.shows c.args.lister.now) (g.L.Lister.end c.args.lister.now) c.lines.at (g.L.Lister.start c.args.lister.now) _ _ _ c.lines.invariant.listed past
