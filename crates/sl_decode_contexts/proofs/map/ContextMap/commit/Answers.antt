use Rattle.std.proofs.Common.{sym, subst}
use Rattle.std.proofs.lemmas.Result.{on_ok_weaker}
use Rattle.sl_decode_contexts.specs.Kept.{Kept}
use Rattle.sl_decode_contexts.specs.Runs.{Stands}
use Rattle.sl_decode_contexts.proofs.CommitLemmas.{commit_stands, first_stands}
use Rattle.sl_decode_contexts.proofs.map.ContextMap.commit.Goals as goal

pub returns-in-Some-clause-stands : goal.returns-in-Some-clause-stands
returns-in-Some-clause-stands c =
    on_ok_weaker c.commit.result
    (λ made start commits stands.
    let kept : Kept = record { start = c.self.inside.start; runs = c.self.inside.runs } in
    let s : Stands kept start commits = subst (λ k. Stands k start commits) (sym c.self.view_is) stands in
    commit_stands c.in-Some.tree c.commit.new.self c.self.inside.start start commits c.args.c.now
    (subst (λ r. Stands (record { start = c.self.inside.start; runs = r }) start commits) c.in-Some.is s) made)
    c.commit.ensures.committed

pub returns-in-None-clause-stands : goal.returns-in-None-clause-stands
returns-in-None-clause-stands c start commits stands =
    let kept : Kept = record { start = c.self.inside.start; runs = c.self.inside.runs } in
    let s : Stands kept start commits = subst (λ k. Stands k start commits) (sym c.self.view_is) stands in
    rw (c.given.ensures, c.fresh.ensures)
    (first_stands c.self.inside.start start commits c.args.c.now (subst (λ r. Stands (record { start = c.self.inside.start; runs = r }) start commits) c.in-None.is s))
