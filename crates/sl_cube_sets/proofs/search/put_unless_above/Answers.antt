use Rattle.std.proofs.Common.{List, sym, refl, subst, inl, inr}
use Rattle.sl_cube_sets.specs.declared.candidate.Candidate.{Candidate}
use Rattle.sl_cube_sets.specs.Left.{cubes_of, Adds}
use Rattle.sl_cube_sets.proofs.LeftLemmas.{adds_lent}
use Rattle.sl_cube_sets.proofs.search.put_unless_above.Goals as goal

pub returns-then-above-clause-adds : goal.returns-then-above-clause-adds
returns-then-above-clause-adds c = inr (refl, c.in_ok-above.ensures.above c.if-above.true)

pub returns-clause-adds : goal.returns-clause-adds
returns-clause-adds c =
    let candidate = c.args.candidate.now in
    inl (subst (λ (xs : List Candidate). Adds c.args.thin.now.items candidate.set (cubes_of candidate) xs) (sym {A = List Candidate} c.in_ok-push.ensures.items)
    (adds_lent c.args.thin.now.items candidate c.lent.result c.lent.ensures.set c.lent.ensures.cubes))
