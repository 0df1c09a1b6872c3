use Rattle.std.proofs.Common.{List, sym, ◌∙◌, subst}
use Rattle.std.proofs.lemmas.Bool.{false≢true}
use Rattle.sl_cube.proofs.OutsideLemmas.{keeps_meeting}
use Rattle.sl_cube_sets.specs.declared.candidate.Candidate.{Candidate}
use Rattle.sl_cube_sets.specs.Left.{cubes_of, Adds}
use Rattle.sl_cube_sets.proofs.LeftLemmas.{adds_lent, within_adds, within_meeting, within_apart}
use Rattle.sl_cube_sets.proofs.search.put_meeting.Goals as goal

pub returns-then-not-meets : goal.returns-then-not-meets
returns-then-not-meets c = within_apart c.args.region.now c.args.kept.now.items c.args.candidate.now
    (λ meet. false≢true (sym c.if-not-meets.true ∙ c.meets.ensures.1 meet))

pub returns-then-is_whole : goal.returns-then-is_whole
returns-then-is_whole c =
    let candidate = c.args.candidate.now in
    let old = c.args.kept.now.items in
    within_adds c.args.region.now old _ candidate
    (subst (λ (xs : List Candidate). Adds old candidate.set (cubes_of candidate) xs) (sym {A = List Candidate} c.in_ok-push.ensures.items)
    (adds_lent old candidate c.lent.result c.lent.ensures.set c.lent.ensures.cubes))

pub returns : goal.returns
returns c =
    let candidate = c.args.candidate.now in
    let meets = keeps_meeting c.args.region.now (cubes_of candidate) c.in_ok-cubes.cubes.items (rw c.as_slice.ensures.value at c.in_ok-cubes.ensures) in
    within_meeting c.args.region.now c.args.kept.now.items c.put.new.kept.items candidate c.in_ok-cubes.cubes.items meets c.in_ok-put.ensures
