use Rattle.std.proofs.Common.{◌<◌, ◌≤◌, length, arith, sym, ◌∙◌, below_more}
use Rattle.std.proofs.lemmas.Bool.{false≢true}
use Rattle.std.proofs.lemmas.List.Elements.{at_read}
use Rattle.sl_cube.specs.Points.{IsInSome}
use Rattle.sl_cube_sets.specs.Left.{cubes_of, IsLowest}
use Rattle.sl_cube_sets.specs.declared.candidate.Candidate.{Candidate}
use Rattle.sl_cube_sets.proofs.LeftLemmas.{best_from, best_none}
use Rattle.sl_cube_sets.proofs.search.has_best.Goals as goal

pub returns-then-best : goal.returns-then-best
returns-then-best c =
    let below : c.loop-candidate.candidate-index < length c.args.left.now = omega arith in
    let both = c.in_ok-best.ensures.0 c.if-best.true in
    best_from c.args.sets.now c.args.left.now c.args.point.now c.loop-candidate.candidate-index c.candidate-item.result below c.candidate-item.is both.0 both.1

pub loop-candidate-preserved : goal.loop-candidate-preserved
loop-candidate-preserved c =
    let below : c.loop-candidate.candidate-index < length c.args.left.now = omega arith in
    below_more _ _ c.loop-candidate.invariant (at_read c.args.left.now (λ (x : Candidate). IsInSome (cubes_of x) c.args.point.now × IsLowest c.args.sets.now c.args.left.now c.args.point.now x.set → ⊥)
    c.loop-candidate.candidate-index c.candidate-item.result below c.candidate-item.is (λ both. false≢true (sym c.if-best.false ∙ c.in_ok-best.ensures.1 both)))

pub returns : goal.returns
returns c =
    let all : length c.args.left.now ≤ c.loop-candidate.candidate-index = omega arith in
    best_none c.args.sets.now c.args.left.now c.args.point.now c.loop-candidate.candidate-index all c.loop-candidate.invariant
