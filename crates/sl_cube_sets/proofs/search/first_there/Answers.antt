use Rattle.std.proofs.Common.{◌<◌, ◌≤◌, length, arith, sym, ◌∙◌, below_more}
use Rattle.std.proofs.lemmas.Bool.{false≢true}
use Rattle.std.proofs.lemmas.List.Elements.{at_read}
use Rattle.sl_cube.specs.Points.{IsInSome}
use Rattle.sl_cube_sets.specs.declared.candidate.Candidate.{Candidate}
use Rattle.sl_cube_sets.specs.Left.{cubes_of}
use Rattle.sl_cube_sets.proofs.LeftLemmas.{there_at, none_there}
use Rattle.sl_cube_sets.proofs.search.first_there.Goals as goal

pub returns-then-is_in_some : goal.returns-then-is_in_some
returns-then-is_in_some c =
    let below : c.loop-candidate.candidate-index < length c.args.left.now = omega arith in
    let has = rw c.as_slice.ensures.value at c.is_in_some.ensures in
    there_at c.args.left.now c.loop-candidate.candidate-index c.candidate-item.result c.args.point.now below c.candidate-item.is (has.0 c.if-is_in_some.true)

pub loop-candidate-preserved : goal.loop-candidate-preserved
loop-candidate-preserved c =
    let below : c.loop-candidate.candidate-index < length c.args.left.now = omega arith in
    let has = rw c.as_slice.ensures.value at c.is_in_some.ensures in
    below_more _ _ c.loop-candidate.invariant (at_read c.args.left.now (λ (x : Candidate). IsInSome (cubes_of x) c.args.point.now → ⊥) c.loop-candidate.candidate-index c.candidate-item.result below
    c.candidate-item.is (λ inside. false≢true (sym c.if-is_in_some.false ∙ has.1 inside)))

pub returns : goal.returns
returns c =
    let all : length c.args.left.now ≤ c.loop-candidate.candidate-index = omega arith in
    none_there c.args.left.now c.args.point.now c.loop-candidate.candidate-index all c.loop-candidate.invariant
