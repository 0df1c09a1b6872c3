use Rattle.std.proofs.Common.{◌≢◌, ◌<◌, ◌≤◌, length, arith, refl, below_more}
use Rattle.std.proofs.lemmas.Bool.{false≢true}
use Rattle.std.proofs.lemmas.List.Elements.{at_read}
use Rattle.sl_cube.specs.Points.{IsInSome}
use Rattle.sl_cube_sets.specs.Unions.{IsBelow}
use Rattle.sl_cube_sets.specs.declared.candidate.Candidate.{Candidate}
use Rattle.sl_cube_sets.specs.Left.{cubes_of}
use Rattle.sl_cube_sets.proofs.LeftLemmas.{not_lowest, lowest_all}
use Rattle.sl_cube_sets.proofs.search.is_lowest.Goals as goal

pub returns-then-beside : goal.returns-then-beside
returns-then-beside c =
    let below : c.loop-other.other-index < length c.args.left.now = omega arith in
    let stands = rw c.if-beside.true at c.in_ok-beside.ensures in (
      λ t. absurd (false≢true t),
      λ low. absurd (not_lowest c.args.sets.now c.args.left.now c.args.point.now c.args.set c.loop-other.other-index c.other-item.result below c.other-item.is stands.0 stands.1 stands.2 low),
    )

pub loop-other-preserved : goal.loop-other-preserved
loop-other-preserved c =
    let below : c.loop-other.other-index < length c.args.left.now = omega arith in
    let stands = rw c.if-beside.false at c.in_ok-beside.ensures in
    below_more _ _ c.loop-other.invariant (at_read c.args.left.now (λ (x : Candidate). IsInSome (cubes_of x) c.args.point.now → x.set ≢ c.args.set → IsBelow c.args.sets.now c.args.set x.set)
    c.loop-other.other-index c.other-item.result below c.other-item.is stands)

pub returns : goal.returns
returns c =
    let all : length c.args.left.now ≤ c.loop-other.other-index = omega arith in (
      λ t. lowest_all c.args.sets.now c.args.left.now c.args.point.now c.args.set c.loop-other.other-index all c.loop-other.invariant,
      λ low. refl,
    )
