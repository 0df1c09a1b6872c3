use Rattle.std.proofs.Common.{◌<◌, ◌≤◌, length, sym, ◌∙◌, refl, arith}
use Rattle.std.proofs.lemmas.Bool.{false≢true}
use Rattle.sl_cube_sets.proofs.WithinLemmas.{first_none, first_more, first_all, covers_one}
use Rattle.sl_cube_sets.proofs.within.is_within.Goals as goal

pub loop-cube-init : goal.loop-cube-init
loop-cube-init c = first_none c.args.inner.now c.args.outer.now

pub returns-then-not-covered : goal.returns-then-not-covered
returns-then-not-covered c =
    let below : c.loop-cube.cube-index < length c.args.inner.now = omega arith in (
      λ t. absurd (false≢true t),
      λ within. absurd (false≢true (sym c.if-not-covered.true ∙ c.in_ok-covered.ensures.1 (covers_one c.args.inner.now c.args.outer.now c.loop-cube.cube-index c.cube-item.result below c.cube-item.is within))),
    )

pub loop-cube-preserved : goal.loop-cube-preserved
loop-cube-preserved c =
    let below : c.loop-cube.cube-index < length c.args.inner.now = omega arith in
    first_more c.args.inner.now c.args.outer.now c.loop-cube.cube-index c.cube-item.result below c.cube-item.is (c.in_ok-covered.ensures.0 c.if-not-covered.false) c.loop-cube.invariant

pub returns : goal.returns
returns c =
    let all : length c.args.inner.now ≤ c.loop-cube.cube-index = omega arith in (
      λ t. first_all c.args.inner.now c.args.outer.now c.loop-cube.cube-index all c.loop-cube.invariant,
      λ within. refl,
    )
