use Rattle.std.proofs.Common.{◌<◌, ◌≤◌, length, arith, refl, sym, ◌∙◌}
use Rattle.std.proofs.lemmas.Bool.{false≢true}
use Rattle.std.proofs.lemmas.Option.{slice_get_read}
use Rattle.sl_asm_region.proofs.RegionLemmas.{below_all, below_more_cubes, below_more_none, below_none}
use Rattle.sl_asm_region.proofs.choices.cubes_below.Goals as goal
use Rattle.sl_asm_region.proofs.choices.cubes_below.Goals.{then-below+in_ok-extend_from_slice, else-below}

pub loop-lower-init : goal.loop-lower-init
loop-lower-init c = rw c.new-cubes.ensures.items (below_none c.args.sets.now c.args.index)

pub loop-lower-preserved : goal.loop-lower-preserved
loop-lower-preserved c = elim c.if-below.branch [
  | then-below+in_ok-extend_from_slice w ↦
      let within : c.loop-lower.lower < length c.args.sets.now = omega arith in
      let set = c.index-sets-lower.result in
      let is = slice_get_read c.args.sets.now (length c.args.sets.now) c.loop-lower.lower set refl within c.index-sets-lower.is in
      rw (w.cubes-is, w.in_ok-extend_from_slice.ensures.items, w.deref.ensures.value)
      (below_more_cubes c.args.sets.now c.args.index c.loop-lower.lower c.loop-lower.cubes.items set is (c.in_ok-below.ensures.0 w.if-below.true) c.loop-lower.invariant)
  | else-below w ↦ rw w.cubes-is (below_more_none c.args.sets.now c.args.index c.loop-lower.lower c.loop-lower.cubes.items
      (λ under. false≢true (sym w.if-below.false ∙ c.in_ok-below.ensures.1 under)) c.loop-lower.invariant)
]

pub returns : goal.returns
returns c =
    let all : length c.args.sets.now ≤ c.loop-lower.lower = omega arith in
    below_all c.args.sets.now c.args.index c.loop-lower.lower c.loop-lower.cubes.items all c.loop-lower.invariant
