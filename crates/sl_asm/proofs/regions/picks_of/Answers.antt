use Rattle.std.proofs.Common.{◌≡◌, ◌<◌, ◌≤◌, List, Some, length, ap, arith, refl, sym, subst, ◌∙◌}
use Rattle.std.specs.Prelude.{slice_get}
use Rattle.std.proofs.lemmas.Option.{slice_get_read}
use Rattle.sl_asm.proofs.PickLemmas.{picks_all, picks_more, picks_none, picks_other}
use Rattle.sl_cube_sets.specs.Sets.{IsSettled}
use Rattle.sl_cube_sets.specs.Unions.{has_set}
use Rattle.sl_cube_sets.specs.declared.CubeSet.{CubeSet}
use Rattle.sl_asm.proofs.regions.picks_of.Goals as goal
use Rattle.sl_asm.proofs.regions.picks_of.Goals.{then-index-number+in_ok-cubes+in_ok-extend_from_slice, else-index-number}

pub places-init : goal.places-init
places-init c = rw c.new-out.ensures.items (picks_none c.args.kept.now c.args.number)

pub region_of_choice-requires : goal.region_of_choice-requires
region_of_choice-requires c = subst (λ (l : List CubeSet). IsSettled has_set l) (sym c.deref.ensures.value) c.requires

pub places-preserved : goal.places-preserved
places-preserved c =
    let kept = c.args.kept.now in
    let ctors = kept.ctors.items in
    let within : c.places.place < length ctors = omega arith in
    let is : slice_get ctors c.places.place ≡ Some c.index.result.now = slice_get_read ctors (length ctors) c.places.place c.index.result.now refl within c.index.ensures in
    elim c.if-index-number.branch [
      | then-index-number+in_ok-cubes+in_ok-extend_from_slice w ↦
          rw (w.out-is, w.in_ok-extend_from_slice.ensures.items, w.deref-then-index-number.ensures.value)
          (picks_more kept c.args.number c.places.place c.places.out.items w.in_ok-cubes.cubes.items (is ∙ ap Some w.if-index-number.true)
          (rw w.deref.ensures.value at w.in_ok-cubes.ensures) c.places.invariant)
      | else-index-number w ↦ rw w.out-is (picks_other kept c.args.number c.places.place c.index.result.now c.places.out.items is w.if-index-number.false c.places.invariant)
    ]

pub returns : goal.returns
returns c =
    let all : length c.args.kept.now.ctors.items ≤ c.places.place = omega arith in
    picks_all c.args.kept.now c.args.number c.places.place c.places.out.items all c.places.invariant
