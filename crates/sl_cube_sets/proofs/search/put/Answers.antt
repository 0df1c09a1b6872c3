use Rattle.std.proofs.Common.{List, sym, subst}
use Rattle.std.specs.Cow.{cow_slice_items}
use Rattle.sl_cube_sets.specs.declared.candidate.Candidate.{Candidate}
use Rattle.sl_cube_sets.specs.Left.{Adds}
use Rattle.sl_cube_sets.proofs.LeftLemmas.{adds_pushed, hull_inside}
use Rattle.sl_cube_sets.proofs.search.put.Goals as goal

pub invariant_of-push : goal.invariant_of-push
invariant_of-push c = record { in_hull = hull_inside (cow_slice_items c.args.cubes) c.in-Some.hull (rw c.as_slice.ensures.value at c.in-Some.ensures) }

pub returns : goal.returns
returns c = subst (λ (xs : List Candidate). Adds c.args.kept.now.items c.args.set (cow_slice_items c.args.cubes) xs) (sym c.in_ok-push.ensures.items) (adds_pushed c.args.kept.now.items _)
