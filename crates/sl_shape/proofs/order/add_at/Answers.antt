use Rattle.std.proofs.lemmas.Result.{IfOk-weaker}
use Rattle.sl_shape.proofs.HeadLemmas.{all_at}
use Rattle.sl_spec.specs.Numbers.{AreTold}
use Rattle.sl_shape.proofs.order.add_at.Goals as goal

pub add_in_blocks-requires : goal.add_in_blocks-requires
add_in_blocks-requires c =
    let made = c.requires in
    rw c.as_slice.ensures.value
    (made.0, all_at (λ u. AreTold made.0 u.heads.items) c.args.constructors.now made.1 c.args.index c.in-Some.of.now c.in-Some.ensures.lookup.3.0 (c.in-Some.ensures.lookup.3.1 c.in-Some.of.now), made.2)

pub returns-in-Some-clause-kept : goal.returns-in-Some-clause-kept
returns-in-Some-clause-kept c =
    let made = c.requires in
    let told = all_at (λ u. AreTold made.0 u.heads.items) c.args.constructors.now made.1 c.args.index c.in-Some.of.now c.in-Some.ensures.lookup.3.0 (c.in-Some.ensures.lookup.3.1 c.in-Some.of.now) in
    let kept = rw c.as_slice.ensures.value at c.add_in_blocks.ensures.kept in
    IfOk-weaker c.add_in_blocks.result _ _ (λ n keeps. (made.0, made.1, keeps made.0 told made.2)) kept
