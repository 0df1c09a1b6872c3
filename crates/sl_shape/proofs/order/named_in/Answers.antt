use Rattle.std.proofs.Common.{[], ◌++◌, ap, ◌∙◌}
use Rattle.sl_spec_rules.proofs.Gathers.{all_gathered, gathers}
use Rattle.sl_shape.specs.Tables.{named_by, pattern_at}
use Rattle.sl_spec.specs.Unfolded.{all_placed}
use Rattle.sl_shape.proofs.order.named_in.Goals as goal

pub ctors-preserved : goal.ctors-preserved
ctors-preserved c =
    let t = c.args.t.now in
    let us = c.args.constructors.now in
    let named = gathers (λ i. named_by t (pattern_at (all_placed us) i)) [] c.args.ctors.now c.ctors.all.items c.add_at.new.all.items c.ctors.index c.index-ctors-index.result c.ctors-test.true
    c.index-ctors-index.is (c.in_ok-add_at.ensures.added ∙ ap (λ n. c.ctors.all.items ++ named_by t (pattern_at (all_placed us) n)) c.ctor.view_is) c.ctors.invariant.named in
    record { named = named; kept = c.in_ok-add_at.ensures.kept }

pub returns-clause-named : goal.returns-clause-named
returns-clause-named c =
    let t = c.args.t.now in
    let us = c.args.constructors.now in
    all_gathered (λ i. named_by t (pattern_at (all_placed us) i)) [] c.args.ctors.now c.ctors.all.items c.ctors.index c.ctors-test.false c.ctors.invariant.named
