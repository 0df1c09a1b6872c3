use Rattle.std.proofs.Common.{ℕ, sym, subst}
use Rattle.sl_shape.specs.Adding.{IsAdded}
use Rattle.sl_shape.specs.HeadsMade.{AreMarked}
use Rattle.sl_shape.specs.Stops.{Stops}
use Rattle.sl_shape.specs.Tables.{CtorTells, pattern_at}
use Rattle.sl_shape.proofs.AddedLemmas.{error_at}
use Rattle.sl_spec.specs.Unfolded.{all_placed}
use Rattle.sl_shape.proofs.below.Below.add_constructor.Goals as goal

pub returns-in-Ok-clause-added : goal.returns-in-Ok-clause-added
returns-in-Ok-clause-added c = λ shapes shows.
    subst (λ (i : ℕ). IsAdded c.args.self.now (all_placed c.args.constructors.now) shapes c.args.lists.now c.add_set.new.lists c.args.sets.now.items c.add_set.new.sets.items i c.in-Ok.shape)
    c.ctor.view_is (c.in-Ok.ensures.added shapes shows)

pub returns-in-Err-clause-fault : goal.returns-in-Err-clause-fault
returns-in-Err-clause-fault c = λ shapes shows.
    let self = c.args.self.now in
    let cs = all_placed c.args.constructors.now in
    error_at self cs shapes c.args.ctor c.in-Err.stop c.stopped.result c.stopped.ensures
    (subst (λ (i : ℕ). Stops (CtorTells self.tables.now cs shapes self.hulls.now i) c.in-Err.stop) c.ctor.view_is (c.in-Err.ensures.fault shapes shows))

pub add_set-requires-clause-marked : goal.add_set-requires-clause-marked
add_set-requires-clause-marked c =
    subst (λ (i : ℕ). AreMarked c.args.self.now.tables.now c.args.made.now.marks.items (pattern_at (all_placed c.args.constructors.now) i)) (sym c.ctor.view_is) c.requires.marked
