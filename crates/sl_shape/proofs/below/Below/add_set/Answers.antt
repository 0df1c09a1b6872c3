use Rattle.std.proofs.Common.{◌≡◌, Option, Some, arith, sym, ap, ◌∙◌, subst}
use Rattle.std.proofs.lemmas.List.{length-map}
use Rattle.std.proofs.lemmas.Option.{slice_get-get_or}
use Rattle.std.proofs.lemmas.Result.{err_from_is_err_and}
use Rattle.std.specs.Prelude.{slice_get}
use Rattle.sl_ast.specs.Trees.{Pattern}
use Rattle.sl_shape.specs.HeadsMade.{AreMarked}
use Rattle.sl_shape.proofs.AddedLemmas.{made_added, none_added, told_at}
use Rattle.sl_shape.proofs.HeadLemmas.{all_at}
use Rattle.sl_shape.proofs.NamedLemmas.{pattern_here, pattern_past}
use Rattle.sl_spec.specs.Numbers.{AreTold}
use Rattle.sl_spec.specs.Unfolded.{all_placed, placed}
use Rattle.sl_shape.proofs.below.Below.add_set.Goals as goal

pub returns-in_default-clause-added : goal.returns-in_default-clause-added
returns-in_default-clause-added c = λ shapes shows.
    let us = c.args.constructors.now in
    let l = c.args.lists.now in
    none_added c.args.self.now (all_placed us) shapes c.args.index l c.args.sets.now.items c.of_nothing.result (pattern_past us c.args.index c.in_default.ensures.lookup.3)
    (omega (arith, length-map us placed, c.in_default.ensures.lookup.3)) (c.of_nothing.ensures.there l.all) (c.of_nothing.ensures.shape l.all) shows

pub returns-in_err-shape-clause-fault : goal.returns-in_err-shape-clause-fault
returns-in_err-shape-clause-fault c =
    let e = err_from_is_err_and c.from_residual.result c.from_residual.ensures.1 in
    let us = c.args.constructors.now in
    let u = c.in-Some.of.now in
    let at : slice_get us c.args.index ≡ Some u = slice_get-get_or us c.args.index u c.in-Some.ensures.lookup.3.0 ∙ ap Some (sym (c.in-Some.ensures.lookup.3.1 u)) in
    rw (e.1, e.2) (λ shapes shows.
    told_at c.args.self.now (all_placed us) shapes c.args.index (placed u).1.pattern (pattern_here us c.args.index u at) c.in_err-shape.field-0.0
    (c.in_err-shape.ensures.fault shapes shows))

pub returns-clause-added : goal.returns-clause-added
returns-clause-added c = λ shapes shows.
    let us = c.args.constructors.now in
    let u = c.in-Some.of.now in
    let at : slice_get us c.args.index ≡ Some u = slice_get-get_or us c.args.index u c.in-Some.ensures.lookup.3.0 ∙ ap Some (sym (c.in-Some.ensures.lookup.3.1 u)) in
    made_added c.args.self.now (all_placed us) shapes c.args.index (placed u).1.pattern (pattern_here us c.args.index u at)
    c.args.lists.now c.constructor.new.lists c.args.sets.now.items c.put.new.sets.items c.in_ok-shape.shape c.in_ok-shape.set
    (c.in_ok-shape.ensures.made shapes shows) (omega (arith, c.requires.counted, c.in-Some.ensures.lookup.3.0)) c.put.ensures

pub constructor-requires-clause-right : goal.constructor-requires-clause-right
constructor-requires-clause-right c =
    let right = c.requires.right in
    (right.0, all_at (λ u. AreTold right.0 u.heads.items) c.args.constructors.now right.1 c.args.index c.in-Some.of.now c.in-Some.ensures.lookup.3.0 (c.in-Some.ensures.lookup.3.1 c.in-Some.of.now), right.2)

pub returns-clause-right : goal.returns-clause-right
returns-clause-right c =
    let right = c.requires.right in
    let told = all_at (λ u. AreTold right.0 u.heads.items) c.args.constructors.now right.1 c.args.index c.in-Some.of.now c.in-Some.ensures.lookup.3.0 (c.in-Some.ensures.lookup.3.1 c.in-Some.of.now) in
    (right.0, right.1, c.in_ok-shape.ensures.right right.0 told right.2)

pub constructor-requires-clause-marked : goal.constructor-requires-clause-marked
constructor-requires-clause-marked c =
    let us = c.args.constructors.now in
    let u = c.in-Some.of.now in
    let at : slice_get us c.args.index ≡ Some u = slice_get-get_or us c.args.index u c.in-Some.ensures.lookup.3.0 ∙ ap Some (sym (c.in-Some.ensures.lookup.3.1 u)) in
    subst (λ (o : Option Pattern). AreMarked c.args.self.now.tables.now c.args.made.now.marks.items o) (pattern_here us c.args.index u at) c.requires.marked
