use Rattle.std.proofs.Common.{◌+◌, Bool, List, [], take, refl, sym, ◌∙◌, subst}
use Rattle.std.proofs.lemmas.Result.{err_from_is_err_and}
use Rattle.sl_shape.specs.Adding.{AreAdded}
use Rattle.sl_shape.specs.HeadsMade.{AreMarked}
use Rattle.sl_shape.specs.Tables.{pattern_at}
use Rattle.sl_shape.proofs.AddLoopLemmas.{added_more, all_added, first_found}
use Rattle.sl_shape.proofs.BelowLemmas.{keeps_same}
use Rattle.sl_shape.proofs.HeadLemmas.{all_at}
use Rattle.sl_shape_tokens.specs.declared.shapes.Shape as code
use Rattle.sl_spec.specs.Unfolded.{all_placed}
use Rattle.sl_shape.proofs.below.Below.add_constructors.Goals as goal

pub returns-in_err-shape-clause-fault : goal.returns-in_err-shape-clause-fault
returns-in_err-shape-clause-fault c =
    let e = err_from_is_err_and c.from_residual.result c.from_residual.ensures.1 in
    let b = c.args.self.now in
    let cs = all_placed c.args.constructors.now in
    rw (e.1, e.2) (λ shapes shows.
    let added = c.ctors.invariant.added shapes shows in
    first_found b cs shapes c.args.lists.now c.ctors.lists c.args.sets.now.items c.ctors.sets.items c.args.ctors.now c.ctors.index c.index-ctors-index.result c.ctors.found.items
    c.ctors-test.true c.index-ctors-index.is added c.in_err-shape.field-0.0 (c.in_err-shape.ensures.fault shapes added.shows))

pub ctors-init : goal.ctors-init
ctors-init c =
    let b = c.args.self.now in
    let cs = all_placed c.args.constructors.now in
    let l = c.args.lists.now in
    let sets = c.args.sets.now.items in
    record {
      sized = c.requires.sized;
      right = c.requires.right;
      marks = refl;
      counted = c.requires.counted;
      added = λ shapes shows.
          let none : AreAdded b cs shapes l l sets sets [] [] =
          record { shows = shows; lists = keeps_same l.all; there = tt; found_are = refl; sound = tt; have_sets = tt; keeps = λ i is. is } in
          subst (λ (found : List code.Shape). AreAdded b cs shapes l l sets sets [] found) (sym c.new-found.ensures.items) none;
    }

pub add_constructor-requires-clause-right : goal.add_constructor-requires-clause-right
add_constructor-requires-clause-right c =
    let right = c.ctors.invariant.right in
    (right.0, right.1, c.grow_older.ensures.right c.args.self.now c.ctors.lists right.0 right.2)

pub add_constructor-requires-clause-marked : goal.add_constructor-requires-clause-marked
add_constructor-requires-clause-marked c =
    let t = c.args.self.now.tables.now in
    let cs = all_placed c.args.constructors.now in
    let marked = all_at (λ i. AreMarked t c.args.made.now.marks.items (pattern_at cs i)) c.args.ctors.now c.requires.marked c.ctors.index c.index-ctors-index.result
    c.ctors-test.true c.index-ctors-index.is in
    subst (λ (marks : List Bool). AreMarked t marks (pattern_at cs c.index-ctors-index.result)) (sym (c.grow_older.ensures.marks ∙ c.ctors.invariant.marks)) marked

pub ctors-preserved : goal.ctors-preserved
ctors-preserved c =
    let b = c.args.self.now in
    let cs = all_placed c.args.constructors.now in
    record {
      sized = c.in_ok-shape.ensures.sized;
      right = c.in_ok-shape.ensures.right;
      marks = c.in_ok-shape.ensures.marks ∙ c.grow_older.ensures.marks ∙ c.ctors.invariant.marks;
      counted = c.in_ok-shape.ensures.counted;
      added = λ shapes shows.
          let added = c.ctors.invariant.added shapes shows in
          subst (λ (l : List code.Shape). AreAdded b cs shapes c.args.lists.now c.add_constructor.new.lists c.args.sets.now.items c.add_constructor.new.sets.items (take (c.ctors.index + 1) c.args.ctors.now) l) (sym c.in_ok-push.ensures)
          (added_more b cs shapes c.args.lists.now c.ctors.lists c.args.sets.now.items c.ctors.sets.items c.args.ctors.now c.ctors.index c.index-ctors-index.result c.ctors.found.items
          c.ctors-test.true c.index-ctors-index.is added c.add_constructor.new.lists c.add_constructor.new.sets.items c.in_ok-shape.shape (c.in_ok-shape.ensures.added shapes added.shows));
    }

pub returns-clause-added : goal.returns-clause-added
returns-clause-added c = λ shapes shows.
    all_added c.args.self.now (all_placed c.args.constructors.now) shapes c.args.lists.now c.ctors.lists c.args.sets.now.items c.ctors.sets.items c.args.ctors.now c.ctors.index c.ctors.found.items
    c.ctors-test.false (c.ctors.invariant.added shapes shows)
