use Rattle.std.proofs.Common.{inl, inr}
use Rattle.sl_spec.specs.Unfolded.{placed}
use Rattle.sl_shape.proofs.HoldLemmas.{union_shaped}
use Rattle.sl_shape.proofs.MadeLemmas.{no_point, point_found, window_fine, window_long}
use Rattle.sl_shape.proofs.below.Below.set_of.Goals as goal

pub returns-then-window-gt-MOST_WINDOW-clause-fault : goal.returns-then-window-gt-MOST_WINDOW-clause-fault
returns-then-window-gt-MOST_WINDOW-clause-fault c = λ shapes s shows shape.
    let self = c.args.self.now in
    inl (window_long self.tables.now shapes self.hulls.now (placed c.args.of.now).1.pattern s shape _ shows.are c.in_ok-window.window c.in_ok-window.ensures.window c.if-window-gt-MOST_WINDOW.true)

pub returns-in-Some-clause-set : goal.returns-in-Some-clause-set
returns-in-Some-clause-set c = λ shapes s shows shape.
    let self = c.args.self.now in
    let p = (placed c.args.of.now).1.pattern in
    let cubes = c.in_ok-cubes.cubes.items in
    let found = rw c.deref.ensures.value at c.in-Some.ensures in
    record {
      union = union_shaped self.tables.now shapes self.hulls.now p s shape _ shows.are cubes c.in_ok-cubes.ensures.cubes;
      sound = (
        window_fine self.tables.now shapes self.hulls.now p s shape _ shows.are c.in_ok-window.window c.in_ok-window.ensures.window c.if-window-gt-MOST_WINDOW.false,
        point_found self.tables.now shapes self.hulls.now p s shape _ shows.are cubes c.in_ok-cubes.ensures.cubes c.in-Some.field-0 found.0 found.1,
      );
    }

pub returns-in-None-clause-fault : goal.returns-in-None-clause-fault
returns-in-None-clause-fault c = λ shapes s shows shape.
    let self = c.args.self.now in
    let p = (placed c.args.of.now).1.pattern in
    inr (
      window_fine self.tables.now shapes self.hulls.now p s shape _ shows.are c.in_ok-window.window c.in_ok-window.ensures.window c.if-window-gt-MOST_WINDOW.false,
      no_point self.tables.now shapes self.hulls.now p s shape _ shows.are c.in_ok-cubes.cubes.items c.in_ok-cubes.ensures.cubes (rw c.deref.ensures.value at c.in-None.ensures),
    )
