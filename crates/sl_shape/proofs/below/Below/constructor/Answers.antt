use Rattle.std.proofs.Math.Nat.{le_trans}
use Rattle.std.proofs.lemmas.Result.{err_from_is_err_and}
use Rattle.sl_ast.specs.Views.{constructor_of}
use Rattle.sl_spec.specs.Unfolded.{placed}
use Rattle.sl_shape.specs.Below.{Shows, shapes_in}
use Rattle.sl_shape.specs.Faults.{CountTells, OrElse, PointTells, ShapeTells, WindowTells}
use Rattle.sl_shape.specs.declared.below.TokenLists.{TokenLists}
use Rattle.sl_shape.proofs.BelowLemmas.{keeps_same, or_else_first, or_else_second}
use Rattle.sl_shape.proofs.HeadLemmas.{lists_kept, sets_more, shapes_more, shapes_same, there_more, windows_more}
use Rattle.sl_shape.proofs.KeptLemmas.{made_marked}
use Rattle.sl_shape.proofs.below.Below.constructor.Goals as goal

pub returns-in_err-shape-clause-fault : goal.returns-in_err-shape-clause-fault
returns-in_err-shape-clause-fault c =
    let e = err_from_is_err_and c.from_residual-in_err-shape.result c.from_residual-in_err-shape.ensures.1 in
    let self = c.args.self.now in
    let p = (placed c.args.of.now).1.pattern in
    let stop = c.in_err-shape.field-0.0 in
    let fault = rw c.as_slice-heads.ensures.value at c.in_err-shape.ensures.fault in
    rw (e.1, e.2) (λ shapes shows.
    let t = self.tables.now in
    let hulls = self.hulls.now in
    let behind = OrElse (WindowTells t shapes hulls p) (PointTells t shapes hulls p) in
    or_else_second self shapes (CountTells t p) (OrElse (ShapeTells t shapes hulls p) behind) stop c.in_ok-demand_count.ensures.few
    (or_else_first self shapes (ShapeTells t shapes hulls p) behind stop (fault shapes shows)))

pub returns-in_err-set-clause-fault : goal.returns-in_err-set-clause-fault
returns-in_err-set-clause-fault c =
    let e = err_from_is_err_and c.from_residual-in_err-set.result c.from_residual-in_err-set.ensures.1 in
    let self = c.args.self.now in
    let p = (placed c.args.of.now).1.pattern in
    let stop = c.in_err-set.field-0.0 in
    let shaped = rw c.as_slice-heads.ensures.value at c.in_ok-shape.ensures.shape in
    rw (e.1, e.2) (λ shapes shows.
    let t = self.tables.now in
    let hulls = self.hulls.now in
    let i = shaped shapes shows in
    let now : Shows self (record { all = c.shape_in_blocks.new.lists.all; bytes = c.grow.new.self }) shapes = record { there = i.gets.shows.there; are = i.gets.shows.are } in
    let behind = OrElse (WindowTells t shapes hulls p) (PointTells t shapes hulls p) in
    or_else_second self shapes (CountTells t p) (OrElse (ShapeTells t shapes hulls p) behind) stop c.in_ok-demand_count.ensures.few
    (or_else_second self shapes (ShapeTells t shapes hulls p) behind stop i.sound (c.in_err-set.ensures.fault shapes i.want now i.shape)))

pub returns-clause-made : goal.returns-clause-made
returns-clause-made c = λ shapes shows.
    let self = c.args.self.now in
    let shaped = rw c.as_slice-heads.ensures.value at c.in_ok-shape.ensures.shape in
    let i = shaped shapes shows in
    let now : Shows self (record { all = c.shape_in_blocks.new.lists.all; bytes = c.grow.new.self }) shapes = record { there = i.gets.shows.there; are = i.gets.shows.are } in
    let set = c.in_ok-set.ensures.set shapes i.want now i.shape in
    let count = c.in_ok-demand_count.ensures.few in
    record {
      want = i.want;
      gets = record { shows = now; keeps = i.gets.keeps; there = i.gets.there; is = i.gets.is };
      shape = i.shape;
      union = set.union;
      few = le_trans (c.in_ok-set.ensures.few count.0 count.1) count.2;
      sound = (c.in_ok-demand_count.ensures.few, (i.sound, set.sound));
    }

pub demand_count-requires : goal.demand_count-requires
demand_count-requires c = (c.requires.right.0, c.requires.right.1, c.requires.right.2.counts)

pub shape_in_blocks-requires-clause-there : goal.shape_in_blocks-requires-clause-there
shape_in_blocks-requires-clause-there c = c.requires.right.2.there

pub shape_in_blocks-requires-clause-made : goal.shape_in_blocks-requires-clause-made
shape_in_blocks-requires-clause-made c = rw c.as_slice-heads.ensures.value (c.requires.right.0, c.requires.right.1, c.requires.right.2.shapes)

pub set_of-requires-clause-windows : goal.set_of-requires-clause-windows
set_of-requires-clause-windows c =
    let self = c.args.self.now in
    let right = c.requires.right in
    let shaped = rw c.as_slice-heads.ensures.value at c.in_ok-shape.ensures.shape in
    let new : TokenLists = record { all = c.shape_in_blocks.new.lists.all; bytes = c.grow.new.self } in
    let keeps = lists_kept self c.args.lists.now c.shape_in_blocks.new.lists right.2.there (placed c.args.of.now).1.pattern c.in_ok-shape.shape shaped in
    (right.0, right.1, windows_more self (shapes_in self c.args.lists.now) (shapes_in self new) (shapes_same self c.args.lists.now new right.2.there keeps) right.0 c.args.made.now.windows right.2.windows)

pub set_of-requires-clause-sets : goal.set_of-requires-clause-sets
set_of-requires-clause-sets c =
    let self = c.args.self.now in
    let right = c.requires.right in
    let shaped = rw c.as_slice-heads.ensures.value at c.in_ok-shape.ensures.shape in
    let new : TokenLists = record { all = c.shape_in_blocks.new.lists.all; bytes = c.grow.new.self } in
    let keeps = lists_kept self c.args.lists.now c.shape_in_blocks.new.lists right.2.there (placed c.args.of.now).1.pattern c.in_ok-shape.shape shaped in
    (right.0, right.1, sets_more self (shapes_in self c.args.lists.now) (shapes_in self new) (shapes_same self c.args.lists.now new right.2.there keeps) right.0 c.args.made.now.sets right.2.sets)

pub returns-clause-right : goal.returns-clause-right
returns-clause-right c = λ head_at told right.
    let self = c.args.self.now in
    let old = c.args.lists.now in
    let mid = c.shape_in_blocks.new.lists in
    let new : TokenLists = record { all = mid.all; bytes = c.grow.new.self } in
    let shaped = rw c.as_slice-heads.ensures.value at c.in_ok-shape.ensures.shape in
    let kept = rw c.as_slice-heads.ensures.value at c.in_ok-shape.ensures.kept in
    let keeps = lists_kept self old mid right.there (placed c.args.of.now).1.pattern c.in_ok-shape.shape shaped in
    let there = there_more self old mid right.there keeps in
    let same = shapes_same self old new right.there keeps in
    let t = self.tables.now in
    let marks = c.args.made.now.marks.items in
    let blocks = c.args.of.now.heads.items in
    let own = constructor_of c.args.of.now.own.now in
    let others = rw c.as_slice-heads.ensures.value at c.in_ok-shape.ensures.others in
    record {
      there = there;
      counts = c.in_ok-demand_count.ensures.kept head_at told right.counts;
      shapes = shapes_more self mid new there (keeps_same mid.all) head_at c.shape_in_blocks.new.made (kept head_at told right.shapes);
      windows = c.in_ok-set.ensures.windows head_at told (windows_more self (shapes_in self old) (shapes_in self new) same head_at c.args.made.now.windows right.windows);
      sets = c.in_ok-set.ensures.sets head_at told (sets_more self (shapes_in self old) (shapes_in self new) same head_at c.args.made.now.sets right.sets);
      shapes_marked = made_marked t marks blocks own c.requires.marked head_at told c.args.made.now.shapes c.shape_in_blocks.new.made others right.shapes_marked;
      windows_marked = made_marked t marks blocks own c.requires.marked head_at told c.args.made.now.windows c.set_of.new.windows c.in_ok-set.ensures.other_windows right.windows_marked;
      sets_marked = made_marked t marks blocks own c.requires.marked head_at told c.args.made.now.sets c.set_of.new.sets c.in_ok-set.ensures.other_sets right.sets_marked;
    }
