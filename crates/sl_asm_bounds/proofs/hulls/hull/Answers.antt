use Rattle.std.proofs.Common.{◌≡◌, arith}
use Rattle.sl_asm_bounds.proofs.HullLemmas.{first_all, first_more}
use Rattle.sl_asm_bounds.proofs.hulls.hull.Goals as goal

pub cells-preserved : goal.cells-preserved
cells-preserved c =
    let out = c.cells.out.items in
    let n = c.cells.index in
    let new = c.hull_at.result in
    record {
      first = rw c.in_ok-push.ensures.items (first_more c.args.a.now out n new c.hull_at.ensures.first c.cells.invariant.first);
      second = rw c.in_ok-push.ensures.items (first_more c.args.b.now out n new c.hull_at.ensures.second c.cells.invariant.second);
    }

pub returns-clause-first : goal.returns-clause-first
returns-clause-first c =
    let whole : c.cells.index ≡ c.args.count = omega arith in
    first_all c.args.a.now c.cells.out.items c.cells.index c.args.count whole c.cells.invariant.first

pub returns-clause-second : goal.returns-clause-second
returns-clause-second c =
    let whole : c.cells.index ≡ c.args.count = omega arith in
    first_all c.args.b.now c.cells.out.items c.cells.index c.args.count whole c.cells.invariant.second
