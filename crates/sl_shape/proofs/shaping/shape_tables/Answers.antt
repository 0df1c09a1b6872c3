use Rattle.std.proofs.Common.{get_or, length}
use Rattle.std.proofs.lemmas.Result.{err_from_is_err_and}
use Rattle.sl_shape.proofs.OrderedLemmas.{faults_here, known_more, read_any}
use Rattle.sl_spec.specs.Unfolded.{all_placed}
use Rattle.sl_shape.proofs.shaping.shape_tables.Goals as goal

pub returns-in_err-shape_table-clause-fault : goal.returns-in_err-shape_table-clause-fault
returns-in_err-shape_table-clause-fault c =
    let e = err_from_is_err_and c.from_residual.result c.from_residual.ensures.1 in
    let order = c.args.order.now in
    let i = c.order.index in
    let table = get_or order i 0 in
    rw (e.1, e.2) (faults_here c.args.t.now (all_placed c.args.constructors.now) order i table c.order-test.true (read_any order i 0 table c.order-test.true)
    c.order.known c.order.invariant.are c.in_err-shape_table.field-0.0 c.in_err-shape_table.ensures.fault)

pub order-preserved : goal.order-preserved
order-preserved c =
    let order = c.args.order.now in
    let i = c.order.index in
    let table = get_or order i 0 in
    record {
      right = c.in_ok-shape_table.ensures.right;
      kept = c.in_ok-shape_table.ensures.kept;
      are = known_more c.args.t.now (all_placed c.args.constructors.now) order i table c.order-test.true (read_any order i 0 table c.order-test.true)
          c.order.known c.order.invariant.are c.shape_table.new.self (length c.args.constructors.now) c.order.invariant.right c.in_ok-shape_table.ensures.right c.in_ok-shape_table.ensures.next;
    }
