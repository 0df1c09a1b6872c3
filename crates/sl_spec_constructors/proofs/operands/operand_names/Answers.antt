use Rattle.std.proofs.Common.{List, ℕ, [], map}
use Rattle.sl_spec_rules.proofs.Seen.{below_map, seen_map}
use Rattle.sl_spec.specs.Tables.{Operand}
use Rattle.sl_spec_actions.proofs.Folds.{fold_goes}
use Rattle.sl_spec_actions.specs.ActionNames.{with_name}
use Rattle.sl_spec_constructors.proofs.operands.operand_names.Goals as goal

abbrev name : Operand → List ℕ
name o = o.name

pub operands-preserved : goal.operands-preserved
operands-preserved c =
    let operands = c.args.operands.now in
    let below = c.operands-test.true in
    fold_goes with_name [] (map name operands) c.operands.names c.add_name.new.names c.operands.index _ (below_map name operands c.operands.index below)
    (seen_map name operands c.operands.index c.index-operands-index.result below c.index-operands-index.is) c.in_ok-add_name.ensures c.operands.invariant
