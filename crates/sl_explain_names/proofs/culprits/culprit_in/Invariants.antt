use Rattle.std.proofs.Common.{◌≡◌, drop}
use Rattle.sl_explain_names.specs.Culprits.{culprit_in}
use Rattle.sl_explain_names.specs.ItemView.{item}
use Rattle.sl_explain_names.proofs.culprits.culprit_in.Given as goal

-- the culprit by the rows that are left is that by all
abbrev pub invariant-rows : goal.invariant-rows
invariant-rows l = culprit_in (item l.i) l.rule (drop l.at l.rows) ≡ culprit_in (item l.i) l.rule l.rows
