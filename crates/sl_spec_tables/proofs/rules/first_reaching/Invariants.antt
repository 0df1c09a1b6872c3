use Rattle.std.proofs.Common.{◌≡◌, drop, false, get_or}
use Rattle.sl_spec_tables.specs.TableRules.{first_place}
use Rattle.sl_spec_tables.specs.Views.{rows_of}
use Rattle.sl_spec_tables.proofs.rules.first_reaching.Given as goal

abbrev pub invariant-rows : goal.invariant-rows
invariant-rows l = first_place (λ r. get_or l.told r.0.table false) (drop l.index (rows_of l.rows)) ≡ first_place (λ r. get_or l.told r.0.table false) (rows_of l.rows)
