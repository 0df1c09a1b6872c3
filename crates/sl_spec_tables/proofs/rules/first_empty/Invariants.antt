use Rattle.std.proofs.Common.{◌≡◌, ◌==◌, ◌&&◌, drop, get_or, min}
use Rattle.sl_spec_tables.specs.Lengths.{row_bytes}
use Rattle.sl_spec_tables.specs.Rows.{is_of}
use Rattle.sl_spec_tables.specs.TableRules.{first_place}
use Rattle.sl_spec_tables.specs.Views.{rows_of}
use Rattle.sl_spec_tables.proofs.rules.first_empty.Given as goal

abbrev pub invariant-rows : goal.invariant-rows
invariant-rows l = first_place (λ r. is_of 0 r && (min (row_bytes l.t (λ u. get_or l.values u 0) r) 1025 == 0)) (drop l.index (rows_of l.rows)) ≡ first_place (λ r. is_of 0 r && (min (row_bytes l.t (λ u. get_or l.values u 0) r) 1025 == 0)) (rows_of l.rows)
