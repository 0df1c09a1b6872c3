use Rattle.std.proofs.Common.{◌≡◌, drop}
use Rattle.sl_ast.specs.Symbols.{find}
use Rattle.sl_parse_terminals.specs.Rows.{rows_of}
use Rattle.sl_parse_terminals.proofs.find_row.Given as goal

abbrev pub invariant-rows : goal.invariant-rows
invariant-rows g l = find l.text (rows_of l.fn.rows) ≡ find l.text (rows_of (drop l.row-index l.rows))
