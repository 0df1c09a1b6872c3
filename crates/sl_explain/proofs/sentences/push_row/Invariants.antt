use Rattle.std.proofs.Common.{◌≡◌, ◌++◌, drop}
use Rattle.sl_explain.specs.Rows.{rows_of}
use Rattle.sl_explain.specs.Sentences.{line_of}
use Rattle.sl_explain.proofs.sentences.push_row.Given as goal

-- the line that is left is that of all rows
abbrev pub invariant-each : goal.invariant-each
invariant-each l =
    l.out.items ++ line_of l.number l.left (rows_of (drop l.row-index l.rows)) ≡ l.initial.out.items ++ line_of l.number l.which (rows_of l.rows)
