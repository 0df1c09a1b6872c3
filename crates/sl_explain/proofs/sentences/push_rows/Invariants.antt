use Rattle.std.proofs.Common.{◌≡◌, ◌++◌, drop}
use Rattle.sl_explain.specs.Rows.{rows_of}
use Rattle.sl_explain.specs.Sentences.{lines_of}
use Rattle.sl_explain.proofs.sentences.push_rows.Given as goal

-- the lines so far and those of the rows that are left are all lines
abbrev pub invariant-each : goal.invariant-each
invariant-each l =
    l.out.items ++ lines_of l.number (rows_of (drop l.row-index l.rows)) ≡ l.initial.out.items ++ lines_of l.number (rows_of l.rows)
