use Rattle.std.proofs.Common.{sym, ◌∙◌}
use Rattle.sl_parse_terminals.proofs.Finding.{found_here, found_later, found_nowhere}
use Rattle.sl_parse_terminals.proofs.find_row.Goals as goal

pub returns-then-eq : goal.returns-then-eq
returns-then-eq g c = sym (c.rows.invariant ∙ found_here c.args.text.now c.args.rows.now c.rows.row-index c.row-item.result c.rows-test.true c.row-item.is (sym c.eq.ensures ∙ c.if-eq.true))

pub rows-preserved : goal.rows-preserved
rows-preserved g c = c.rows.invariant ∙ found_later c.args.text.now c.args.rows.now c.rows.row-index c.row-item.result c.rows-test.true c.row-item.is (sym c.eq.ensures ∙ c.if-eq.false)

pub returns : goal.returns
returns g c = sym (c.rows.invariant ∙ found_nowhere c.args.text.now c.args.rows.now c.rows.row-index c.rows-test.false)
