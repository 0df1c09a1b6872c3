use Rattle.std.proofs.Common.{ℕ, ◌<◌, ◌++◌, ◌∷◌, [], List, length, get_or, set, ap, ◌∙◌, sym, subst, arith}
use Rattle.sl_conflict.specs.Kept.{AreTablesOf}
use Rattle.sl_conflict.specs.Rows.{Row}
use Rattle.sl_conflict.proofs.TableLemmas.{table_more, table_same}
use Rattle.sl_conflict.proofs.grouping.add_to_table.Goals as goal

pub returns-in_ok-add : goal.returns-in_ok-add
returns-in_ok-add c =
    let within : c.args.table < length c.args.tables.now.items = omega (arith, c.if-table-len.true, c.len.ensures, c.index-table.ensures, c.args.tables.now.ok.0) in
    subst (λ n. (count : ℕ) (rs : List Row) → AreTablesOf count rs c.args.tables.now.items
    → AreTablesOf count (rs ++ record { number = c.args.ctor; table = c.args.table; set = c.args.set } ∷ []) (set c.args.tables.now.items n c.add.new.self))
    (sym c.index-table.ensures)
    (table_more c.args.tables.now.items c.args.table c.args.ctor c.args.set c.index_mut.result.now c.add.new.self within
    (c.index_mut.ensures.value ∙ ap (λ n. get_or c.args.tables.now.items n c.index_mut.result.now) c.index-table.ensures) c.in_ok-add.ensures.ctors c.in_ok-add.ensures.sets)

pub returns-else-table-len : goal.returns-else-table-len
returns-else-table-len c =
    table_same c.args.tables.now.items c.args.table c.args.ctor c.args.set (omega (arith, c.if-table-len.false, c.len.ensures, c.index-table.ensures, c.args.tables.now.ok.0))
