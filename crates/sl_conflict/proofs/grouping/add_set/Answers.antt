use Rattle.std.proofs.Common.{◌≡◌, ◌++◌, ◌∷◌, [], List, length, Some, None, refl, ap, ◌∙◌, sym, subst}
use Rattle.std.proofs.lemmas.Option.{slice_get_past, slice_get_read}
use Rattle.std.specs.Prelude.{slice_get}
use Rattle.sl_spec.specs.Tables.{Ctor}
use Rattle.sl_conflict.specs.Kept.{AreTablesOf}
use Rattle.sl_conflict.specs.Rows.{Row, rows}
use Rattle.sl_conflict.proofs.RowLemmas.{row_goes, row_stays}
use Rattle.sl_conflict.proofs.TableLemmas.{ok_then}
use Rattle.sl_conflict.proofs.grouping.add_set.Goals as goal

pub returns-in-Some : goal.returns-in-Some
returns-in-Some c =
    let ctor = c.in-Some.ctor.now in
    let look = c.in-Some.ensures.lookup in
    let there : slice_get c.args.ctors.now c.args.number ≡ Some ctor = slice_get_read c.args.ctors.now (length c.args.ctors.now) c.args.number ctor refl look.3.0 look.1 in
    ok_then c.add_to_table.result c.add_to_table.ensures (λ added count done long are.
    subst (λ (rs : List Row). AreTablesOf count rs c.add_to_table.new.tables.items)
    (ap (λ t. rows c.args.ctors.now done ++ record { number = c.args.number; table = t; set = c.args.set } ∷ []) (ap (λ (x : Ctor). x.table) c.ctor.view_is)
    ∙ sym (row_goes c.args.ctors.now done c.args.set ctor c.args.number long there))
    (added count (rows c.args.ctors.now done) are))

pub returns-in-None : goal.returns-in-None
returns-in-None c = λ count done long are.
    let none : slice_get c.args.ctors.now c.args.number ≡ None = slice_get_past c.args.ctors.now c.args.number c.in-None.ensures.lookup.3 in
    subst (λ (rs : List Row). AreTablesOf count rs c.args.tables.now.items) (sym (row_stays c.args.ctors.now done c.args.set c.args.number long none)) are
