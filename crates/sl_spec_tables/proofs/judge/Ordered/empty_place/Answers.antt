use Rattle.std.proofs.Common.{◌≡◌, ◌==◌, ◌&&◌, ℕ, List, ap, ◌∙◌, get_or, length, min, arith}
use Rattle.sl_spec_tables.specs.Lengths.{row_bytes, table_amount}
use Rattle.sl_spec_tables.specs.Rows.{is_of}
use Rattle.sl_spec_tables.specs.TableRules.{first_place}
use Rattle.sl_spec_tables.specs.Views.{groups_of, rows_of}
use Rattle.sl_spec_tables.specs.declared.quantities.Quantity.TheVariants.{Least}
use Rattle.sl_spec_tables.proofs.JudgeLemmas.{empty_as, none_empty}
use Rattle.sl_spec_tables.proofs.judge.Ordered.empty_place.Goals as goal

pub returns-then-known-gt0 : goal.returns-then-known-gt0
returns-then-known-gt0 c =
    let t = c.args.self.now.t.now in
    let gs = groups_of c.args.self.now.groups.now in
    let n : c.known.result ≡ min (table_amount Least t gs 0) 1025 = c.known.ensures ∙ ap (λ (l : List ℕ). get_or l 0 0) c.as_slice.ensures.value ∙ c.in_ok-values.ensures 0 in
    none_empty t gs (rows_of c.args.self.now.rows.now) c.args.self.now.order.now (length t.tables) c.requires.grouped c.requires.order (let h = c.if-known-gt0.true in omega arith)

pub returns : goal.returns
returns c =
    let t = c.args.self.now.t.now in
    let rs = rows_of c.args.self.now.rows.now in
    c.first_empty-place.ensures
    ∙ ap (λ (l : List ℕ). first_place (λ r. is_of 0 r && (min (row_bytes t (λ u. get_or l u 0) r) 1025 == 0)) rs) c.as_slice-2.ensures.value
    ∙ empty_as t (groups_of c.args.self.now.groups.now) rs c.in_ok-values.values.items c.in_ok-values.ensures
