use Rattle.std.proofs.Common.{◌==◌, ◌&&◌, Bool, ap, sym, ◌∙◌, get_or, min, Some}
use Rattle.sl_spec_rules.proofs.Seen.{below_map, past_map, seen_map}
use Rattle.sl_spec.specs.Numbers.{AreTold}
use Rattle.sl_spec_tables.specs.Lengths.{row_bytes}
use Rattle.sl_spec_tables.specs.Rows as spec
use Rattle.sl_spec_tables.specs.Rows.{is_of}
use Rattle.sl_spec_tables.specs.Views.{row_of, rows_of}
use Rattle.sl_spec_tables.specs.declared.rows.Row.{Row}
use Rattle.sl_spec_tables.proofs.BlockLemmas.{all_at}
use Rattle.sl_spec_tables.proofs.RuleLemmas.{found_here, found_later, found_nowhere}
use Rattle.sl_spec_tables.proofs.rules.first_empty.Goals as goal

pub is_empty-requires : goal.is_empty-requires
is_empty-requires c =
    let m = c.requires in
    (m.0, all_at (λ (x : Row). AreTold m.0 x.own.now.heads.items) c.args.rows.now c.rows.index c.index-rows-index.result m.1 c.rows-test.true c.index-rows-index.is, m.2)

pub rows-preserved : goal.rows-preserved
rows-preserved c =
    let test : spec.Row → Bool = λ r. is_of 0 r && (min (row_bytes c.args.t.now (λ u. get_or c.args.values.now u 0) r) 1025 == 0) in
    let rs = c.args.rows.now in
    let i = c.rows.index in
    let r = c.index-rows-index.result in
    found_later test (rows_of rs) i (row_of r) (below_map row_of rs i c.rows-test.true) (seen_map row_of rs i r c.rows-test.true c.index-rows-index.is) _
    (sym c.is_empty.ensures ∙ c.if-is_empty.false) c.rows.invariant

pub returns-then-is_empty : goal.returns-then-is_empty
returns-then-is_empty c =
    let test : spec.Row → Bool = λ r. is_of 0 r && (min (row_bytes c.args.t.now (λ u. get_or c.args.values.now u 0) r) 1025 == 0) in
    let rs = c.args.rows.now in
    let i = c.rows.index in
    let r = c.index-rows-index.result in
    ap Some c.place.ensures ∙ found_here test (rows_of rs) i (row_of r) (below_map row_of rs i c.rows-test.true) (seen_map row_of rs i r c.rows-test.true c.index-rows-index.is) _
    (sym c.is_empty.ensures ∙ c.if-is_empty.true) c.rows.invariant

pub returns : goal.returns
returns c =
    let test : spec.Row → Bool = λ r. is_of 0 r && (min (row_bytes c.args.t.now (λ u. get_or c.args.values.now u 0) r) 1025 == 0) in
    found_nowhere test (rows_of c.args.rows.now) c.rows.index _ (past_map row_of c.args.rows.now c.rows.index c.rows-test.false) c.rows.invariant
