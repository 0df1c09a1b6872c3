use Rattle.std.proofs.Common.{◌<◌, ◌++◌, ◌∷◌, [], List, length, ap, subst, ◌∙◌, sym, arith}
use Rattle.std.proofs.lemmas.List.{map_push, length-map}
use Rattle.sl_spec_rules.proofs.Seen.{below_map, seen_map}
use Rattle.sl_spec.specs.Numbers.{AreTold}
use Rattle.sl_spec.specs.Unfolded.{all_placed, placed}
use Rattle.sl_spec.specs.declared.unfolded.Unfolded.{Unfolded}
use Rattle.sl_spec.proofs.KeyedLemmas.{all_push}
use Rattle.sl_spec_tables.specs.BlockLengths.{AreToldRows}
use Rattle.sl_spec_tables.specs.Rows as spec
use Rattle.sl_spec_tables.specs.Views.{row_of, rows_of}
use Rattle.sl_spec_tables.specs.declared.rows.Row.{Row}
use Rattle.sl_spec_tables.proofs.BlockLemmas.{all_at}
use Rattle.sl_spec_tables.proofs.RowLemmas.{zip_all, zip_more}
use Rattle.sl_spec_tables.proofs.rows.all_rows.Goals as goal

pub ctors-preserved : goal.ctors-preserved
ctors-preserved c =
    let cs = c.args.ctors.now in
    let us = c.args.constructors.now in
    let i = c.ctors.index in
    let m = c.min-index-end.ensures in
    let t = c.ctors-test.true in
    let bx : i < length cs = omega arith in
    let by : i < length us = omega arith in
    let u = c.index-constructors-index.result in (
      ap rows_of c.in_ok-push.ensures.items ∙ map_push row_of c.ctors.all.items _
          ∙ ap (λ (l : List spec.Row). l ++ (c.index-ctors-index.result, placed u) ∷ []) c.ctors.invariant.0
          ∙ sym (zip_more cs (all_placed us) i c.index-ctors-index.result (placed u) bx (below_map placed us i by) c.index-ctors-index.is (seen_map placed us i u by c.index-constructors-index.is)),
      λ head_at told.
          subst (λ (l : List Row). AreToldRows head_at l) (sym c.in_ok-push.ensures.items)
          (all_push (λ (r : Row). AreTold head_at r.own.now.heads.items) c.ctors.all.items _ (c.ctors.invariant.1 head_at told)
          (all_at (λ (x : Unfolded). AreTold head_at x.heads.items) us i u told by c.index-constructors-index.is)),
    )

pub returns-clause-all : goal.returns-clause-all
returns-clause-all c =
    let m = c.min-index-end.ensures in
    let t = c.ctors-test.false in
    c.ctors.invariant.0 ∙ zip_all c.args.ctors.now (all_placed c.args.constructors.now) c.ctors.index (omega (arith, length-map c.args.constructors.now placed))

pub returns-clause-told : goal.returns-clause-told
returns-clause-told c = c.ctors.invariant.1
