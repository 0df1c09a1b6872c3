use Rattle.std.proofs.Common.{List, map, fold, sym, ap, ◌∙◌, option_map}
use Rattle.std.specs.Prelude.{codes, unwrap_or}
use Rattle.sl_ast.specs.Trees.{Head}
use Rattle.sl_ast.specs.Views.{bytes, constructor_of, head_of}
use Rattle.sl_spec_rules.proofs.Seen.{below_map, past_map, read_map}
use Rattle.sl_spec.specs.declared.unfolded.Around.{Around}
use Rattle.sl_spec_actions.proofs.Folds.{fold_ends, fold_goes}
use Rattle.sl_spec_constructors.proofs.BlockLemmas.{inner_table, table_in_blocks}
use Rattle.sl_spec_constructors.proofs.whole_text.table_name.Goals as goal

abbrev seen : Around → Head
seen a = head_of a.head.now

pub heads-preserved : goal.heads-preserved
heads-preserved c =
    let heads = c.as_slice-heads.result.now in
    let below = c.heads-test.true in
    fold_goes inner_table (codes "instruction") (map seen heads) c.heads.table.now c.table_inside-table.result.now c.heads.index _ (below_map seen heads c.heads.index below)
    (read_map seen heads c.heads.index c.index-heads-index.result below) c.table_inside-table.ensures c.heads.invariant

pub returns-in-Some : goal.returns-in-Some
returns-in-Some c =
    let items = c.args.of.now.heads.items in
    let own = constructor_of c.args.of.now.own.now in
    let none = fold inner_table (codes "instruction") (map seen items) in
    ap (λ o. unwrap_or (option_map bytes o) none) (sym c.in-Some.is) ∙ sym (table_in_blocks (map seen items) own (codes "instruction"))

pub returns-in-None : goal.returns-in-None
returns-in-None c =
    let heads = c.as_slice-heads.result.now in
    let items = c.args.of.now.heads.items in
    let own = constructor_of c.args.of.now.own.now in
    let last = fold_ends inner_table (codes "instruction") (map seen heads) c.heads.table.now c.heads.index (past_map seen heads c.heads.index c.heads-test.false) c.heads.invariant in
    let all = last ∙ ap (λ (hs : List Around). fold inner_table (codes "instruction") (map seen hs)) c.as_slice-heads.ensures.value in
    all ∙ ap (λ o. unwrap_or (option_map bytes o) (fold inner_table (codes "instruction") (map seen items))) (sym c.in-None.is) ∙ sym (table_in_blocks (map seen items) own (codes "instruction"))
