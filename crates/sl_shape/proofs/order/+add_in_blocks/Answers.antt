use Rattle.std.proofs.Common.{◌≡◌, ℕ, List, ◌++◌, option_map, arith, sym, ap, ◌∙◌, subst}
use Rattle.std.proofs.lemmas.Result.{IfOk-weaker}
use Rattle.std.specs.Prelude.{OnOk}
use Rattle.sl_ast.specs.Views.{constructor_of, head_of, pattern_of}
use Rattle.sl_shape_patterns.proofs.HeadLemmas.{kept_rest, made_rest, rest_shorter}
use Rattle.sl_shape_patterns.proofs.ViewLemmas.{in_one_more}
use Rattle.sl_shape.specs.HeadsMade.{AreHeadTables}
use Rattle.sl_shape.specs.Tables.{tables_named}
use Rattle.sl_shape.proofs.HeadLemmas.{first_made, first_then, then_rest}
use Rattle.sl_shape.proofs.NamedLemmas.{adds_both, names_in_block}
use Rattle.sl_spec.specs.Unfolded.{heads_of, under}
use Rattle.sl_shape.proofs.order.+add_in_blocks.Goals as goal

pub returns-clause-added : goal.returns-clause-added
returns-clause-added t c =
    let d = c.args.t.now in
    let own = constructor_of c.args.own.now in
    let inner = heads_of c.in-Some.rest.now in
    let p = pattern_of c.in-Some-pattern.pattern in
    let q = (under inner own).pattern in
    let is = ap (tables_named d) (in_one_more (heads_of c.args.heads.now) inner (head_of c.in-Some.first.now.head.now) own p
    (ap heads_of c.in-Some.ensures.cases.0) (ap (option_map pattern_of) c.in-Some-pattern.is)) ∙ names_in_block d p q in
    subst (λ (ns : List ℕ). OnOk c.add_in_blocks-2.result (c.add_in_blocks-2.new.all.items ≡ c.args.all.now.items ++ ns)) (sym is)
    (adds_both c.add_in_blocks-2.result c.args.all.now.items c.add_of_block.new.all.items c.add_in_blocks-2.new.all.items
    (tables_named d p) (tables_named d q) c.in_ok-add_of_block.ensures.added c.add_in_blocks-2.ensures.added)

pub add_in_blocks-requires : goal.add_in_blocks-requires
add_in_blocks-requires t c =
    let blocks = c.args.heads.now in
    let rest = c.in-Some.rest.now in
    let first = c.in-Some.first.now in
    let shorter = rest_shorter blocks rest first c.in-Some.ensures.cases.0 in
    (omega arith, made_rest (AreHeadTables c.args.t.now) blocks rest first c.in-Some.ensures.cases.0 c.args.made.now c.requires)

pub returns-in_default-pattern-clause-kept : goal.returns-in_default-pattern-clause-kept
returns-in_default-pattern-clause-kept t c = IfOk-weaker c.add_in_blocks.result _ _
    (λ n kept. kept_rest (AreHeadTables c.args.t.now) c.args.heads.now c.in-Some.rest.now c.in-Some.first.now c.in-Some.ensures.cases.0 c.args.made.now c.add_in_blocks.new.made kept)
    c.add_in_blocks.ensures.kept

pub add_of_block-requires-clause-made : goal.add_of_block-requires-clause-made
add_of_block-requires-clause-made t c =
    first_made (AreHeadTables c.args.t.now) c.args.heads.now c.in-Some.rest.now c.in-Some.first.now c.in-Some.ensures.cases.0 c.args.made.now c.requires

pub add_in_blocks-requires-2 : goal.add_in_blocks-requires-2
add_in_blocks-requires-2 t c =
    let blocks = c.args.heads.now in
    let rest = c.in-Some.rest.now in
    let first = c.in-Some.first.now in
    let shorter = rest_shorter blocks rest first c.in-Some.ensures.cases.0 in
    (omega arith, then_rest (AreHeadTables c.args.t.now) blocks rest first c.in-Some.ensures.cases.0 c.args.made.now c.add_of_block.new.made c.requires c.in_ok-add_of_block.ensures.kept)

pub returns-clause-kept : goal.returns-clause-kept
returns-clause-kept t c = IfOk-weaker c.add_in_blocks-2.result _ _
    (λ n kept. first_then (AreHeadTables c.args.t.now) c.args.heads.now c.in-Some.rest.now c.in-Some.first.now c.in-Some.ensures.cases.0 c.args.made.now c.add_of_block.new.made c.add_in_blocks-2.new.made
    c.in_ok-add_of_block.ensures.kept kept) c.add_in_blocks-2.ensures.kept
