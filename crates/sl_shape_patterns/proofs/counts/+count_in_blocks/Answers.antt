use Rattle.std.proofs.Common.{option_map, arith, sym, ap, subst}
use Rattle.sl_ast.specs.Trees.{Pattern}
use Rattle.sl_ast.specs.Views.{pattern_of, head_of, constructor_of}
use Rattle.sl_spec.specs.Unfolded.{heads_of, under}
use Rattle.sl_shape_patterns.specs.Counts.{HasPatternCount, IsTold}
use Rattle.sl_shape_patterns.specs.Heads.{IsHeadCount}
use Rattle.sl_shape_patterns.proofs.HeadLemmas.{kept_both, kept_rest, made_first, made_rest, rest_shorter}
use Rattle.sl_shape_patterns.proofs.ViewLemmas.{in_one_more}
use Rattle.sl_shape_patterns.proofs.CountLemmas.{count_in_block}
use Rattle.sl_shape_patterns.proofs.counts.+count_in_blocks.Goals as goal

pub returns-clause-count : goal.returns-clause-count
returns-clause-count t c =
    let own = constructor_of c.args.own.now in
    let around = pattern_of c.in-Some-pattern.pattern in
    let inner = heads_of c.in-Some.rest.now in
    subst (λ (x : Pattern). IsTold (HasPatternCount c.args.t.now x) c.joined_count.result)
    (sym (in_one_more (heads_of c.args.heads.now) inner (head_of c.in-Some.first.now.head.now) own around
    (ap heads_of c.in-Some.ensures.cases.0) (ap (option_map pattern_of) c.in-Some-pattern.is)))
    (count_in_block c.args.t.now around (under inner own).pattern c.in_ok-around.around c.in_ok-inside.inside c.joined_count.result
    c.in_ok-around.ensures.count c.in_ok-inside.ensures.count c.joined_count.ensures)

pub count_in_blocks-requires : goal.count_in_blocks-requires
count_in_blocks-requires t c =
    let blocks = c.args.heads.now in
    let rest = c.in-Some.rest.now in
    let shorter = rest_shorter blocks rest c.in-Some.first.now c.in-Some.ensures.cases.0 in (
      omega arith,
      made_rest (IsHeadCount c.args.t.now) blocks rest c.in-Some.first.now c.in-Some.ensures.cases.0 c.args.counts.now c.requires,
    )

pub count_of_block-requires-clause-made : goal.count_of_block-requires-clause-made
count_of_block-requires-clause-made t c =
    made_first (IsHeadCount c.args.t.now) c.args.heads.now c.in-Some.rest.now c.in-Some.first.now c.in-Some.ensures.cases.0 c.args.counts.now c.count_in_blocks.new.counts c.requires c.in_ok-inside.ensures.kept

pub returns-in_default-pattern-clause-kept : goal.returns-in_default-pattern-clause-kept
returns-in_default-pattern-clause-kept t c =
    kept_rest (IsHeadCount c.args.t.now) c.args.heads.now c.in-Some.rest.now c.in-Some.first.now c.in-Some.ensures.cases.0 c.args.counts.now c.count_in_blocks.new.counts c.in_ok-inside.ensures.kept

pub returns-clause-kept : goal.returns-clause-kept
returns-clause-kept t c =
    kept_both (IsHeadCount c.args.t.now) c.args.heads.now c.in-Some.rest.now c.in-Some.first.now c.in-Some.ensures.cases.0 c.args.counts.now c.count_in_blocks.new.counts c.count_of_block.new.counts c.in_ok-inside.ensures.kept c.in_ok-around.ensures.kept
