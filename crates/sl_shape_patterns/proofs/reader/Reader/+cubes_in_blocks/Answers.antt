use Rattle.std.proofs.Common.{option_map, arith, sym, ap, subst}
use Rattle.sl_ast.specs.Trees.{Pattern}
use Rattle.sl_ast.specs.Views.{pattern_of, head_of, constructor_of}
use Rattle.sl_shape_constraints.specs.Sets.{IsUnionOf}
use Rattle.sl_spec.specs.Unfolded.{heads_of, under}
use Rattle.sl_shape_patterns.specs.Counts.{FitCount}
use Rattle.sl_shape_patterns.specs.Heads.{AreHeadCubes}
use Rattle.sl_shape_patterns.specs.Patterns.{PatternHolds}
use Rattle.sl_shape_patterns.specs.Views.{reading_of}
use Rattle.sl_shape_patterns.proofs.CountLemmas.{few_in_block}
use Rattle.sl_shape_patterns.proofs.HeadLemmas.{kept_both, kept_rest, made_first, made_rest, others_both, others_first, others_rest, rest_shorter}
use Rattle.sl_shape_patterns.proofs.ViewLemmas.{in_one_more}
use Rattle.sl_shape_patterns.proofs.UnionLemmas.{union_in_block}
use Rattle.sl_shape_patterns.proofs.reader.Reader.+cubes_in_blocks.Goals as goal

pub returns-clause-cubes : goal.returns-clause-cubes
returns-clause-cubes g t c =
    let r = reading_of g.L.Lengths.bytes c.args.self.now in
    let own = constructor_of c.args.own.now in
    let around = pattern_of c.in-Some-pattern.pattern in
    let inner = heads_of c.in-Some.rest.now in
    let cubes = c.in_ok-cubes-2.cubes.items in
    subst (λ (x : Pattern). IsUnionOf (PatternHolds r x 0) cubes)
    (sym (in_one_more (heads_of c.args.heads.now) inner (head_of c.in-Some.first.now.head.now) own around
    (ap heads_of c.in-Some.ensures.cases.0) (ap (option_map pattern_of) c.in-Some-pattern.is)))
    (union_in_block r around (under inner own).pattern cubes c.in_ok-around.around.items c.in_ok-inside.inside.items
    c.in_ok-around.ensures.cubes c.in_ok-inside.ensures.cubes (rw (c.deref.ensures.value, c.deref-2.ensures.value) at c.in_ok-cubes-2.ensures.points))

pub returns-clause-few : goal.returns-clause-few
returns-clause-few g t c =
    let tables = c.args.self.now.tables.now in
    let own = constructor_of c.args.own.now in
    let around = pattern_of c.in-Some-pattern.pattern in
    let inner = heads_of c.in-Some.rest.now in
    let cubes = c.in_ok-cubes-2.cubes.items in
    subst (λ (x : Pattern). FitCount tables x cubes)
    (sym (in_one_more (heads_of c.args.heads.now) inner (head_of c.in-Some.first.now.head.now) own around
    (ap heads_of c.in-Some.ensures.cases.0) (ap (option_map pattern_of) c.in-Some-pattern.is)))
    (few_in_block tables around (under inner own).pattern cubes c.in_ok-around.around.items c.in_ok-inside.inside.items
    c.in_ok-around.ensures.few c.in_ok-inside.ensures.few (rw (c.deref.ensures.value, c.deref-2.ensures.value) at c.in_ok-cubes-2.ensures.few))

pub cubes_in_blocks-requires : goal.cubes_in_blocks-requires
cubes_in_blocks-requires g t c = λ lifetimes live.
    let blocks = c.args.heads.now in
    let rest = c.in-Some.rest.now in
    let shorter = rest_shorter blocks rest c.in-Some.first.now c.in-Some.ensures.cases.0 in (
      omega arith,
      (live, made_rest (AreHeadCubes (reading_of g.L.Lengths.bytes c.args.self.now)) blocks rest c.in-Some.first.now c.in-Some.ensures.cases.0 c.args.sets.now c.requires),
    )

pub cubes_of_block-requires-clause-made : goal.cubes_of_block-requires-clause-made
cubes_of_block-requires-clause-made g t c =
    made_first (AreHeadCubes (reading_of g.L.Lengths.bytes c.args.self.now)) c.args.heads.now c.in-Some.rest.now c.in-Some.first.now c.in-Some.ensures.cases.0 c.args.sets.now c.cubes_in_blocks.new.sets c.requires c.in_ok-inside.ensures.kept

pub returns-in_default-pattern-clause-kept : goal.returns-in_default-pattern-clause-kept
returns-in_default-pattern-clause-kept g t c =
    kept_rest (AreHeadCubes (reading_of g.L.Lengths.bytes c.args.self.now)) c.args.heads.now c.in-Some.rest.now c.in-Some.first.now c.in-Some.ensures.cases.0 c.args.sets.now c.cubes_in_blocks.new.sets c.in_ok-inside.ensures.kept

pub returns-clause-kept : goal.returns-clause-kept
returns-clause-kept g t c =
    kept_both (AreHeadCubes (reading_of g.L.Lengths.bytes c.args.self.now)) c.args.heads.now c.in-Some.rest.now c.in-Some.first.now c.in-Some.ensures.cases.0 c.args.sets.now c.cubes_in_blocks.new.sets c.cubes_of_block.new.sets c.in_ok-inside.ensures.kept c.in_ok-around.ensures.kept

pub returns-in_default-pattern-clause-others : goal.returns-in_default-pattern-clause-others
returns-in_default-pattern-clause-others g t c =
    others_rest c.args.heads.now c.in-Some.rest.now c.in-Some.first.now c.in-Some.ensures.cases.0 c.args.sets.now c.cubes_in_blocks.new.sets c.in_ok-inside.ensures.others

pub returns-clause-others : goal.returns-clause-others
returns-clause-others g t c =
    let blocks = c.args.heads.now in
    let rest = c.in-Some.rest.now in
    let first = c.in-Some.first.now in
    let are = c.in-Some.ensures.cases.0 in
    others_both blocks c.args.sets.now c.cubes_in_blocks.new.sets c.cubes_of_block.new.sets
    (others_rest blocks rest first are c.args.sets.now c.cubes_in_blocks.new.sets c.in_ok-inside.ensures.others)
    (others_first blocks rest first are c.cubes_in_blocks.new.sets c.cubes_of_block.new.sets c.in_ok-around.ensures.others)
