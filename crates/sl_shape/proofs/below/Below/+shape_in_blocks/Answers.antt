use Rattle.std.proofs.Common.{option_map, arith, refl, sym, ap, subst}
use Rattle.std.proofs.lemmas.Result.{err_from_is_err_and}
use Rattle.sl_ast.specs.Trees.{Pattern, group}
use Rattle.sl_ast.specs.Views.{constructor_of, head_of, pattern_of}
use Rattle.sl_ast.specs.declared.patterns.PatternOp.TheVariants.{And}
use Rattle.sl_shape_patterns.proofs.HeadLemmas.{made_rest, rest_shorter}
use Rattle.sl_shape_patterns.proofs.ViewLemmas.{in_none, in_one_more}
use Rattle.sl_shape.specs.Below.{shapes_in}
use Rattle.sl_shape.specs.Faults.{ShapeTells}
use Rattle.sl_shape.specs.HeadsMade.{IsHeadShape}
use Rattle.sl_shape.specs.Stops.{Stops}
use Rattle.sl_shape.proofs.BelowLemmas.{shaped_group, told_group, told_left, told_right}
use Rattle.sl_shape.proofs.HeadLemmas.{both_kept, first_made, other_both, other_rest, own_kept, rest_kept, rest_made, shown}
use Rattle.sl_shape.proofs.JoinLemmas.{for_right, for_right_stops, in_open, joined_goes, joined_stops, same_goes}
use Rattle.sl_spec.specs.Unfolded.{heads_of, under}
use Rattle.sl_shape.proofs.below.Below.+shape_in_blocks.Goals as goal

pub returns-in_default-clause-shape : goal.returns-in_default-clause-shape
returns-in_default-clause-shape t c =
    let own = constructor_of c.args.own.now in
    same_goes c.args.self.now c.args.lists.now c.pattern_shape.new.lists own.pattern (under (heads_of c.args.heads.now) own).pattern
    (in_none c.args.heads.now own c.in_default.ensures.cases) c.pattern_shape.result c.pattern_shape.ensures.shape

pub returns-in_default-pattern-clause-shape : goal.returns-in_default-pattern-clause-shape
returns-in_default-pattern-clause-shape t c =
    let own = constructor_of c.args.own.now in
    let inner = heads_of c.in-Some.rest.now in
    same_goes c.args.self.now c.args.lists.now c.shape_in_blocks.new.lists (under inner own).pattern (under (heads_of c.args.heads.now) own).pattern
    (in_open (heads_of c.args.heads.now) inner (head_of c.in-Some.first.now.head.now) own (ap heads_of c.in-Some.ensures.cases.0) (ap (option_map pattern_of) c.in_default-pattern.is))
    c.shape_in_blocks.result c.shape_in_blocks.ensures.shape

pub returns-in_err-around-clause-fault : goal.returns-in_err-around-clause-fault
returns-in_err-around-clause-fault t c =
    let e = err_from_is_err_and c.from_residual.result c.from_residual.ensures.1 in
    let self = c.args.self.now in
    let own = constructor_of c.args.own.now in
    let inner = heads_of c.in-Some.rest.now in
    let p = pattern_of c.in-Some-pattern.pattern in
    let q = (under inner own).pattern in
    let is = in_one_more (heads_of c.args.heads.now) inner (head_of c.in-Some.first.now.head.now) own p (ap heads_of c.in-Some.ensures.cases.0) (ap (option_map pattern_of) c.in-Some-pattern.is) in
    let stop = c.in_err-around.field-0.0 in
    rw (e.1, e.2) (λ shapes shows.
    subst (λ (x : Pattern). Stops (ShapeTells self.tables.now shapes self.hulls.now x) stop) (sym is)
    (told_left self shapes And (group p) (group q) stop (told_group self shapes p stop (c.in_err-around.ensures.fault shapes shows))))

pub returns-in_err-inside-clause-fault : goal.returns-in_err-inside-clause-fault
returns-in_err-inside-clause-fault t c =
    let e = err_from_is_err_and c.from_residual-in_err-inside.result c.from_residual-in_err-inside.ensures.1 in
    let self = c.args.self.now in
    let own = constructor_of c.args.own.now in
    let inner = heads_of c.in-Some.rest.now in
    let p = pattern_of c.in-Some-pattern.pattern in
    let q = (under inner own).pattern in
    let is = in_one_more (heads_of c.args.heads.now) inner (head_of c.in-Some.first.now.head.now) own p (ap heads_of c.in-Some.ensures.cases.0) (ap (option_map pattern_of) c.in-Some-pattern.is) in
    let stop = c.in_err-inside.field-0.0 in
    let mid = c.shape_of_block.new.lists in
    rw (e.1, e.2) (λ shapes shows.
    let i = shaped_group self shapes c.args.lists.now mid c.in_ok-around.around p (c.in_ok-around.ensures.shape shapes shows) in
    subst (λ (x : Pattern). Stops (ShapeTells self.tables.now shapes self.hulls.now x) stop) (sym is)
    (told_right self shapes And (group p) (group q) stop i.sound (told_group self shapes q stop (c.in_err-inside.ensures.fault shapes i.gets.shows))))

pub returns-clause-shape : goal.returns-clause-shape
returns-clause-shape t c =
    let self = c.args.self.now in
    let own = constructor_of c.args.own.now in
    let inner = heads_of c.in-Some.rest.now in
    let p = pattern_of c.in-Some-pattern.pattern in
    let q = (under inner own).pattern in
    let is = in_one_more (heads_of c.args.heads.now) inner (head_of c.in-Some.first.now.head.now) own p (ap heads_of c.in-Some.ensures.cases.0) (ap (option_map pattern_of) c.in-Some-pattern.is) in
    let mid = c.shape_of_block.new.lists in
    let late = c.shape_in_blocks-2.new.lists in
    let first = c.in_ok-around.around in
    let second = c.in_ok-inside.inside in
    joined_goes self c.args.lists.now mid late c.both_shape.new.lists And (group p) (group q) (group q) (under (heads_of c.args.heads.now) own).pattern refl is first second
    (λ shapes shows. shaped_group self shapes c.args.lists.now mid first p (c.in_ok-around.ensures.shape shapes shows))
    (λ shapes shows. shaped_group self shapes mid late second q (c.in_ok-inside.ensures.shape shapes shows))
    c.both_shape.result (for_right self late c.both_shape.new.lists first second And And refl (group q) c.both_shape.result c.both_shape.ensures.shape)

pub returns-clause-fault : goal.returns-clause-fault
returns-clause-fault t c =
    let self = c.args.self.now in
    let own = constructor_of c.args.own.now in
    let inner = heads_of c.in-Some.rest.now in
    let p = pattern_of c.in-Some-pattern.pattern in
    let q = (under inner own).pattern in
    let is = in_one_more (heads_of c.args.heads.now) inner (head_of c.in-Some.first.now.head.now) own p (ap heads_of c.in-Some.ensures.cases.0) (ap (option_map pattern_of) c.in-Some-pattern.is) in
    let mid = c.shape_of_block.new.lists in
    let late = c.shape_in_blocks-2.new.lists in
    let first = c.in_ok-around.around in
    let second = c.in_ok-inside.inside in
    joined_stops self c.args.lists.now mid late c.both_shape.new.lists And (group p) (group q) (group q) (under (heads_of c.args.heads.now) own).pattern refl is first second
    (λ shapes shows. shaped_group self shapes c.args.lists.now mid first p (c.in_ok-around.ensures.shape shapes shows))
    (λ shapes shows. shaped_group self shapes mid late second q (c.in_ok-inside.ensures.shape shapes shows))
    c.both_shape.result (for_right_stops self late first second And (group q) c.both_shape.result c.both_shape.ensures.fault)

pub returns-in_default-clause-kept : goal.returns-in_default-clause-kept
returns-in_default-clause-kept t c =
    own_kept c.args.self.now c.args.lists.now c.pattern_shape.new.lists c.requires.there (constructor_of c.args.own.now).pattern c.args.heads.now c.args.made.now
    c.pattern_shape.result c.pattern_shape.ensures.shape

pub shape_in_blocks-requires : goal.shape_in_blocks-requires
shape_in_blocks-requires t c =
    let blocks = c.args.heads.now in
    let rest = c.in-Some.rest.now in
    let first = c.in-Some.first.now in
    let shorter = rest_shorter blocks rest first c.in-Some.ensures.cases.0 in (
      omega arith,
      (c.requires.sized, (c.requires.there, made_rest (IsHeadShape c.args.self.now c.args.lists.now) blocks rest first c.in-Some.ensures.cases.0 c.args.made.now c.requires.made)),
    )

pub returns-in_default-pattern-clause-kept : goal.returns-in_default-pattern-clause-kept
returns-in_default-pattern-clause-kept t c =
    rest_kept c.args.self.now c.args.heads.now c.in-Some.rest.now c.in-Some.first.now c.in-Some.ensures.cases.0 c.args.lists.now c.shape_in_blocks.new.lists
    c.args.made.now c.shape_in_blocks.new.made c.shape_in_blocks.result c.shape_in_blocks.ensures.kept

pub shape_of_block-requires-clause-made : goal.shape_of_block-requires-clause-made
shape_of_block-requires-clause-made t c =
    first_made (IsHeadShape c.args.self.now c.args.lists.now) c.args.heads.now c.in-Some.rest.now c.in-Some.first.now c.in-Some.ensures.cases.0 c.args.made.now c.requires.made

pub shape_in_blocks-requires-2 : goal.shape_in_blocks-requires-2
shape_in_blocks-requires-2 t c =
    let self = c.args.self.now in
    let old = c.args.lists.now in
    let blocks = c.args.heads.now in
    let rest = c.in-Some.rest.now in
    let first = c.in-Some.first.now in
    let i = c.in_ok-around.ensures.shape (shapes_in self old) (shown self old c.requires.there) in
    let made = rest_made self blocks rest first c.in-Some.ensures.cases.0 old c.shape_of_block.new.lists c.args.made.now c.shape_of_block.new.made c.requires.made c.in_ok-around.ensures.kept in
    let shorter = rest_shorter blocks rest first c.in-Some.ensures.cases.0 in (
      omega arith,
      (c.in_ok-around.ensures.sized, (i.gets.shows.there, made)),
    )

pub returns-clause-kept : goal.returns-clause-kept
returns-clause-kept t c =
    let self = c.args.self.now in
    let old = c.args.lists.now in
    let i = c.in_ok-around.ensures.shape (shapes_in self old) (shown self old c.requires.there) in
    let j = c.in_ok-inside.ensures.shape (shapes_in self old) i.gets.shows in
    both_kept self c.args.heads.now c.in-Some.rest.now c.in-Some.first.now c.in-Some.ensures.cases.0 old c.shape_of_block.new.lists c.shape_in_blocks-2.new.lists c.both_shape.new.lists
    c.args.made.now c.shape_of_block.new.made c.shape_in_blocks-2.new.made c.in_ok-around.ensures.kept c.in_ok-inside.ensures.kept j.gets.shows.there c.both_shape.ensures.lists c.both_shape.result

pub returns-in_default-pattern-clause-others : goal.returns-in_default-pattern-clause-others
returns-in_default-pattern-clause-others t c =
    other_rest c.args.heads.now c.in-Some.rest.now c.in-Some.first.now c.in-Some.ensures.cases.0 c.args.made.now c.shape_in_blocks.new.made c.shape_in_blocks.result
    c.shape_in_blocks.ensures.others

pub returns-clause-others : goal.returns-clause-others
returns-clause-others t c =
    other_both c.args.heads.now c.in-Some.rest.now c.in-Some.first.now c.in-Some.ensures.cases.0 c.args.made.now c.shape_of_block.new.made c.shape_in_blocks-2.new.made
    c.in_ok-around.ensures.others c.in_ok-inside.ensures.others c.both_shape.result
