use Rattle.std.proofs.Common.{ap, sym, ◌∙◌, subst}
use Rattle.std.specs.Prelude.{option_copied}
use Rattle.sl_ast.specs.Trees.{Pattern}
use Rattle.sl_ast.specs.Views.{head_of, pattern_of}
use Rattle.sl_shape_patterns.proofs.HeadLemmas.{its_own, put_here}
use Rattle.sl_shape.specs.Below.{IsShaped, shapes_in}
use Rattle.sl_shape.specs.HeadsMade.{IsHeadShape}
use Rattle.sl_shape.specs.PatternShapes.{Shapes}
use Rattle.sl_shape.proofs.HeadLemmas.{lists_kept, shaped_now, shapes_more}
use Rattle.sl_shape_tokens.specs.declared.shapes.Shape as code
use Rattle.sl_spec.proofs.MadeLemmas.{found_right, put_right}
use Rattle.sl_shape.proofs.below.Below.shape_of_block.Goals as goal

pub returns-in-Some-clause-shape : goal.returns-in-Some-clause-shape
returns-in-Some-clause-shape c = λ shapes shows.
    let self = c.args.self.now in
    let lists = c.args.lists.now in
    let made = c.requires.made in
    let p = pattern_of c.args.pattern.now in
    let s = c.in-Some.shape.now in
    subst (λ (ss : Shapes). IsShaped self ss lists lists p s) shows.are
    (found_right (IsHeadShape self lists) made.0 c.args.block.now made.1.0 c.args.made.now s made.2 (sym c.get.ensures ∙ ap option_copied c.in-Some.is) p c.requires.its)

pub returns-clause-kept : goal.returns-clause-kept
returns-clause-kept c = λ head_at told right.
    let self = c.args.self.now in
    let old = c.args.lists.now in
    let new = c.pattern_shape.new.lists in
    let there = c.requires.there in
    let block = c.args.block.now in
    let p = pattern_of c.args.pattern.now in
    let s = c.in_ok-shape.shape in
    put_right (IsHeadShape self new) head_at block told.0 c.args.made.now c.put.new.self s c.in_ok-put.ensures
    (shapes_more self old new there (lists_kept self old new there p s c.in_ok-shape.ensures.shape) head_at c.args.made.now right)
    (its_own (λ (q : Pattern) (t : code.Shape). IsShaped self (shapes_in self new) new new q t) (head_of block.head.now) p s c.requires.its
    (shaped_now self old new there p s c.in_ok-shape.ensures.shape))

pub returns-clause-others : goal.returns-clause-others
returns-clause-others c = put_here c.args.block.now c.args.made.now c.put.new.self c.in_ok-shape.shape c.in_ok-put.ensures
