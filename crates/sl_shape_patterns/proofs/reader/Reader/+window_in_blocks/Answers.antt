use Rattle.std.proofs.Common.{option_map, arith, refl, sym, ap, subst}
use Rattle.sl_ast.specs.Trees.{Pattern}
use Rattle.sl_ast.specs.Views.{pattern_of, head_of, constructor_of}
use Rattle.sl_spec.specs.Unfolded.{heads_of, under}
use Rattle.sl_shape_patterns.specs.Heads.{IsHeadWindow}
use Rattle.sl_shape_patterns.specs.Views.{reading_of}
use Rattle.sl_shape_patterns.specs.Windows.{IsWindow, PatternConstrains}
use Rattle.sl_shape_patterns.proofs.HeadLemmas.{kept_both, kept_rest, made_first, made_rest, others_both, others_first, others_rest, rest_shorter}
use Rattle.sl_shape_patterns.proofs.ViewLemmas.{in_none, in_one_more}
use Rattle.sl_shape_patterns.proofs.WindowLemmas.{window_in_block}
use Rattle.sl_shape_patterns.proofs.reader.Reader.+window_in_blocks.Goals as goal

pub returns-in_default-clause-window : goal.returns-in_default-clause-window
returns-in_default-clause-window g t c =
    let r = reading_of g.L.Lengths.bytes c.args.self.now in
    subst (λ (x : Pattern). IsWindow (PatternConstrains r x 0) c.in_ok-window.window)
    (sym (in_none c.args.heads.now (constructor_of c.args.own.now) c.in_default.ensures.cases))
    (c.in_ok-window.ensures 0 refl)

pub returns-clause-window : goal.returns-clause-window
returns-clause-window g t c =
    let r = reading_of g.L.Lengths.bytes c.args.self.now in
    let own = constructor_of c.args.own.now in
    let around = pattern_of c.in-Some-pattern.pattern in
    let inner = heads_of c.in-Some.rest.now in
    subst (λ (x : Pattern). IsWindow (PatternConstrains r x 0) c.max.result)
    (sym (in_one_more (heads_of c.args.heads.now) inner (head_of c.in-Some.first.now.head.now) own around
    (ap heads_of c.in-Some.ensures.cases.0) (ap (option_map pattern_of) c.in-Some-pattern.is)))
    (window_in_block r around (under inner own).pattern c.in_ok-around.around c.in_ok-inside.inside c.max.result
    c.in_ok-around.ensures.window c.in_ok-inside.ensures.window c.max.ensures)

pub window_in_blocks-requires : goal.window_in_blocks-requires
window_in_blocks-requires g t c = λ lifetimes live.
    let blocks = c.args.heads.now in
    let rest = c.in-Some.rest.now in
    let shorter = rest_shorter blocks rest c.in-Some.first.now c.in-Some.ensures.cases.0 in (
      omega arith,
      (live, made_rest (IsHeadWindow (reading_of g.L.Lengths.bytes c.args.self.now)) blocks rest c.in-Some.first.now c.in-Some.ensures.cases.0 c.args.windows.now c.requires),
    )

pub window_of_block-requires-clause-made : goal.window_of_block-requires-clause-made
window_of_block-requires-clause-made g t c =
    made_first (IsHeadWindow (reading_of g.L.Lengths.bytes c.args.self.now)) c.args.heads.now c.in-Some.rest.now c.in-Some.first.now c.in-Some.ensures.cases.0 c.args.windows.now c.window_in_blocks.new.windows c.requires c.in_ok-inside.ensures.kept

pub returns-in_default-pattern-clause-kept : goal.returns-in_default-pattern-clause-kept
returns-in_default-pattern-clause-kept g t c =
    kept_rest (IsHeadWindow (reading_of g.L.Lengths.bytes c.args.self.now)) c.args.heads.now c.in-Some.rest.now c.in-Some.first.now c.in-Some.ensures.cases.0 c.args.windows.now c.window_in_blocks.new.windows c.in_ok-inside.ensures.kept

pub returns-clause-kept : goal.returns-clause-kept
returns-clause-kept g t c =
    kept_both (IsHeadWindow (reading_of g.L.Lengths.bytes c.args.self.now)) c.args.heads.now c.in-Some.rest.now c.in-Some.first.now c.in-Some.ensures.cases.0 c.args.windows.now c.window_in_blocks.new.windows c.window_of_block.new.windows c.in_ok-inside.ensures.kept c.in_ok-around.ensures.kept

pub returns-in_default-pattern-clause-others : goal.returns-in_default-pattern-clause-others
returns-in_default-pattern-clause-others g t c =
    others_rest c.args.heads.now c.in-Some.rest.now c.in-Some.first.now c.in-Some.ensures.cases.0 c.args.windows.now c.window_in_blocks.new.windows c.in_ok-inside.ensures.others

pub returns-clause-others : goal.returns-clause-others
returns-clause-others g t c =
    let blocks = c.args.heads.now in
    let rest = c.in-Some.rest.now in
    let first = c.in-Some.first.now in
    let are = c.in-Some.ensures.cases.0 in
    others_both blocks c.args.windows.now c.window_in_blocks.new.windows c.window_of_block.new.windows
    (others_rest blocks rest first are c.args.windows.now c.window_in_blocks.new.windows c.in_ok-inside.ensures.others)
    (others_first blocks rest first are c.window_in_blocks.new.windows c.window_of_block.new.windows c.in_ok-around.ensures.others)
