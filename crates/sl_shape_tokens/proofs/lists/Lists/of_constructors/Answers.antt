use Rattle.std.proofs.Common.{List, None, fold, get_or, map, ap, ◌∙◌}
use Rattle.std.proofs.lemmas.List.{take_all}
use Rattle.sl_shape_tokens.specs.Lists.{seen}
use Rattle.sl_shape_tokens.specs.Meets.{met, start}
use Rattle.sl_shape_tokens.specs.declared.shapes.Kind.TheVariants.{Fixed}
use Rattle.sl_shape_tokens.specs.declared.shapes.Shape.{Shape}
use Rattle.sl_shape_tokens.proofs.ListLemmas.{keeps_more}
use Rattle.sl_shape_tokens.proofs.ShapeLemmas.{met_more, table_is, within_same}
use Rattle.sl_shape_tokens.proofs.lists.Lists.of_constructors.Goals as goal

pub constructors-preserved : goal.constructors-preserved
constructors-preserved c =
    let old = c.args.self.now in
    let now = c.constructors.self in
    let i = c.constructors.constructor-index in
    let none : Shape = record { kind = Fixed; tokens = record { 0 = None } } in
    let next = within_same old now c.constructors.invariant.keeps (get_or c.args.rest.now i none) c.within.result c.len-limit.result c.len-limit.ensures c.within.ensures.kind c.within.ensures.tokens in
    record {
      keeps = keeps_more old now c.met.new.self c.constructors.invariant.keeps c.in_ok-shape.ensures.keeps;
      there = c.in_ok-shape.ensures.there;
      shape = c.in_ok-shape.ensures.shape ∙ (λ k. met (c.constructors.invariant.shape k) (next k))
          ∙ met_more (start (seen old c.args.first)) (seen old) c.args.rest.now i none c.constructors-test.true;
    }

pub returns-clause-shape : goal.returns-clause-shape
returns-clause-shape c =
    let old = c.args.self.now in
    c.constructors.invariant.shape
    ∙ ap (λ (l : List Shape). fold met (start (seen old c.args.first)) (map (seen old) l)) (take_all c.constructors.constructor-index c.args.rest.now c.constructors-test.false)
    ∙ table_is (seen old c.args.first) (map (seen old) c.args.rest.now)
