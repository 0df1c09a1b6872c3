use Rattle.std.proofs.Common.{arith, List, [], refl, sym, ◌∙◌, subst}
use Rattle.std.specs.List.{AllByRecursion}
use Rattle.sl_shape.specs.declared.below.TokenLists.{TokenLists}
use Rattle.sl_shape_tokens.specs.Lists.{IsThere}
use Rattle.sl_shape_tokens.specs.declared.shapes.Shape as code
use Rattle.sl_shape.proofs.shaping.nothing_known.Goals as goal

pub returns-clause-right : goal.returns-clause-right
returns-clause-right c = record {
  sizes = c.new-2.ensures.sizes ∙ c.in_ok-sizes.ensures;
  old = [];
  knows = c.new-2.ensures.knows;
  keeps = record { more = c.new.result; is = refl };
  there = c.in_ok-shapes.ensures.there c.new.result;
  sets = c.in_ok-sets.ensures;
  shapes = c.in_ok-shapes.ensures.counted ∙ c.len.ensures;
  hulls = omega (arith, c.in_ok-hulls.ensures.len, c.in_ok-hulls.hulls.ok.0, c.len-2.ensures);
}

pub returns-clause-kept : goal.returns-clause-kept
returns-clause-kept c = λ us numbered b below.
    let lists : TokenLists = record { all = c.new.result; bytes = c.new-2.result } in
    let there = subst (λ (shapes : List code.Shape). AllByRecursion (IsThere c.new.result) shapes) (sym below.shapes) (c.in_ok-shapes.ensures.there c.new.result) in
    (numbered.0, numbered.1, c.in_ok-made.ensures b lists numbered.0 there)
