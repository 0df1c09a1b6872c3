use Rattle.std.proofs.Common.{◌+◌, List, length, sym, ap, ◌∙◌, subst}
use Rattle.std.proofs.lemmas.List.{length_push}
use Rattle.std.specs.List.{AllByRecursion}
use Rattle.sl_shape_tokens.specs.Lists.{IsThere}
use Rattle.sl_shape_tokens.specs.declared.shapes.Shape as code
use Rattle.sl_spec.proofs.KeyedLemmas.{all_push}
use Rattle.sl_shape.proofs.shaping.no_shapes.Goals as goal

pub shapes-preserved : goal.shapes-preserved
shapes-preserved c = record {
  counted = ap (λ (l : List code.Shape). length l) c.in_ok-push.ensures.items ∙ length_push c.shapes.shapes.items c.of_nothing.result ∙ ap (λ n. n + 1) c.shapes.invariant.counted;
  there = λ lists. subst (λ (l : List code.Shape). AllByRecursion (IsThere lists) l) (sym c.in_ok-push.ensures.items)
      (all_push (IsThere lists) c.shapes.shapes.items c.of_nothing.result (c.shapes.invariant.there lists) (c.of_nothing.ensures.there lists));
}
