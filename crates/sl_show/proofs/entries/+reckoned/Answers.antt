use Rattle.std.proofs.Common.{◌+◌, ap, ◌∙◌, sym, min, max}
use Rattle.sl_decode_leaves.specs.Extents.{extent}
use Rattle.sl_decode_leaves.specs.declared.extents.Extent.{Extent}
use Rattle.sl_show.specs.Texts.{lengths_of}
use Rattle.sl_show.proofs.PartLemmas.{capped_max, capped_sum}
use Rattle.sl_show.proofs.entries.+reckoned.Goals as goal

pub returns-in-Sum : goal.returns-in-Sum
returns-in-Sum t c values f e =
    let lengths = lengths_of f in
    capped_sum 18446744073709551615 (extent c.deref.result.now lengths) (extent c.deref-in-Sum.result.now lengths) _ _ _
    (c.reckoned.ensures values f e) (c.reckoned-in-Sum.ensures values f e) c.saturating_add.ensures
    ∙ ap (λ (x : Extent). min (extent x lengths + extent c.deref-in-Sum.result.now lengths) 18446744073709551615) c.deref.ensures
    ∙ ap (λ (x : Extent). min (extent c.in-Sum.a.value lengths + extent x lengths) 18446744073709551615) c.deref-in-Sum.ensures
    ∙ ap (λ (x : Extent). min (extent x lengths) 18446744073709551615) (sym c.in-Sum.is)

pub returns-in-Greater : goal.returns-in-Greater
returns-in-Greater t c values f e =
    let lengths = lengths_of f in
    capped_max 18446744073709551615 (extent c.deref-in-Greater.result.now lengths) (extent c.deref-in-Greater-2.result.now lengths) _ _ _
    (c.reckoned-in-Greater.ensures values f e) (c.reckoned-in-Greater-2.ensures values f e) c.max.ensures
    ∙ ap (λ (x : Extent). min (max (extent x lengths) (extent c.deref-in-Greater-2.result.now lengths)) 18446744073709551615) c.deref-in-Greater.ensures
    ∙ ap (λ (x : Extent). min (max (extent c.in-Greater.a.value lengths) (extent x lengths)) 18446744073709551615) c.deref-in-Greater-2.ensures
    ∙ ap (λ (x : Extent). min (extent x lengths) 18446744073709551615) (sym c.in-Greater.is)
