use Rattle.std.proofs.Common.{refl, sym, ◌∙◌}
use Rattle.sl_decode_meaning.specs.Places.{bare_place}
use Rattle.sl_decode_leaves.specs.Extents.{extent}
use Rattle.sl_decode_leaves.proofs.LeafLemmas.{bare_append, here_row, not_here, nowhere}
use Rattle.sl_decode_leaves.proofs.joined.alone_in.Goals as goal

pub returns-in-Some : goal.returns-in-Some
returns-in-Some c = λ lengths.
    let n = c.args.name.now in
    here_row (bare_place n) (bare_append n) c.args.patterns.now c.patterns.index lengths c.index-patterns-index.result c.deref.result.now c.patterns-test.true c.index-patterns-index.is
    c.deref.ensures (extent c.in-Some.place.now lengths) (c.in-Some.ensures lengths) ∙ c.patterns.invariant lengths

pub patterns-preserved : goal.patterns-preserved
patterns-preserved c = λ lengths.
    let n = c.args.name.now in
    not_here (bare_place n) (bare_append n) c.args.patterns.now c.patterns.index lengths c.index-patterns-index.result c.deref.result.now c.patterns-test.true c.index-patterns-index.is
    c.deref.ensures (c.in_default.ensures lengths) ∙ c.patterns.invariant lengths

pub returns : goal.returns
returns c = λ lengths.
    let n = c.args.name.now in
    sym (nowhere (bare_place n) (bare_append n) c.args.patterns.now c.patterns.index lengths refl c.patterns-test.false) ∙ c.patterns.invariant lengths
