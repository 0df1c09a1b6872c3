use Rattle.std.proofs.Common.{◌<◌, ◌≤◌, length, arith, sym, ◌∙◌, refl, below_more}
use Rattle.std.proofs.lemmas.Bool.{false≢true}
use Rattle.std.proofs.lemmas.List.Elements.{at_read}
use Rattle.sl_choose.specs.declared.Entry.{Entry}
use Rattle.sl_choose.specs.Sides.{SetsNone}
use Rattle.sl_choose.proofs.SideLemmas.{none_set}
use Rattle.sl_choose.proofs.sides.some_set.Goals as goal

pub returns-then-not-sets_none : goal.returns-then-not-sets_none
returns-then-not-sets_none c =
    let below : c.loop-entry.entry-index < length c.args.entries.now = omega arith in (
      λ t. (c.entry-item.result, (c.loop-entry.entry-index, below, sym c.entry-item.is), λ none. false≢true (sym c.if-not-sets_none.true ∙ c.sets_none.ensures.1 none)),
      λ some. refl,
    )

pub loop-entry-preserved : goal.loop-entry-preserved
loop-entry-preserved c =
    let below : c.loop-entry.entry-index < length c.args.entries.now = omega arith in
    below_more _ _ c.loop-entry.invariant (at_read c.args.entries.now (λ (e : Entry). SetsNone e.cube c.args.bits.now) c.loop-entry.entry-index c.entry-item.result below c.entry-item.is
    (c.sets_none.ensures.0 c.if-not-sets_none.false))

pub returns : goal.returns
returns c =
    let all : length c.args.entries.now ≤ c.loop-entry.entry-index = omega arith in
    (λ t. absurd (false≢true t), λ some. absurd (none_set c.args.entries.now c.args.bits.now c.loop-entry.entry-index all c.loop-entry.invariant some))
