use Rattle.std.proofs.Common.{◌<◌, ◌≤◌, length, arith, sym, ◌∙◌, refl, below_more}
use Rattle.std.proofs.lemmas.Bool.{false≢true}
use Rattle.std.proofs.lemmas.List.Elements.{at_read}
use Rattle.sl_choose.specs.declared.Entry.{Entry}
use Rattle.sl_choose.specs.Sides.{SetsNone}
use Rattle.sl_choose.proofs.SideLemmas.{none_clear}
use Rattle.sl_choose.proofs.sides.some_clear.Goals as goal

pub returns-then-sets_none : goal.returns-then-sets_none
returns-then-sets_none c =
    let below : c.loop-entry.entry-index < length c.args.entries.now = omega arith in (
      λ t. (c.entry-item.result, (c.loop-entry.entry-index, below, sym c.entry-item.is), c.sets_none.ensures.0 c.if-sets_none.true),
      λ some. refl,
    )

pub loop-entry-preserved : goal.loop-entry-preserved
loop-entry-preserved c =
    let below : c.loop-entry.entry-index < length c.args.entries.now = omega arith in
    below_more _ _ c.loop-entry.invariant (at_read c.args.entries.now (λ (e : Entry). SetsNone e.cube c.args.bits.now → ⊥) c.loop-entry.entry-index c.entry-item.result below c.entry-item.is
    (λ none. false≢true (sym c.if-sets_none.false ∙ c.sets_none.ensures.1 none)))

pub returns : goal.returns
returns c =
    let all : length c.args.entries.now ≤ c.loop-entry.entry-index = omega arith in
    (λ t. absurd (false≢true t), λ some. absurd (none_clear c.args.entries.now c.args.bits.now c.loop-entry.entry-index all c.loop-entry.invariant some))
