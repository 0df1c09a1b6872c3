use Rattle.std.proofs.Common.{◌<◌, ◌≤◌, length, arith, sym, ◌∙◌, refl, below_more}
use Rattle.std.proofs.lemmas.Bool.{false≢true}
use Rattle.std.proofs.lemmas.List.Elements.{at_read}
use Rattle.sl_choose.specs.declared.Entry.{Entry}
use Rattle.sl_choose.specs.Sides.{Covers}
use Rattle.sl_choose.proofs.SideLemmas.{cover_all}
use Rattle.sl_choose.proofs.sides.all_cover.Goals as goal

pub returns-then-not-covers : goal.returns-then-not-covers
returns-then-not-covers c =
    let below : c.loop-entry.entry-index < length c.args.entries.now = omega arith in (
      λ t. absurd (false≢true t),
      λ all. absurd (false≢true (sym c.if-not-covers.true ∙ c.covers.ensures.1 (all c.entry-item.result (c.loop-entry.entry-index, below, sym c.entry-item.is)))),
    )

pub loop-entry-preserved : goal.loop-entry-preserved
loop-entry-preserved c =
    let below : c.loop-entry.entry-index < length c.args.entries.now = omega arith in
    below_more _ _ c.loop-entry.invariant (at_read c.args.entries.now (λ (e : Entry). Covers e.cube c.args.bits.now) c.loop-entry.entry-index c.entry-item.result below c.entry-item.is
    (c.covers.ensures.0 c.if-not-covers.false))

pub returns : goal.returns
returns c =
    let all : length c.args.entries.now ≤ c.loop-entry.entry-index = omega arith in
    (λ t. cover_all c.args.entries.now c.args.bits.now c.loop-entry.entry-index all c.loop-entry.invariant, λ cover. refl)
