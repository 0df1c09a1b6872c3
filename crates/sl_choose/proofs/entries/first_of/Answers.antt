use Rattle.std.proofs.Common.{◌<◌, ◌≤◌, length, arith, sym, ◌∙◌, below_more}
use Rattle.std.proofs.lemmas.Bool.{false≢true}
use Rattle.std.proofs.lemmas.List.Elements.{at_read}
use Rattle.sl_cube.specs.Points.{IsIn}
use Rattle.sl_choose.specs.declared.Entry.{Entry}
use Rattle.sl_choose.specs.Picked.{is_in}
use Rattle.sl_choose.proofs.ChooserLemmas.{first_none}
use Rattle.sl_choose.proofs.PickLemmas.{find_here, find_more, find_none}
use Rattle.sl_choose.proofs.entries.first_of.Goals as goal

pub returns-then-has-clause-first : goal.returns-then-has-clause-first
returns-then-has-clause-first c =
    let below : c.loop-entry.entry-index < length c.args.leaf.now = omega arith in
    record {
      place = c.loop-entry.entry-index;
      within = below;
      entry_is = c.entry-item.is;
      has = c.has.ensures.inside.0 c.if-has.true;
      none_before = c.loop-entry.invariant.0;
    }

pub returns-then-has-clause-value : goal.returns-then-has-clause-value
returns-then-has-clause-value c =
    let below : c.loop-entry.entry-index < length c.args.leaf.now = omega arith in
    find_here (λ (e : Entry). is_in c.args.point.now e.cube) c.args.leaf.now c.loop-entry.entry-index c.loop-entry.invariant.1 c.entry-item.result c.entry-item.result below
    c.entry-item.is (sym c.has.ensures.value ∙ c.if-has.true)

pub loop-entry-preserved : goal.loop-entry-preserved
loop-entry-preserved c =
    let below : c.loop-entry.entry-index < length c.args.leaf.now = omega arith in (
      below_more _ _ c.loop-entry.invariant.0 (at_read c.args.leaf.now (λ (e : Entry). IsIn c.args.point.now e.cube → ⊥) c.loop-entry.entry-index c.entry-item.result below c.entry-item.is
          (λ inside. false≢true (sym c.if-has.false ∙ c.has.ensures.inside.1 inside))),
      find_more (λ (e : Entry). is_in c.args.point.now e.cube) c.args.leaf.now c.loop-entry.entry-index c.loop-entry.invariant.1 c.entry-item.result c.entry-item.result below
          c.entry-item.is (sym c.has.ensures.value ∙ c.if-has.false),
    )

pub returns-clause-first : goal.returns-clause-first
returns-clause-first c =
    let all : length c.args.leaf.now ≤ c.loop-entry.entry-index = omega arith in
    first_none c.args.leaf.now c.args.point.now c.loop-entry.entry-index all c.loop-entry.invariant.0

pub returns-clause-value : goal.returns-clause-value
returns-clause-value c =
    let all : length c.args.leaf.now ≤ c.loop-entry.entry-index = omega arith in
    find_none (λ (e : Entry). is_in c.args.point.now e.cube) c.args.leaf.now c.loop-entry.entry-index c.loop-entry.invariant.1 all
