use Rattle.std.proofs.Common.{ℕ, List, length, refl, subst}
use Rattle.std.proofs.lemmas.Option.{slice_get_read}
use Rattle.sl_choose.specs.Choosers.{StandsFor}
use Rattle.sl_decode_choices.proofs.ChooserLemmas.{are_choices, one_more, whole}
use Rattle.sl_cube_sets.specs.declared.CubeSet.{CubeSet}
use Rattle.sl_decode_choices.proofs.choosers.Choosers.new.Goals as goal

pub tables-preserved : goal.tables-preserved
tables-preserved c =
    let kept = c.args.tables.now in
    let table = c.index-tables-index.result in
    let chooser = c.in_ok-chooser.chooser in
    let stands = subst (λ (sets : List CubeSet). StandsFor chooser table.ctors.items sets) c.deref-in-tables.ensures.value
    (subst (λ (ctors : List ℕ). StandsFor chooser ctors c.deref-in-tables.result.now) c.deref.ensures.value c.in_ok-chooser.ensures) in
    one_more kept c.tables.choosers.items c.push.new.self.items c.tables.index chooser table c.tables.invariant c.in_ok-push.ensures.items
    (slice_get_read kept (length kept) c.tables.index table refl c.tables-test.true c.index-tables-index.is) stands

pub returns : goal.returns
returns c =
    let kept = c.args.tables.now in
    let all = whole kept c.tables.choosers.items c.tables.index c.tables-test.false c.tables.auto.index-end c.tables.invariant in
    λ t cs listed sound are. are_choices kept c.tables.choosers.items all c.requires t cs listed are
