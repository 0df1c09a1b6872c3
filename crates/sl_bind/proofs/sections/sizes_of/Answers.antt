use Rattle.std.proofs.Common.{ap, subst, ◌∙◌}
use Rattle.sl_bind.proofs.VerdictLemmas.{sizes_stop}
use Rattle.sl_section_all.specs.Judging.{Judges}
use Rattle.sl_section_all.specs.Views.{flats_of, scopes_view}
use Rattle.sl_section_all.specs.declared.judge.Judged.TheVariants.{Kept}
use Rattle.sl_spec.specs.Unfolded.{all_placed}
use Rattle.sl_bind.proofs.sections.sizes_of.Goals as goal

pub returns-clause-refused : goal.returns-clause-refused
returns-clause-refused c =
    let t = c.args.t.now in
    let s = scopes_view c.args.scopes.now in
    let cs = all_placed c.args.constructors.now in
    let kept : Judges t s cs (Kept c.in-Kept.sections) = subst (Judges t s cs) c.in-Kept.is c.in-Ok.ensures in
    sizes_stop t s cs (flats_of c.as_slice.result.now) c.in-Err.error c.told.result
    kept.0 (ap flats_of c.as_slice.ensures.value ∙ kept.1) c.in-Err.ensures.fault c.told.ensures
