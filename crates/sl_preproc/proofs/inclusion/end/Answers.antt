use Rattle.std.proofs.Common.{◌≡◌, ◌∙◌, sym, ap, subst, List, Some}
use Rattle.std.specs.Prelude.{slice_get}
use Rattle.sl_preproc.specs.Readings.{Reading, Refusal, refused}
use Rattle.sl_preproc.specs.Expansion.{Work}
use Rattle.sl_preproc.specs.Refusals.{RefusesAs}
use Rattle.sl_preproc_directives.specs.declared.fault.Cause.TheVariants.{Unbalanced}
use Rattle.sl_preproc.specs.declared.groups.Group.{Group}
use Rattle.sl_preproc.proofs.ExpansionLemmas.{first_open}
use Rattle.sl_preproc.proofs.ReadLemmas.{refuses_along}
use Rattle.sl_preproc.proofs.inclusion.end.Goals as goal

pub returns-in-Some-clause-ended : goal.returns-in-Some-clause-ended
returns-in-Some-clause-ended c = λ work.
    let name = c.args.name.now in
    let line = c.in-Some.outermost.now.line in
    let here : Some c.in-Some.outermost.now ≡ slice_get c.args.groups.now.items 0 = c.in-Some.ensures.value ∙ ap (λ (gs : List Group). slice_get gs 0) c.deref.ensures.value in
    subst (λ (r : Reading Work). RefusesAs c.refuse.result r.result) (sym (first_open name work c.args.groups.now.items c.in-Some.outermost.now here))
    (refuses_along c.refuse.result (λ (r : Refusal). refused {X = Work} Unbalanced name line) (refused {X = Refusal} Unbalanced name line) c.refuse.ensures.refused)
