use Rattle.std.proofs.Common.{List, sym, subst}
use Rattle.sl_section_flat.specs.Views.{steps_of}
use Rattle.sl_build_template.specs.Pieces.{Part}
use Rattle.sl_build_template.specs.Views.{IsTemplateOf, form_of}
use Rattle.sl_build_template.proofs.PlacedLemmas.{is_template}
use Rattle.sl_build_template.proofs.steps.template.Goals as goal

pub returns : goal.returns
returns c =
    let h = form_of c.args.form.now in
    let ss = steps_of c.args.steps.now in
    subst (λ (ps : List Part). IsTemplateOf h ss ps) (sym c.in_ok-parts.ensures) (is_template h ss)
