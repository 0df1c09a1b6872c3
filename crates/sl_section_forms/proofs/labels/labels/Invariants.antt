use Rattle.sl_section_forms.proofs.LabelLemmas.{AreFound}
use Rattle.sl_section_forms.proofs.labels.labels.Given as goal

abbrev pub invariant-body : goal.invariant-body
invariant-body l = AreFound l.body l.names l.index
