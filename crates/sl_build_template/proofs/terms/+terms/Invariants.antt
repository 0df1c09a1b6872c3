use Rattle.std.proofs.Common.{drop}
use Rattle.sl_build_template.proofs.PieceLemmas.{AreArguments}
use Rattle.sl_build_template.specs.Views.{form_of}
use Rattle.sl_build_template.proofs.terms.+terms.Given as goal

abbrev pub invariant-user_into-arguments : goal.invariant-user_into-arguments
invariant-user_into-arguments l =
    AreArguments (form_of l.form) l.t l.initial.out.items l.out.items l.initial.inputs.items l.inputs.items l.free l.es (drop l.index l.es)
