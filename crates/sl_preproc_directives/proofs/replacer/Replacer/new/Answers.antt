use Rattle.sl_preproc_directives.specs.Held.{values_of}
use Rattle.sl_preproc_directives.specs.HeldWholes.{wholes_of}
use Rattle.sl_preproc_directives.proofs.WholeLemmas.{forgotten}
use Rattle.sl_preproc_directives.proofs.replacer.Replacer.new.Goals as goal

pub invariant_of-result : goal.invariant_of-result
invariant_of-result c = record { known_is = forgotten (values_of c.new.result) (wholes_of c.new-2.result) c.new-2.ensures }
