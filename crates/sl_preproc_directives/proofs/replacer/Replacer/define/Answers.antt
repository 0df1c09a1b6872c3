use Rattle.sl_preproc_directives.specs.Held.{values_of}
use Rattle.sl_preproc_directives.specs.HeldWholes.{wholes_of}
use Rattle.sl_preproc_directives.proofs.WholeLemmas.{forgotten}
use Rattle.sl_preproc_directives.proofs.replacer.Replacer.define.Goals as goal

pub invariant_of-self : goal.invariant_of-self
invariant_of-self c = record { known_is = forgotten (values_of c.define.new.self) (wholes_of c.forget.new.self) c.forget.ensures }
