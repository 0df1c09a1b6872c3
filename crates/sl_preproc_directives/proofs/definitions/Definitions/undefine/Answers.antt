use Rattle.sl_preproc_directives.proofs.KeyLemmas.{values_after}
use Rattle.sl_preproc_directives.proofs.definitions.Definitions.undefine.Goals as goal

pub returns : goal.returns
returns c = values_after c.args.name.now c.args.self.now.values c.remove-value.new.self _ c.remove-value.ensures.updates
