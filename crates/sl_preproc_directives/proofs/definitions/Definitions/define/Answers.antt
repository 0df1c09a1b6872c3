use Rattle.sl_preproc_directives.proofs.KeyLemmas.{values_defined}
use Rattle.sl_preproc_directives.proofs.definitions.Definitions.define.Goals as goal

pub returns-in-Ok : goal.returns-in-Ok
returns-in-Ok c = values_defined c.args.name.now c.args.value.now c.args.self.now.values c.insert.new.self c.in_ok-key.key c.in_ok-value.value
    c.in_ok-key.ensures.items c.in_ok-value.ensures.items c.in-Ok.ensures.updates
