use Rattle.std.proofs.Common.{ap}
use Rattle.sl_preproc_directives.specs.HeldWholes.{whole_of}
use Rattle.sl_preproc_directives.proofs.KeyLemmas.{held_more}
use Rattle.sl_preproc_directives.proofs.wholes.Wholes.add.Goals as goal

pub returns-in-Ok-clause-added : goal.returns-in-Ok-clause-added
returns-in-Ok-clause-added c = held_more whole_of c.args.name.now (c.args.levels, c.args.text.now) c.args.self.now.names c.insert.new.self c.in_ok-key.key _
    c.in_ok-key.ensures.items (ap (λ t. (c.args.levels, t)) c.in_ok-text.ensures.items) c.in-Ok.ensures.updates
