use Rattle.std.proofs.Common.{length, get_or, ◌∙◌}
use Rattle.sl_emu.proofs.TemporaryLemmas.{run_is}
use Rattle.sl_emu.proofs.temporaries.put_over.Goals as goal

pub returns-clause-put : goal.returns-clause-put
returns-clause-put c = λ o.
    c.overwrite.ensures.bytes o
    ∙ run_is c.args.place (length c.args.bytes.now) (λ i. get_or c.args.bytes.now i 0) (λ i. get_or c.args.block.now i 0) o
