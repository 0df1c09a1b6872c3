use Rattle.sl_asm.proofs.assembling.assemble.Goals as goal

pub returns : goal.returns
returns c = rw c.in_ok-reader.ensures.of at c.in_ok-found.ensures
