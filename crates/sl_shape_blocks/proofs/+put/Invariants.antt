use Rattle.sl_shape_blocks.proofs.+put.Given as goal

abbrev pub decreases-put : goal.decreases-put
decreases-put l = l.size
