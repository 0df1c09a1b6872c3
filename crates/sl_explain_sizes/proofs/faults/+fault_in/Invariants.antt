use Rattle.sl_explain_sizes.proofs.faults.+fault_in.Given as goal

abbrev pub decreases-fault_in : goal.decreases-fault_in
decreases-fault_in l = l.depth
