use Rattle.sl_store_bytes.proofs.write.+put_groups.Given as goal

abbrev pub decreases-put_groups : goal.decreases-put_groups
decreases-put_groups l = l.groups
