use Rattle.sl_store_bytes.proofs.bytes.Bytes.+within.Given as goal

abbrev pub decreases-within : goal.decreases-within
decreases-within l = l.groups
