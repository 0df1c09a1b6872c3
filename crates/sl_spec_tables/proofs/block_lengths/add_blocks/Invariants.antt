use Rattle.sl_spec.specs.Numbers.{KeepsMade}
use Rattle.sl_spec_tables.specs.BlockLengths.{IsLengthOf}
use Rattle.sl_spec_tables.proofs.block_lengths.add_blocks.Given as goal

abbrev pub invariant-all : goal.invariant-all
invariant-all l = KeepsMade (IsLengthOf l.t) l.blocks l.initial.made l.made
