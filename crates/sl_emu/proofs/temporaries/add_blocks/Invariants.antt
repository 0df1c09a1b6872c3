use Rattle.std.proofs.Common.{◌≡◌, ℕ, ◌+◌, ◌-◌, length}
use Rattle.sl_emu.specs.Blocks.{bytes_in}
use Rattle.sl_emu.proofs.temporaries.add_blocks.Given as goal

abbrev pub invariant-loop-alloc : goal.invariant-loop-alloc
invariant-loop-alloc l = (o : ℕ) → bytes_in l.blocks.items o ≡ bytes_in l.initial.blocks.items o

abbrev pub decreases-loop-alloc : goal.decreases-loop-alloc
decreases-loop-alloc l = l.number + 1 - length l.blocks.items
