use Rattle.std.proofs.Common.{◌≡◌, ℕ, ◌+◌, ◌<◌, length, get_or}
use Rattle.sl_emu.specs.Blocks.{bytes_in}
use Rattle.sl_emu.proofs.temporaries.front_of.Given as goal

abbrev pub invariant-bytes : goal.invariant-bytes
invariant-bytes l = (length l.whole ≡ 16) × ((i : ℕ) → i < l.place → get_or l.whole i 0 ≡ bytes_in l.blocks (l.offset + i))
