-- Counts that only rise.
use Rattle.std.proofs.Common.{ℕ, ◌≤◌, arith}
use Rattle.sl_outside.specs.Causes.{Rose}

-- What rose after a while rose in all.
pub rose_more : (a b c : ℕ) → a ≤ b → Rose b c → Rose a c
rose_more a b c below rose = omega (arith, below, rose)
