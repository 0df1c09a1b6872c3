-- Runs of bytes that pass a test.
use Rattle.std.proofs.Common.{ℕ, ◌≤◌, Bool, List, length}
use Rattle.std.specs.List.{prefix_len}
use Rattle.std.proofs.lemmas.List.Sums.{prefix_len-le-length}

pub run_within : (test : ℕ → Bool) (s : List ℕ) → prefix_len test s ≤ length s
run_within test s = prefix_len-le-length test s
