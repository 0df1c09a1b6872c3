use Rattle.std.proofs.Common.{◌≡◌, ℕ, ◌+◌, ◌*◌, ◌<◌, ◌≤◌}
use Rattle.sl_word.specs.Pages.{byte_in}
use Rattle.sl_word.proofs.space.Space.difference_in_page.Given as goal

abbrev pub invariant-loop-place : goal.invariant-loop-place
invariant-loop-place l =
    (k : ℕ) → l.from ≤ k → k < l.number * 4096 + l.place → byte_in l.opening k ≡ byte_in l.self k
