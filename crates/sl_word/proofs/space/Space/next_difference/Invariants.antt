use Rattle.std.proofs.Common.{◌≡◌, ℕ, ◌-◌, ◌^◌, ◌<◌, ◌≤◌}
use Rattle.sl_word.specs.Pages.{byte_in}
use Rattle.sl_word.proofs.space.Space.next_difference.Given as goal

abbrev pub invariant-pages : goal.invariant-pages
invariant-pages l =
    record {
      after : l.from ≤ l.start;
      same : (k : ℕ) → l.from ≤ k → k < l.start → byte_in l.opening k ≡ byte_in l.self k;
    }

abbrev pub decreases-pages : goal.decreases-pages
decreases-pages l = 2 ^ 64 - l.start
