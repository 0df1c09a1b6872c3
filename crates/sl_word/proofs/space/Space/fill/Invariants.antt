use Rattle.std.proofs.Common.{◌≡◌, ◌-◌, ◌<◌, ◌≤◌, ℕ, length, get_or}
use Rattle.sl_word.specs.Pages.{byte_after}
use Rattle.sl_word.proofs.space.Space.fill.Given as goal

abbrev pub invariant-runs : goal.invariant-runs
invariant-runs l =
    record {
      long : length l.out ≡ length l.initial.out;
      inside : l.done ≤ length l.out;
      told : (i : ℕ) → i < l.done → get_or l.out i 0 ≡ byte_after l.self l.base i;
    }

abbrev pub decreases-runs : goal.decreases-runs
decreases-runs l = length l.out - l.done
