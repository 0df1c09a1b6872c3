use Rattle.std.proofs.Common.{◌≡◌, ℕ, ◌+◌, ◌<◌}
use Rattle.sl_word.specs.Pages.{byte_in, HasPage}
use Rattle.sl_word.proofs.space.Space.add_pages_of.Given as goal

abbrev pub invariant-loop-after : goal.invariant-loop-after
invariant-loop-after l =
    record {
      size : l.self.size ≡ l.initial.self.size;
      same : (offset : ℕ) → byte_in l.self offset ≡ byte_in l.initial.self offset;
      there : (i : ℕ) → i < l.after → HasPage l.self (l.first + i);
    }
