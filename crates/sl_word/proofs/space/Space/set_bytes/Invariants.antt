use Rattle.std.proofs.Common.{◌≡◌, ◌-◌, ◌^◌, ◌≤◌, length, get_or}
use Rattle.sl_word.specs.Pages.{byte_in, HasPagesOf}
use Rattle.sl_word.specs.Layout.{Puts}
use Rattle.sl_word.proofs.space.Space.set_bytes.Given as goal

abbrev pub invariant-runs : goal.invariant-runs
invariant-runs l =
    record {
      size : l.self.size ≡ l.initial.self.size;
      inside : l.done ≤ length l.bytes;
      there : HasPagesOf l.self l.base (length l.bytes);
      put : Puts (256 ^ l.initial.self.size.bytes) l.base l.done (λ k. get_or l.bytes k 0) (byte_in l.initial.self) (byte_in l.self);
    }

abbrev pub decreases-runs : goal.decreases-runs
decreases-runs l = length l.bytes - l.done
