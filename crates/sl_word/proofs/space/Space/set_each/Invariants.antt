use Rattle.std.proofs.Common.{◌≡◌, ◌^◌, get_or}
use Rattle.sl_word.specs.Pages.{byte_in, HasPages}
use Rattle.sl_word.specs.Layout.{Puts}
use Rattle.sl_word.proofs.space.Space.set_each.Given as goal

abbrev pub invariant-loop-place : goal.invariant-loop-place
invariant-loop-place l =
    record {
      size : l.self.size ≡ l.initial.self.size;
      there : HasPages l.self l.base l.count;
      put : Puts (256 ^ l.initial.self.size.bytes) l.base l.place (λ i. get_or l.bytes i 0) (byte_in l.initial.self) (byte_in l.self);
    }
