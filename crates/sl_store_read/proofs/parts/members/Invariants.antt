use Rattle.std.proofs.Common.{◌≡◌, ◌+◌, ◌-◌, length}
use Rattle.sl_store_bytes.specs.Lists.{collected, same_state, some_more}
use Rattle.sl_store_bytes.specs.Reads.{seen_by}
use Rattle.sl_store_read.proofs.parts.members.Given as goal

abbrev pub invariant-rounds : goal.invariant-rounds
invariant-rounds g l = record {
  reads :
      collected (seen_by g.P.Part.view l.initial.found) (some_more (λ left u. g.P.Part.reader) same_state l.count tt l.initial.bytes)
      ≡ collected (seen_by g.P.Part.view l.found) (some_more (λ left u. g.P.Part.reader) same_state (l.count - l._round) tt l.bytes);
  many : length l.found.items ≡ length l.initial.found.items + l._round;
}
