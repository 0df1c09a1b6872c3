use Rattle.std.proofs.Common.{◌≡◌, ◌≤◌, drop, get_or, map, max, min}
use Rattle.sl_spec.specs.Unfolded.{heads_of}
use Rattle.sl_spec_tables.specs.Heads.{head_bytes, heads_bytes}
use Rattle.sl_spec_tables.specs.Lengths.{put_together}
use Rattle.sl_spec_tables.proofs.lengths.heads_bytes.Given as goal

abbrev pub invariant-heads : goal.invariant-heads
invariant-heads l = record {
  small : l.most ≤ 1025;
  alike : min (put_together max l.most (drop l.index (map (head_bytes l.t (λ u. get_or l.values u 0) l.operands) (heads_of l.heads)))) 1025
      ≡ min (heads_bytes l.t (λ u. get_or l.values u 0) l.operands (heads_of l.heads)) 1025;
}
