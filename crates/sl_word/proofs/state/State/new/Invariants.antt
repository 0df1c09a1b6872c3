use Rattle.std.proofs.Common.{◌≡◌, ℕ, map, take}
use Rattle.sl_word.specs.Bytes.{byte_among}
use Rattle.sl_word.specs.Sizes.{byte_counts}
use Rattle.sl_word.proofs.state.State.new.Given as goal

abbrev pub invariant-loop-size : goal.invariant-loop-size
invariant-loop-size l =
    record {
      sizes : map (λ one. one.size.bytes) l.spaces.items ≡ take l.size-index (byte_counts l.sizes);
      zero : (space offset : ℕ) → byte_among l.spaces.items space offset ≡ 0;
    }
