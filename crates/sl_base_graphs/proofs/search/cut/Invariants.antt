use Rattle.std.proofs.Common.{◌≡◌, ◌<◌, ◌≤◌, ℕ, length, get_or, take}
use Rattle.sl_base_graphs.proofs.search.cut.Given as goal

abbrev pub invariant-last : goal.invariant-last
invariant-last l = record {
  is : l.numbers.items ≡ take (length l.numbers.items) l.initial.numbers.items;
  few : length l.numbers.items ≤ length l.initial.numbers.items;
  past : (k : ℕ) → length l.numbers.items ≤ k → k < length l.initial.numbers.items → l.bound < get_or l.initial.numbers.items k 0;
}

abbrev pub decreases-last : goal.decreases-last
decreases-last l = length l.numbers.items
