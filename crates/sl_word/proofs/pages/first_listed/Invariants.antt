use Rattle.std.proofs.Common.{ℕ, ◌<◌, ◌≤◌}
use Rattle.std.specs.Prelude.{IsSome}
use Rattle.sl_word.specs.Pages.{page_in}
use Rattle.sl_word.proofs.pages.first_listed.Given as goal

abbrev pub invariant-loop-index : goal.invariant-loop-index
invariant-loop-index l = (k : ℕ) → l.number ≤ k → k < l.index → IsSome (page_in l.pages k) → ⊥
