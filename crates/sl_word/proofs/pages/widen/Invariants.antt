use Rattle.std.proofs.Common.{◌≡◌, ℕ, ◌+◌, ◌-◌, length}
use Rattle.sl_word.specs.Pages.{page_in}
use Rattle.sl_word.proofs.pages.widen.Given as goal

abbrev pub invariant-loop-pages : goal.invariant-loop-pages
invariant-loop-pages l = (k : ℕ) → page_in l.pages.items k ≡ page_in l.initial.pages.items k

abbrev pub decreases-loop-pages : goal.decreases-loop-pages
decreases-loop-pages l = l.number + 1 - length l.pages.items
