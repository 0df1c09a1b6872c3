-- meaning: what is reckoned of a node from what is reckoned of its successors.
use Rattle.std.specs.Prelude.{ℕ, zero, suc, length}
use Rattle.sl_base_graphs.specs.Reaching.{Graph}

-- The value of each node after so many rounds: in each round a node's value comes from those of the
-- round before by one step, and before the first all are 0.
unfoldable pub level : {C : Type 0} → ((ℕ → ℕ) → C → ℕ) → (ℕ → C) → ℕ → ℕ → ℕ
level step node zero v = 0
level step node (suc k) v = step (level step node k) (node v)

-- The value of each node, where no chain of successors is longer than there are nodes.
abbrev pub value : {C : Type 0} → Graph → ((ℕ → ℕ) → C → ℕ) → (ℕ → C) → ℕ → ℕ
value graph step node v = level step node (length graph) v
