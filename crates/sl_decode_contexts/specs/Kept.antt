-- view: what a map of contexts keeps.
use Rattle.std.specs.Prelude.{ℕ, Option}
use Rattle.sl_decode_contexts.specs.declared.tree.Tree.{Tree}

-- the context where nothing counts, and the runs of the addresses that have commits
pub record Kept : Type 0 where
  pub start : ℕ
  pub runs : Option Tree
