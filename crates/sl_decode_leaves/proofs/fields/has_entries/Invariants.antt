use Rattle.std.proofs.Common.{ℕ, ◌<◌, IsTrue}
use Rattle.sl_decode_meaning.specs.Lookups.{has_entry}
use Rattle.sl_spec.specs.Views.{entries_of}
use Rattle.sl_decode_leaves.proofs.fields.has_entries.Given as goal

abbrev pub invariant-indices : goal.invariant-indices
invariant-indices l =
    (index : ℕ) → index < l.index → IsTrue (has_entry (entries_of l.entries) index)
