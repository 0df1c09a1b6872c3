-- view: a decode as it is kept in buffers.
use Rattle.std.specs.Prelude.{ℕ, ℤ, List, Result, Ok, Err}
use Rattle.sl_decode_contexts.specs.declared.commits.Commit.{Commit}
use Rattle.sl_decode_meaning.specs.Decoding.{Decoded}
use Rattle.sl_decode_meaning.specs.Flat.{all_values, entries}
use Rattle.sl_decode_meaning.specs.declared.entries.Entry.{Entry}
use Rattle.sl_decode_meaning.specs.declared.faults.Fault.{Fault}

-- the length of the instruction, the address behind it, and its nodes, values and commits
pub data Walked : Type 0 where
  walked : ℕ → ℕ → List Entry → List ℤ → List Commit → Walked

abbrev pub walk_of : Result Decoded Fault → Result Walked Fault
walk_of (Ok d) = Ok (walked d.length d.after (entries 0 d.tree) (all_values d.tree) d.commits)
walk_of (Err fault) = Err fault
