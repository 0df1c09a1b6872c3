-- step: the late moments over nodes as they are kept.
use Rattle.std.specs.Prelude.{ℕ, zero, suc, ℤ, List, [], ◌∷◌, ◌++◌, length, take, drop}
use Rattle.std.specs.Prelude.{Result, Ok, Err}
use Rattle.sl_decode_contexts.specs.declared.commits.Commit.{Commit}
use Rattle.sl_decode.specs.declared.walk.Sprout.{Sprout}
use Rattle.sl_decode.specs.declared.walk.Walk.{Walk}
use Rattle.sl_decode_meaning.specs.Actions.{Own, own}
use Rattle.sl_decode_meaning.specs.Decoding.{Input, finish_node}
use Rattle.sl_decode_meaning.specs.Flat.{entry_of}
use Rattle.sl_decode_meaning.specs.Outcomes.{◌>>=◌}
use Rattle.sl_decode_meaning.specs.Trees.{Begun, with_values}
use Rattle.sl_decode_meaning.specs.declared.entries.Entry.{Entry}
use Rattle.sl_decode_meaning.specs.declared.faults.Fault.{Fault}
use Rattle.sl_decode_meaning.specs.declared.notes.Noted.{Noted}

-- the values of one node, and all commits so far
pub data Told : Type 0 where
  told : List ℤ → List Commit → Told

abbrev pub told_of : Result Own Fault → Result Told Fault
told_of (Ok (own notes values commits)) = Ok (told values commits)
told_of (Err fault) = Err fault

-- a node with its notes
abbrev pub begun_of : Sprout → List Noted → Begun
begun_of s notes = record {
  ctor = s.ctor;
  at = s.at;
  length = s.length;
  context = s.context;
  notes = notes;
}

-- the lengths of the nodes that stand below none of the others, so many nodes being skipped first
abbrev pub roots : ℕ → List Sprout → List ℕ
roots n [] = []
roots zero (s ∷ ss) = s.length ∷ roots s.below ss
roots (suc n) (s ∷ ss) = roots n ss

-- the nodes, the values and the commits so far
pub data Kept : Type 0 where
  kept : List Entry → List ℤ → List Commit → Kept

abbrev pub kept_of : Walk → Kept
kept_of w = kept w.nodes.items w.values.items w.commits.items

abbrev pub commits_kept : Kept → List Commit
commits_kept (kept es vs cs) = cs

-- with one more node
abbrev pub keep : Sprout → Told → Kept → Kept
keep s (told ws ds) (kept es vs cs) =
    kept (es ++ entry_of (length vs) (with_values (begun_of s []) ws) s.below ∷ []) (vs ++ ws) ds

abbrev pub finish_kept : Input → ℕ → List Sprout → List Noted → Kept → Result Kept Fault
finish_kept i next [] notes k = Ok k
finish_kept i next (s ∷ ss) notes k =
    told_of (finish_node i next (begun_of s (take s.noted notes)) (roots 0 (take s.below ss))
    (commits_kept k)) >>= λ done. finish_kept i next ss (drop s.noted notes) (keep s done k)
