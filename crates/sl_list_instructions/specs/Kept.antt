-- view: a decode with its text, as buffers keep it.
use Rattle.std.specs.Prelude.{◌≡◌, ℕ, List, Result, Ok, Err}
use Rattle.sl_ast.specs.Trees.{Constructor}
use Rattle.sl_ast.specs.Unfolding.{Placed}
use Rattle.sl_decode_contexts.specs.declared.commits.Commit.{Commit}
use Rattle.sl_decode.specs.declared.walk.Instruction.{Instruction}
use Rattle.sl_decode.specs.declared.walk.Walk.{Walk}
use Rattle.sl_decode_meaning.specs.Decoding.{Decoded}
use Rattle.sl_decode_meaning.specs.Flat.{all_values, entries}
use Rattle.sl_decode_meaning.specs.declared.faults.Fault.{Fault}
use Rattle.sl_show.specs.Texts.{shown_text}
use Rattle.sl_spec.specs.declared.tables.Tables.{Tables}

module _ (t : Tables) (constructors : List (Placed Constructor)) (bytes : List ℕ) where
  -- The tree stands in the walk, in a row, and the text and the commits stand beside it.
  pub record IsKept (d : Decoded) (i : Instruction) (walk : Walk)
      (text : List ℕ) (commits : List Commit) : Type 0 where
    pub length : i.length ≡ d.length
    pub after : i.after ≡ d.after
    pub nodes : walk.nodes.items ≡ entries 0 d.tree
    pub values : walk.values.items ≡ all_values d.tree
    pub shown : text ≡ shown_text t constructors bytes d.tree
    pub made : commits ≡ d.commits

  -- What was returned is the fault, or the decode is kept.
  abbrev pub Keeps : Result Decoded Fault → Result Instruction Fault → Walk → (text : List ℕ)
      → List Commit → Type 0
  Keeps outcome (Ok i) walk text commits =
      (d : Decoded) × (outcome ≡ Ok d) × IsKept d i walk text commits
  Keeps outcome (Err fault) walk text commits = outcome ≡ Err fault
