-- meaning: what is told of the instructions of a specification.
use Rattle.std.specs.Prelude.{ℕ, List, Option, Result, Ok, Err}
use Rattle.sl_ast.specs.Trees.{Constructor}
use Rattle.sl_ast.specs.Unfolding.{Placed}
use Rattle.sl_cube.specs.declared.Point.{Point}
use Rattle.sl_decode_meaning.specs.Decoding.{Decoded, decoded}
use Rattle.sl_decode_meaning.specs.declared.faults.Fault.{Fault}
use Rattle.sl_list_instructions.specs.Instructions.{DecodeFunction, Told}
use Rattle.sl_show.specs.Texts.{shown_text}
use Rattle.sl_spec.specs.declared.tables.Tables.{Tables}

module _ (t : Tables) (constructors : List (Placed Constructor)) where
  abbrev pub told_of : List ℕ → Result Decoded Fault → Result Told Fault
  told_of bytes (Ok d) = Ok (record {
    text = shown_text t constructors bytes d.tree;
    length = d.length;
    commits = d.commits;
  })
  told_of bytes (Err fault) = Err fault

  -- the text of the decode, its length and its commits, where this is the choice of constructors
  abbrev pub tells : (ℕ → Point → Option ℕ) → DecodeFunction
  tells choose bytes address context =
      told_of bytes (decoded t constructors choose bytes address context)
