-- A decode that is kept in buffers.
use Rattle.std.proofs.Common.{◌≡◌, ℕ, List, Result, Ok, Err, refl, sym, ap, ◌∙◌}
use Rattle.sl_ast.specs.Trees.{Constructor}
use Rattle.sl_ast.specs.Unfolding.{Placed}
use Rattle.sl_decode_contexts.specs.declared.commits.Commit.{Commit}
use Rattle.sl_decode.specs.Walks.{walk_of, walked}
use Rattle.sl_decode.specs.declared.walk.Instruction.{Instruction}
use Rattle.sl_decode.specs.declared.walk.Walk.{Walk}
use Rattle.sl_decode_meaning.specs.Decoding.{Decoded}
use Rattle.sl_decode_meaning.specs.Flat.{all_values, entries}
use Rattle.sl_decode_meaning.specs.Trees.{Node, Trees}
use Rattle.sl_decode_meaning.specs.declared.faults.Fault.{Fault}
use Rattle.sl_list_instructions.specs.Instructions.{told_by}
use Rattle.sl_list_instructions.specs.Kept.{Keeps}
use Rattle.sl_list_instructions.specs.Told.{told_of}
use Rattle.sl_show.specs.Texts.{shown_text}
use Rattle.sl_spec.specs.declared.tables.Tables.{Tables}

module _ (t : Tables) (cs : List (Placed Constructor)) (bytes : List ℕ) where
  -- what was walked is kept, with its text
  pub walked_kept : (r : Result Decoded Fault) (i : Instruction) (walk : Walk) (text : List ℕ) (ds : List Commit)
      → walk_of r ≡ Ok (walked i.length i.after walk.nodes.items walk.values.items walk.commits.items)
      → ((f : Trees Node) → walk.nodes.items ≡ entries 0 f → walk.values.items ≡ all_values f
      → text ≡ shown_text t cs bytes f)
      → ds ≡ walk.commits.items → Keeps t cs bytes r (Ok i) walk text ds
  walked_kept (Ok d) i walk text ds is shows made =
      let nodes : walk.nodes.items ≡ entries 0 d.tree = cc in
      let values : walk.values.items ≡ all_values d.tree = cc in
      let commits : walk.commits.items ≡ d.commits = cc in (
        d,
        refl,
        record {
          length = cc;
          after = cc;
          nodes = nodes;
          values = values;
          shown = shows d.tree nodes values;
          made = made ∙ commits;
        },
      )
  walked_kept (Err fault) i walk text ds is shows made = absurd (cc)

  -- what is kept is what is told
  pub kept_told : (r : Result Decoded Fault) (i : Instruction) (walk : Walk) (text : List ℕ) (ds : List Commit)
      → Keeps t cs bytes r (Ok i) walk text ds → told_by (Ok i.length) text ds ≡ told_of t cs bytes r
  kept_told r i walk text ds k =
      let is = k.2 in
      (λ j. Ok (record { text = is.shown j; length = is.length j; commits = is.made j }))
      ∙ ap (told_of t cs bytes) (sym k.1)
