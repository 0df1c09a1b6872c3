-- What is read of an instruction is answered with its operations.
use Rattle.std.proofs.Common.{◌≡◌, ℕ, List, Some}
use Rattle.sl_ast.specs.Trees.{Item}
use Rattle.sl_ast.specs.Views.{items_of}
use Rattle.sl_build.specs.Accepted.{IsDecodeOf, IsFaithfullyBuilt}
use Rattle.sl_build.specs.declared.built.Built.{Built}
use Rattle.sl_build.specs.declared.built.Built.TheVariants.{Ops, Unimplemented}
use Rattle.sl_decode_contexts.specs.declared.commits.Commit.{Commit}
use Rattle.sl_decode_meaning.specs.Choices.{Choice}
use Rattle.sl_decode_meaning.specs.Decoding.{Decoded}
use Rattle.sl_decode_meaning.specs.Flat.{all_values, entries}
use Rattle.sl_meaning_instruction.specs.Instructions.{Specification}
use Rattle.sl_section_sizes.specs.Sizings.{lists_of}
use Rattle.sl_session.specs.Operations.{HasOperations, IsTranslated}
use Rattle.sl_session.specs.Readers.{IsKept, StandsFor, choice_in, specification_in}
use Rattle.sl_session.specs.declared.answer.Answer.TheVariants.{Instruction}
use Rattle.sl_session.specs.declared.buffers.Buffers.{Buffers}
use Rattle.sl_session.specs.declared.reader.Reader.{Reader}
use Rattle.sl_spec.specs.declared.tables.Tables.{Tables}
use Rattle.sl_word.specs.declared.word.Size.{Size}

module _ (x : Reader) (stands : StandsFor x) (start : ℕ) (made : List Commit) (window : List ℕ)
    (address : ℕ) where
  abbrev s : Specification
  s = specification_in x

  abbrev choose : Choice
  choose = choice_in x

  abbrev items : List Item
  items = items_of x.compiled.now.bound.spec

  abbrev t : Tables
  t = x.compiled.now.bound.tables

  abbrev sizes : List (List Size)
  sizes = lists_of x.compiled.now.bound.sizes.items

  has_operations : (d : Decoded) (built : Built) → IsFaithfullyBuilt s window address d built
      → HasOperations s choose start made window address d built
  has_operations d Unimplemented is = is
  has_operations d (Ops list) is = is

  -- the instruction that is kept, with what is built of each decode of its row
  pub kept_translates : (length after context : ℕ) (b : Buffers) (built : Built)
      → IsKept s choose start made window address length after context b
      → ((d : Decoded) → IsDecodeOf items t sizes window address d → after ≡ d.after
      → b.walk.nodes.items ≡ entries 0 d.tree → b.walk.values.items ≡ all_values d.tree
      → IsFaithfullyBuilt s window address d built)
      → IsTranslated s choose start made window address (Instruction length after context)
      (Some built) b.text.items b.commits.items
  kept_translates length after context b built kept builds =
      let d = kept.is.told in
      let decode : IsDecodeOf items t sizes window address d = record {
        short = stands.short;
        binds = stands.compiled.binds;
        choose = choose;
        chooses = stands.disassembles.chooses;
        context = context;
        decodes = kept.is.decodes.is;
      } in
      record {
        is = kept.is;
        built_is = has_operations d built (builds d decode kept.is.after_is kept.nodes kept.values);
      }
