-- step: what a decoded instruction of an accepted text is built to.
use Rattle.std.specs.Prelude.{◌≡◌, ℕ, true, List, Ok}
use Rattle.sl_ast.specs.Trees.{Item}
use Rattle.sl_bind.specs.Binding.{Binds, constructors_of}
use Rattle.sl_build.specs.Stands.{StandsFor}
use Rattle.sl_build.specs.declared.built.Built.{Built}
use Rattle.sl_build.specs.declared.built.Built.TheVariants.{Ops, Unimplemented}
use Rattle.sl_build.specs.declared.built.Decoded as row
use Rattle.sl_build.specs.declared.sections.Sections.{Sections}
use Rattle.sl_decode_choices.specs.Choices.{IsChoiceOf}
use Rattle.sl_decode_meaning.specs.Choices.{Choice}
use Rattle.sl_decode_meaning.specs.Decoding.{Decoded, decoded}
use Rattle.sl_decode_meaning.specs.Flat.{all_values, entries}
use Rattle.sl_faithful_accepted.specs.Laws.{IsShort}
use Rattle.sl_faithful_lists.specs.Faithful.{IsFaithfulList}
use Rattle.sl_meaning_instruction.specs.Instructions.{Specification, is_unimplemented}
use Rattle.sl_meaning_instruction.specs.Instructions.{specification_of}
use Rattle.sl_pcode.specs.Operations.{operations}
use Rattle.sl_spec.specs.declared.tables.Tables.{Tables}
use Rattle.sl_word.specs.declared.word.Size.{Size}

-- The bytes at an address decode to this instruction, from some context and by the most specific
-- constructors of an accepted text.
pub record IsDecodeOf (items : List Item) (t : Tables) (sizes : List (List Size))
    (bytes : List ℕ) (address : ℕ) (d : Decoded) : Type 0 where
  pub short : IsShort items
  pub binds : Binds items (Ok (t, sizes))
  pub choose : Choice
  pub chooses : IsChoiceOf t (constructors_of items) choose
  pub context : ℕ
  pub decodes : decoded t (constructors_of items) choose bytes address context ≡ Ok d

-- The program has the decode as this row of nodes.
pub record IsRowOf (d : Decoded) (of : row.Decoded) : Type 0 where
  pub after : of.after ≡ d.after
  pub nodes : of.nodes.now ≡ entries 0 d.tree
  pub values : of.values.now ≡ all_values d.tree

-- A decoded instruction is unimplemented, or it has a list that is faithful to it.
abbrev pub IsFaithfullyBuilt : Specification → (bytes : List ℕ) → (address : ℕ) → Decoded → Built
    → Type 0
IsFaithfullyBuilt s bytes address d Unimplemented = is_unimplemented s.constructors d.tree ≡ true
IsFaithfullyBuilt s bytes address d (Ops list) =
    IsFaithfulList s bytes address d (operations list)

-- So is each decode by the accepted text that the sections are of.
abbrev pub BuildsFaithfully : Sections → row.Decoded → Built → Type 0
BuildsFaithfully x of built = (items : List Item) (t : Tables) (sizes : List (List Size))
    (d : Decoded) → StandsFor x (specification_of items t sizes)
    → IsDecodeOf items t sizes of.bytes.now of.address d → IsRowOf d of
    → IsFaithfullyBuilt (specification_of items t sizes) of.bytes.now of.address d built
