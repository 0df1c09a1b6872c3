-- step: what is built of an instruction, and what is known of a listing that is under way.
use Rattle.std.specs.Prelude.{◌≡◌, ℕ, ◌≤◌, List, ◌++◌}
use Rattle.sl_ast.specs.Trees.{Item}
use Rattle.sl_ast.specs.Views.{items_of}
use Rattle.sl_bind.specs.Binding.{constructors_of}
use Rattle.sl_faithful_accepted.specs.Laws.{IsShort}
use Rattle.sl_build.specs.Accepted.{IsFaithfullyBuilt}
use Rattle.sl_build.specs.Stands as build
use Rattle.sl_build.specs.declared.built.Built.{Built}
use Rattle.sl_build.specs.declared.built.Built.TheVariants.{Ops, Unimplemented}
use Rattle.sl_decode_choices.specs.Choosers.{chosen}
use Rattle.sl_bind_compile.specs.Compiled.{IsCompiled}
use Rattle.sl_bind_compile.specs.declared.compiled.Compiled.{Compiled}
use Rattle.sl_decode_meaning.specs.Choices.{Choice}
use Rattle.sl_decode_meaning.specs.Decoding.{Decoded}
use Rattle.sl_meaning_instruction.specs.Instructions.{Specification, specification_of}
use Rattle.sl_list_instructions.specs.Listings.{Shows}
use Rattle.sl_list_instructions.specs.Disassemblies as lister
use Rattle.sl_list_instructions.specs.Listing.{Image}
use Rattle.sl_pcode.specs.Operations.{operations}
use Rattle.sl_pcode.specs.declared.print.Names.{Names}
use Rattle.sl_list_pcode.specs.Listing.{Shown}
use Rattle.sl_list_pcode.specs.Names.{AreNames, op_lines, unimplemented_line}
use Rattle.sl_list_pcode.specs.declared.shown.PcodeListing.{PcodeListing}
use Rattle.sl_list_pcode.specs.declared.translator.Translator.{Translator}
use Rattle.sl_section_sizes.specs.Sizings.{lists_of}
use Rattle.sl_word.specs.declared.word.Size.{Size}

-- the lines of what is built
abbrev pub built_lines : Names → Built → List ℕ
built_lines names Unimplemented = unimplemented_line
built_lines names (Ops list) = op_lines names (operations list)

-- The lines of what the instruction is built to were appended.
pub record AppendsBuilt (s : Specification) (bytes : List ℕ) (address : ℕ) (d : Decoded)
    (names : Names) (old new : List ℕ) : Type 0 where
  pub built : Built
  pub is_built : IsFaithfullyBuilt s bytes address d built
  pub appends : new ≡ old ++ built_lines names built

-- ---- what translates

abbrev pub items_of_compiled : Compiled → List Item
items_of_compiled c = items_of c.bound.spec

abbrev pub sizes_of_compiled : Compiled → List (List Size)
sizes_of_compiled c = lists_of c.bound.sizes.items

abbrev pub specification_of_compiled : Compiled → Specification
specification_of_compiled c =
    specification_of (items_of_compiled c) c.bound.tables (sizes_of_compiled c)

-- It decodes the instructions of this specification, and builds their operations.
pub record IsTranslatorOf (c : Compiled) (x : Translator) : Type 0 where
  pub compiled : x.compiled.now ≡ c
  pub disassembles : lister.StandsFor x.disassembly c.bound.tables
      (constructors_of (items_of_compiled c))
  pub builds : build.StandsFor x.sections (specification_of_compiled c)
  pub names : AreNames c.bound.tables x.names

-- what is shown of an image
abbrev pub shows_by : Translator → Image → Shows
shows_by x i = let c = x.compiled.now in Shown (items_of_compiled c) c.bound.tables
    (sizes_of_compiled c) i (chosen x.disassembly.disassembler.choosers) x.names

-- ---- a listing that is under way

abbrev pub compiled_in : PcodeListing → Compiled
compiled_in l = l.translator.now.compiled.now

abbrev pub choice_in : PcodeListing → Choice
choice_in l = chosen l.translator.now.disassembly.disassembler.choosers

abbrev pub shows_in : PcodeListing → Shows
shows_in l = shows_by l.translator.now l.image.now

-- Its specification is accepted, and is translated.
pub record IsReady (l : PcodeListing) : Type 0 where
  pub short : IsShort (items_of_compiled (compiled_in l))
  pub compiled : IsCompiled (compiled_in l)
  pub aligned : 1 ≤ (compiled_in l).bound.tables.alignment
  pub translates : IsTranslatorOf (compiled_in l) l.translator.now
