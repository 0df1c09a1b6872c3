-- view: which specification a reader reads, and what it has read.
use Rattle.std.specs.Prelude.{◌≡◌, ℕ, List}
use Rattle.sl_ast.specs.Views.{items_of}
use Rattle.sl_bind_compile.specs.Compiled.{IsCompiled}
use Rattle.sl_build.specs.Stands as sections
use Rattle.sl_decode_choices.specs.Choosers.{chosen}
use Rattle.sl_decode_contexts.specs.declared.commits.Commit.{Commit}
use Rattle.sl_decode_meaning.specs.Choices.{Choice}
use Rattle.sl_decode_meaning.specs.Flat.{all_values, entries}
use Rattle.sl_faithful_accepted.specs.Laws.{IsShort}
use Rattle.sl_list_instructions.specs.Disassemblies as disassembly
use Rattle.sl_meaning_instruction.specs.Instructions.{Specification, specification_of}
use Rattle.sl_section_sizes.specs.Sizings.{lists_of}
use Rattle.sl_session.specs.Answers.{IsInstruction, IsMisaligned, IsUndecoded, length_of}
use Rattle.sl_session.specs.declared.answer.Answer.{Answer}
use Rattle.sl_session.specs.declared.answer.Answer.TheVariants.{Instruction, Misaligned, Undecoded}
use Rattle.sl_session.specs.declared.buffers.Buffers.{Buffers}
use Rattle.sl_session.specs.declared.reader.Reader.{Reader}

-- the specification that was compiled
abbrev pub specification_in : Reader → Specification
specification_in x = specification_of (items_of x.compiled.now.bound.spec)
    x.compiled.now.bound.tables (lists_of x.compiled.now.bound.sizes.items)

-- which constructor is chosen
abbrev pub choice_in : Reader → Choice
choice_in x = chosen x.disassembly.disassembler.choosers

-- It decodes and builds the instructions of a specification that is accepted, and chooses the most
-- specific constructors.
pub record StandsFor (x : Reader) : Type 0 where
  pub short : IsShort (items_of x.compiled.now.bound.spec)
  pub compiled : IsCompiled x.compiled.now
  pub disassembles : disassembly.StandsFor x.disassembly (specification_in x).tables
      (specification_in x).constructors
  pub builds : sections.StandsFor x.sections (specification_in x)

-- ---- what was read

module _ (s : Specification) (choose : Choice) (start : ℕ) (made : List Commit)
    (window : List ℕ) (address : ℕ) where
  -- An instruction, whose tree the buffers have in a row.
  pub record IsKept (length after context : ℕ) (b : Buffers) : Type 0 where
    pub is : IsInstruction s.tables s.constructors choose start made window address length after
        context b.text.items b.commits.items
    pub nodes : b.walk.nodes.items ≡ entries 0 is.told.tree
    pub values : b.walk.values.items ≡ all_values is.told.tree

  -- This is what stands at the address, and the buffers have its text and its commits.
  abbrev pub IsRead : Answer → Buffers → Type 0
  IsRead (Instruction length after context) b = IsKept length after context b
  IsRead (Undecoded fault length) b = IsUndecoded s.tables s.constructors choose start made window
      address fault length b.text.items b.commits.items
  IsRead (Misaligned length) b = IsMisaligned s.tables s.constructors choose start made window
      address length b.text.items b.commits.items

  -- Something was read, whose line of a listing covers so many bytes.
  pub record IsReadLine (n : ℕ) (b : Buffers) : Type 0 where
    pub answer : Answer
    pub is : IsRead answer b
    pub length_is : n ≡ length_of answer
