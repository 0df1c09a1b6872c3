-- view: which specification a stepper runs.
use Rattle.std.specs.Prelude.{◌≡◌, position, Some}
use Rattle.sl_ast.specs.Views.{items_of}
use Rattle.sl_faithful_accepted.specs.Laws.{IsShort}
use Rattle.sl_build.specs.Stands as sections
use Rattle.sl_decode.specs.Disassemblers as disassembler
use Rattle.sl_decode_choices.specs.Choices.{IsChoiceOf}
use Rattle.sl_decode_choices.specs.Choosers.{chosen}
use Rattle.sl_bind_compile.specs.Compiled.{IsCompiled}
use Rattle.sl_decode_meaning.specs.Actions.{address_bytes}
use Rattle.sl_decode_meaning.specs.Choices.{Choice}
use Rattle.sl_meaning_instruction.specs.Instructions.{Specification, specification_of}
use Rattle.sl_section_sizes.specs.Sizings.{lists_of}
use Rattle.sl_step.specs.declared.stepper.Stepper.{Stepper}

-- the specification that was compiled
abbrev pub specification_in : Stepper → Specification
specification_in x = specification_of (items_of x.compiled.now.bound.spec)
    x.compiled.now.bound.tables (lists_of x.compiled.now.bound.sizes.items)

-- which constructor is chosen
abbrev pub choice_in : Stepper → Choice
choice_in x = chosen x.disassembler.choosers

-- It decodes and builds the instructions of a specification that is accepted, and chooses the most
-- specific constructors.
pub record StandsFor (x : Stepper) : Type 0 where
  pub short : IsShort (items_of x.compiled.now.bound.spec)
  pub compiled : IsCompiled x.compiled.now
  pub decodes : disassembler.StandsFor x.disassembler (specification_in x).tables
      (specification_in x).constructors
  pub chooses : IsChoiceOf (specification_in x).tables (specification_in x).constructors
      (choice_in x)
  pub builds : sections.StandsFor x.sections (specification_in x)
  pub space : position (λ z. z.default) (specification_in x).tables.spaces ≡ Some x.space.0
  pub size : x.size.bytes ≡ address_bytes (specification_in x).tables
