-- meaning: the run of an image by a specification, and its text.
use Rattle.std.specs.Prelude.{◌≡◌, ℕ, ◌+◌, ◌-◌, ◌==◌, ◌<◌, ◌≤◌, ◌&&◌, nat_le, Bool, is_some}
use Rattle.std.specs.Prelude.{List, [], ◌++◌, Option, if◌then◌else◌, slice_index}
use Rattle.sl_ast.specs.Trees.{Item}
use Rattle.sl_bind.specs.Binding.{constructors_of}
use Rattle.sl_decode_choices.specs.Choices.{IsChoiceOf}
use Rattle.sl_decode_meaning.specs.Actions.{address_bytes}
use Rattle.sl_decode_meaning.specs.Choices.{Choice}
use Rattle.sl_meaning_instruction.specs.Instructions.{default_space, specification_of}
use Rattle.sl_list_instructions.specs.Listing.{Image}
use Rattle.sl_step_run.specs.RunLines.{TellsSpaces, counter_line, fault_line, register_lines}
use Rattle.sl_step_run.specs.RunLines.{steps_line}
use Rattle.sl_spec.specs.declared.tables.Tables.{Tables}
use Rattle.sl_step_meaning.specs.Counted.{IsCountedRun}
use Rattle.sl_step_meaning.specs.Steps.{IsRun, Machine, StepFault}
use Rattle.sl_word.specs.Memories.{Memory}
use Rattle.sl_word.specs.declared.word.Size.{Size}

-- The base is an address, and so many bytes from it on have addresses.
pub record HasRoom (addresses base count : ℕ) : Type 0 where
  pub begins : base < addresses
  pub ends : base + count ≤ addresses

-- the memory before the first step: the image in the default space from its base on, and zeros
abbrev pub opening : Tables → Image → Memory
opening t i space offset = if space == default_space t && nat_le i.base offset
    then slice_index i.bytes (offset - i.base) else 0

-- the machine before the first step
abbrev pub opened : Tables → Image → Machine
opened t i = record { memory = opening t i; counter = i.base; commits = [] }

-- how a run ended: how many steps ended without a fault, the machine then, and the fault
pub record RunOutcome : Type 0 where
  pub ran : ℕ
  pub machine : Machine
  pub fault : Option StepFault

-- The text tells the outcome of an image's run: what the registers hold, and each byte that isn't
-- what it was.
pub record IsOutcomeText (t : Tables) (i : Image) (o : RunOutcome) (text : List ℕ) : Type 0 where
  pub changes : List ℕ
  pub changed : TellsSpaces (opening t i) o.machine.memory 0 t.spaces changes
  pub text_is : text ≡ steps_line o.ran ++ (counter_line (address_bytes t) o.machine.counter
      ++ (register_lines t o.machine.memory 0 t.registers ++ (changes ++ fault_line t o.fault)))

-- by the tables of a text and the sizes of its sections, for a number of steps at most
module _ (items : List Item) (t : Tables) (sizes : List (List Size)) (i : Image) (steps : ℕ) where
  -- The image runs to this outcome. At each table the most specific constructor that matches is
  -- chosen.
  pub record RunsTo (o : RunOutcome) : Type 0 where
    pub choose : Choice
    pub is_choice : IsChoiceOf t (constructors_of items) choose
    pub runs : IsRun (specification_of items t sizes) choose i.start steps (opened t i)
        o.ran o.machine o.fault

  -- So it does, and so many operations of p-code run in all its instructions.
  pub record RunsCountedTo (count : ℕ) (o : RunOutcome) : Type 0 where
    pub choose : Choice
    pub is_choice : IsChoiceOf t (constructors_of items) choose
    pub runs : IsCountedRun (specification_of items t sizes) choose i.start steps (opened t i)
        o.ran count o.machine o.fault

  -- The text tells the run of the image, and whether it has stopped at a fault.
  pub record IsRunText (has_stopped : Bool) (text : List ℕ) : Type 0 where
    pub outcome : RunOutcome
    pub runs : RunsTo outcome
    pub tells : IsOutcomeText t i outcome text
    pub stopped_is : has_stopped ≡ is_some outcome.fault

  -- So it does, of a run in which so many operations of p-code run.
  pub record IsCountedRunText (count : ℕ) (has_stopped : Bool) (text : List ℕ) : Type 0 where
    pub outcome : RunOutcome
    pub runs : RunsCountedTo count outcome
    pub tells : IsOutcomeText t i outcome text
    pub stopped_is : has_stopped ≡ is_some outcome.fault
