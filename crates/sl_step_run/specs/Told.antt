-- view: what is told of the registers and of a list of changes.
use Rattle.std.specs.Prelude.{◌≡◌, ℕ, ◌<◌, if◌then◌else◌, List, [], ◌∷◌, ◌++◌}
use Rattle.std.specs.Prelude.{Option, None, Some, length, map, slice_get}
use Rattle.sl_decode_meaning.specs.Actions.{address_bytes}
use Rattle.sl_step_run.specs.Executing.{stopped_by}
use Rattle.sl_step_run.specs.RunLines.{change_line, counter_line, fault_line}
use Rattle.sl_step_run.specs.RunLines.{is_context, register_line, register_lines, steps_line}
use Rattle.sl_step_run.specs.declared.execution.Execution.{Execution}
use Rattle.sl_spec.specs.Tables.{Register, Space}
use Rattle.sl_spec.specs.declared.definitions.SpaceKind.{SpaceKind}
use Rattle.sl_spec.specs.declared.definitions.SpaceKind.TheVariants as kind
use Rattle.sl_spec.specs.declared.tables.Tables.{Tables}
use Rattle.sl_word.specs.Bytes.{address_sizes, byte_at, endian_of}
use Rattle.sl_word.specs.Changes.{ListsChanges}
use Rattle.sl_word.specs.Memories.{Memory}
use Rattle.sl_word.specs.declared.state.Change.{Change}
use Rattle.sl_word.specs.declared.state.State.{State}

-- The state has the specification's order of bytes and its spaces.
pub record HasSpacesOf (t : Tables) (state : State) : Type 0 where
  pub endian : endian_of state ≡ t.endian
  pub sizes : address_sizes state ≡ map (λ s. s.size) t.spaces

-- Each register is in one of the spaces.
abbrev pub RegistersAreInSpaces : Tables → Type 0
RegistersAreInSpaces t = (k : ℕ) (r : Register) → slice_get t.registers k ≡ Some r
    → r.space < length t.spaces

-- the line of a register of this number; none of the context's
abbrev pub numbered_line : Tables → Memory → (number : ℕ) → Register → List ℕ
numbered_line t m number r =
    if is_context t.context number then [] else register_line t m r

-- the line of a change of a space; none of one with registers
abbrev pub told_by : SpaceKind → Space → Change → List ℕ
told_by kind.Register s c = []
told_by _ s c = change_line s c.offset c.byte

abbrev pub told_in : Option Space → Change → List ℕ
told_in None c = []
told_in (Some s) c = told_by s.kind s c

abbrev pub told_line : List Space → Change → List ℕ
told_line ss c = told_in (slice_get ss c.space.0) c

abbrev pub told_lines : List Space → List Change → List ℕ
told_lines ss [] = []
told_lines ss (c ∷ cs) = told_line ss c ++ told_lines ss cs

-- ---- the whole

-- The text tells what an execution came to: the lines of a list of the changes among them.
pub record IsTold (t : Tables) (opening : State) (e : Execution) (text : List ℕ) : Type 0 where
  pub changes : List Change
  pub listed : ListsChanges opening e.machine.state changes
  pub text_is : text ≡ steps_line e.ran ++ (counter_line (address_bytes t) e.machine.counter
      ++ (register_lines t (byte_at e.machine.state) 0 t.registers
      ++ (told_lines t.spaces changes ++ fault_line t (stopped_by e.fault))))
