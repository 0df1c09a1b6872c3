-- view: which machine a machine of the program is.
use Rattle.std.specs.Prelude.{◌≡◌, ℕ, ◌^◌, ◌<◌, map}
use Rattle.sl_faithful_code.specs.Faithful.{AreBytes}
use Rattle.sl_decode_contexts.specs.Runs.{Stands}
use Rattle.sl_decode_meaning.specs.Actions.{address_bytes}
use Rattle.sl_spec.specs.declared.tables.Tables.{Tables}
use Rattle.sl_step.specs.declared.machine.Machine.{Machine}
use Rattle.sl_step_meaning.specs.Steps as steps
use Rattle.sl_word.specs.Bytes.{address_sizes, byte_at, endian_of}

-- It has this memory and this counter, and its contexts are those of these commits, where `start`
-- is the context before any commit.
pub record IsSeen (start : ℕ) (machine : Machine) (m : steps.Machine) : Type 0 where
  pub memory : byte_at machine.state ≡ m.memory
  pub counter : machine.counter ≡ m.counter
  pub contexts : Stands machine.contexts start m.commits

-- It is a machine of these tables: it has their order of bytes and their spaces in their order,
-- with a byte at each offset, and its counter is an address of the default space.
pub record Fits (t : Tables) (machine : Machine) : Type 0 where
  pub endian : endian_of machine.state ≡ t.endian
  pub sizes : address_sizes machine.state ≡ map (λ z. z.size) t.spaces
  pub bytes : AreBytes (byte_at machine.state)
  pub counter : machine.counter < 256 ^ address_bytes t
