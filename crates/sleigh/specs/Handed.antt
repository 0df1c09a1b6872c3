-- step: what stands in the sink behind the one that gathers.
use Rattle.std.specs.Prelude.{◌≡◌, ◌⊎◌, ⊤}
use Rattle.sl_tool.specs.declared.status.Status.{Status}
use Rattle.sl_tool.specs.declared.status.Status.TheVariants.{Done, Refused, Usage, Stopped}
use Rattle.sl_tool.specs.declared.status.Status.TheVariants.{ReadFault, WriteFault, NoMemory}

-- The status says that the whole text that is due was written.
abbrev pub HasWhole : Status → Type 0
HasWhole Done = ⊤
HasWhole Refused = ⊤
HasWhole Usage = ⊤
HasWhole ReadFault = ⊥
HasWhole WriteFault = ⊥
HasWhole NoMemory = ⊥
HasWhole Stopped = ⊤

-- The status stays where all is handed on, else it says why it isn't.
abbrev pub IsHanded : (status result : Status) (handed : Type 0) → Type 0
IsHanded status result handed = ((result ≡ status) × handed) ⊎ ((result ≡ WriteFault) ⊎ (result ≡ NoMemory))
