-- step: what was written of what is due, and how many operations ran.
use Rattle.std.specs.Prelude.{◌≡◌, ℕ, ◌⊎◌, List, [], take, Option, Result, Ok, Err}
use Rattle.std.specs.Io.KnownBytes.{Appends}
use Rattle.sl_tool.specs.Answers.{Due}
use Rattle.sl_tool.specs.Endings.{Shown, shown}
use Rattle.sl_tool.specs.declared.status.Ending.{Ending}
use Rattle.sl_tool_stages.specs.declared.halt.Halt.{Halt}
use Rattle.sl_tool_stages.specs.declared.halt.Halt.TheVariants.{Refused, ReadFault}
use Rattle.sl_tool_stages.specs.declared.halt.Halt.TheVariants.{WriteFault, NoMemory}
use Rattle.sl_tool_stages.specs.declared.refusal.Refusal.{Refusal}

-- No operation ran.
abbrev pub RanNone : (ran : ℕ) → Type 0
RanNone ran = ran ≡ 0

-- The first bytes of a text that is due were written, and the count grew as it says.
abbrev pub StreamsFront : Due → Option (List ℕ) → Option (List ℕ) → (Grown : ℕ → Type 0) → Type 0
StreamsFront due old new Grown =
    (s : Shown) × (count : ℕ) × due s × Appends old new (take count s.text) × Grown s.ran

-- What a command wrote of what is due: the whole text, or, where the writing failed or memory ran
-- out, the first bytes of it. Where something of it was written, the count grew as it says.
abbrev pub Streams : Due → Option (List ℕ) → Option (List ℕ) → (Grown : ℕ → Type 0)
    → Result Ending Halt → Type 0
Streams due old new Grown (Ok ending) = (text : List ℕ) × (ran : ℕ)
    × due (shown ending text ran) × Appends old new text × Grown ran
Streams due old new Grown (Err (Refused x)) = ⊥
Streams due old new Grown (Err ReadFault) = ⊥
Streams due old new Grown (Err WriteFault) = StreamsFront due old new Grown
Streams due old new Grown (Err NoMemory) = Appends old new [] ⊎ StreamsFront due old new Grown

-- The first bytes of a text that is shown were written, and the count grew as it says.
abbrev pub WritesFront : (Result Shown Refusal → Type 0) → Option (List ℕ) → Option (List ℕ)
    → (Grown : ℕ → Type 0) → Type 0
WritesFront S old new Grown = (s : Shown) × (count : ℕ) × S (Ok s)
    × Appends old new (take count s.text) × Grown s.ran

-- What was written of a result of the stage: the whole text at an ending; nothing at a refusal and
-- where a file could not be read, where no operation ran; and otherwise the first bytes. The count
-- grew as the result says, but where memory ran out before anything was written.
abbrev pub Writes : (Result Shown Refusal → Type 0) → Option (List ℕ) → Option (List ℕ)
    → (Grown : ℕ → Type 0) → Result Ending Halt → Type 0
Writes S old new Grown (Ok ending) = (text : List ℕ) × (ran : ℕ)
    × S (Ok (shown ending text ran)) × Appends old new text × Grown ran
Writes S old new Grown (Err (Refused x)) = S (Err x) × Appends old new [] × Grown 0
Writes S old new Grown (Err ReadFault) = Appends old new [] × Grown 0
Writes S old new Grown (Err WriteFault) = WritesFront S old new Grown
Writes S old new Grown (Err NoMemory) = Appends old new [] ⊎ WritesFront S old new Grown
