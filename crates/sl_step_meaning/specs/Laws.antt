-- law: that there is one next step of a machine, and one run of so many steps.
use Rattle.std.specs.Prelude.{◌≡◌, ℕ, Option}
use Rattle.sl_decode_meaning.specs.Choices.{Choice}
use Rattle.sl_meaning_instruction.specs.Instructions.{Specification}
use Rattle.sl_step_meaning.specs.Counted.{IsCountedRun}
use Rattle.sl_step_meaning.specs.Steps.{IsRun, IsStep, Machine, StepFault, Stepped}

-- A machine has one next step at most.
abbrev pub StepIsOne : Type 0
StepIsOne = (s : Specification) (choose : Choice) (start : ℕ) (m : Machine) (one other : Stepped)
    → IsStep s choose start m one → IsStep s choose start m other → one ≡ other

-- It has one.
abbrev pub SomeStep : Type 0
SomeStep = (s : Specification) (choose : Choice) (start : ℕ) (m : Machine)
    → (stepped : Stepped) × IsStep s choose start m stepped

-- Of so many steps there is one run at most: its number of instructions, the machine behind it, and
-- its fault.
abbrev pub RunIsOne : Type 0
RunIsOne = (s : Specification) (choose : Choice) (start most : ℕ) (m : Machine) (n k : ℕ)
    (last end : Machine) (fault other : Option StepFault)
    → IsRun s choose start most m n last fault → IsRun s choose start most m k end other
    → (n ≡ k) × (last ≡ end) × (fault ≡ other)

-- There is one.
abbrev pub SomeRun : Type 0
SomeRun = (s : Specification) (choose : Choice) (start most : ℕ) (m : Machine)
    → (n : ℕ) × (last : Machine) × (fault : Option StepFault)
    × IsRun s choose start most m n last fault

-- A run whose operations are counted is a run.
abbrev pub CountedAreRuns : Type 0
CountedAreRuns = (s : Specification) (choose : Choice) (start most : ℕ) (m : Machine) (n count : ℕ)
    (last : Machine) (fault : Option StepFault)
    → IsCountedRun s choose start most m n count last fault
    → IsRun s choose start most m n last fault
