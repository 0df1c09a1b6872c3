-- law: the machine in single steps, and what its runs have to do with those of the definition by recursion.
use Rattle.std.specs.Prelude.{◌≡◌, ◌↔◌, ℕ, ◌+◌, ◌*◌, ◌≤◌, if◌then◌else◌, nat_lt, slice_get, length, List, Option, Some, None}
use Rattle.sl_word.specs.Memories.{Memory}
use Rattle.sl_word.specs.declared.word.Endian.{Endian}
use Rattle.sl_pcode.specs.Effects.{effect_of}
use Rattle.sl_pcode.specs.Machine.{Ending, at_end, jumps_too_often, jump_limit, op_does, run_of, EndsSo, Temporaries}
use Rattle.sl_pcode.specs.Targets.{place_at}
use Rattle.sl_pcode.specs.declared.operation.Op.{Op}

-- A configuration: the place of the next operation, how many jumps inside the list were taken, memory and temporary bytes.
pub record Configuration : Type 0 where
  pub at : ℕ
  pub taken : ℕ
  pub memory : Memory
  pub temporaries : Temporaries

-- A run begins at the first operation, with temporary bytes that are 0.
abbrev pub start_of : Memory → Configuration
start_of m = record { at = 0; taken = 0; memory = m; temporaries = λ offset. 0 }

-- What a step comes to: another configuration, or the end of the run. Where it leaves the list the operation has run whole.
pub data Outcome : Type 0 where
  goes_on : (next : Configuration) → Outcome
  leaves : (ending : Ending) → Outcome
  stops : (ending : Ending) → Outcome

-- A jump inside the list to a place, where fewer than the limit were taken.
abbrev pub jumped : ℕ → Configuration → Outcome
jumped place c =
    if nat_lt c.taken jump_limit
    then goes_on (record { at = place; taken = c.taken + 1; memory = c.memory; temporaries = c.temporaries })
    else stops jumps_too_often

-- A machine's order of bytes, how many bytes an address has in each space, and a list.
module _ (endian : Endian) (sizes : List ℕ) (ops : List Op) where
  -- One step: what the operation at the place does, or the end behind the last one.
  abbrev pub stepped : Configuration → Option Op → Outcome
  stepped c None = stops at_end
  stepped c (Some op) =
      op_does endian sizes (effect_of op) c.memory c.temporaries
      (λ m t. goes_on (record { at = c.at + 1; taken = c.taken; memory = m; temporaries = t }))
      (λ distance. jumped (place_at c.at distance) c) (λ ending. leaves ending) (λ ending. stops ending)

  abbrev pub step_of : Configuration → Outcome
  step_of c = stepped c (slice_get ops c.at)

  -- Steps from a configuration run so many operations whole, end so, and leave this memory.
  pub data Runs : Configuration → ℕ → Ending → Memory → Type 0 where
    stop : (c : Configuration) (e : Ending) → step_of c ≡ stops e → Runs c 0 e c.memory
    leave : (c : Configuration) (e : Ending) → step_of c ≡ leaves e → Runs c 1 e c.memory
    go : (c d : Configuration) (n : ℕ) (e : Ending) (m : Memory) → step_of c ≡ goes_on d → Runs d n e m → Runs c (n + 1) e m

  -- Steps from the start end so exactly where the run by recursion does.
  abbrev pub AgreesWithSteps : Memory → Type 0
  AgreesWithSteps m = (n : ℕ) (e : Ending) (m' : Memory) → Runs (start_of m) n e m' ↔ EndsSo n (run_of endian sizes ops m) e m'

  -- Steps from the start end, and in one way alone. Each jump goes through the list at most once more.
  pub record HasOneResult (m : Memory) : Type 0 where
    pub count : ℕ
    pub ending : Ending
    pub memory : Memory
    pub ends : Runs (start_of m) count ending memory
    pub bounded : count ≤ jump_limit * (length ops + 1) + length ops
    pub only : (n : ℕ) (e : Ending) (m' : Memory) → Runs (start_of m) n e m' → (n ≡ count) × (e ≡ ending) × (m' ≡ memory)

-- The laws, of all lists.
abbrev pub EachRunIsSteps : Type 0
EachRunIsSteps = (endian : Endian) (sizes : List ℕ) (ops : List Op) (m : Memory) → AgreesWithSteps endian sizes ops m

abbrev pub EachListHasOneResult : Type 0
EachListHasOneResult = (endian : Endian) (sizes : List ℕ) (ops : List Op) (m : Memory) → HasOneResult endian sizes ops m
