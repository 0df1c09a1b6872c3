-- view: files and a sink in memory, and their numbered calls.
use Rattle.std.specs.Prelude.{◌≡◌, ℕ, ◌-◌, List, ◌++◌, [], ◌∷◌, min, map, option_map, string_bytes, Contains, Option, Some, None, ◌⊎◌, Result, Ok, Err}
use Rattle.std.specs.BTreeMap.{get_by_text}
use Rattle.sl_outside.specs.Causes.{next_count}
use Rattle.sl_outside.specs.Folder.{Folder}
use Rattle.sl_outside.specs.declared.calls.Calls.{Calls}
use Rattle.sl_outside.specs.declared.memory.MemFiles.{MemFiles}
use Rattle.sl_outside.specs.declared.memory.MemSink.{MemSink}

-- ---- numbered calls

-- The next call is one of those that are to fail.
abbrev pub IsToFail : Calls → Type 0
IsToFail c = Contains c.failing.items (next_count c.made)

-- One call was made, and the same calls are to fail.
pub record CountsCall (old new : Calls) : Type 0 where
  pub made : new.made ≡ next_count old.made
  pub failing : new.failing.items ≡ old.failing.items

-- As many calls were made and have failed, and the same are to fail.
pub record IsUnchanged (old new : Calls) : Type 0 where
  pub made : new.made ≡ old.made
  pub faults : new.faults ≡ old.faults
  pub failing : new.failing.items ≡ old.failing.items

-- The call of this number is to fail, too.
pub record AddsFailing (old new : Calls) (call : ℕ) : Type 0 where
  pub made : new.made ≡ old.made
  pub faults : new.faults ≡ old.faults
  pub failing : new.failing.items ≡ old.failing.items ++ call ∷ []

-- ---- files

-- the files that were added
abbrev pub folder_of : MemFiles → Folder
folder_of m = λ name. option_map (λ v. v.items) (get_by_text m.files name)

-- the names that were asked for
abbrev pub names_of : MemFiles → List (List ℕ)
names_of m = map string_bytes m.asked.items

abbrev pub fetches_of : MemFiles → Calls
fetches_of m = m.calls

-- what `Files` sees of it
abbrev pub told_of : MemFiles → Option Folder
told_of m = Some (folder_of m)

abbrev pub asked_of : MemFiles → Option (List (List ℕ))
asked_of m = Some (names_of m)

abbrev pub failed_fetches : MemFiles → ℕ
failed_fetches m = (fetches_of m).faults

-- ---- the sink

-- all that was put
abbrev pub bytes_of : MemSink → List ℕ
bytes_of sink = sink.taken.items

abbrev pub puts_of : MemSink → Calls
puts_of sink = sink.calls

-- what `Sink` sees of it
abbrev pub taken_of : MemSink → Option (List ℕ)
taken_of sink = Some (bytes_of sink)

abbrev pub failed_puts : MemSink → ℕ
failed_puts sink = (puts_of sink).faults

abbrev pub count_of_puts : MemSink → ℕ
count_of_puts sink = (puts_of sink).made

-- how many bytes more the sink takes, where it has a bound
abbrev pub room_of : MemSink → Option ℕ
room_of sink = sink.room

-- The next put is to fail, or no room is left.
abbrev pub PutFails : MemSink → Type 0
PutFails sink = IsToFail (puts_of sink) ⊎ (room_of sink ≡ Some 0)
