-- view: where two functions differ first, and what a walk over pages has listed.
use Rattle.std.specs.Prelude.{◌≡◌, ◌≢◌, ℕ, ◌^◌, ◌<◌, ◌≤◌, List, Option, Some, None}
use Rattle.std.specs.List.{All, AllPairs, Contains}
use Rattle.sl_word.specs.declared.state.Change.{Change}
use Rattle.sl_word.specs.declared.state.State.{State}
use Rattle.sl_word.specs.Bytes.{byte_at}
use Rattle.sl_word.specs.Changes.{IsChange, Precedes, change_of}

-- The first place from one up to an end at which two functions differ, if there is one.
abbrev pub IsFirstDifference : (ℕ → ℕ) → (ℕ → ℕ) → ℕ → ℕ → Option ℕ → Type 0
IsFirstDifference f g from end None = (k : ℕ) → from ≤ k → k < end → f k ≡ g k
IsFirstDifference f g from end (Some first) =
    (from ≤ first) × (first < end) × (f first ≢ g first) × ((k : ℕ) → from ≤ k → k < first → f k ≡ g k)

-- The first number from one on that there is a page of, if there is one.
abbrev pub IsFirstPage : (ℕ → Type 0) → ℕ → Option ℕ → Type 0
IsFirstPage Has from None = (k : ℕ) → from ≤ k → Has k → ⊥
IsFirstPage Has from (Some first) = (from ≤ first) × ((k : ℕ) → from ≤ k → k < first → Has k → ⊥)

-- The list has all bytes that differ between two states before a place, by space and then offset.
pub record ListsChangesBefore (opening now : State) (place_space place_offset : ℕ) (changes : List Change) : Type 0 where
  pub each : All (λ change. IsChange opening now change × Precedes change.space.0 change.offset place_space place_offset) changes
  pub all : (space offset : ℕ) → offset < 2 ^ 64 → Precedes space offset place_space place_offset → byte_at opening space offset ≢ byte_at now space offset → Contains changes (change_of space offset (byte_at now space offset))
  pub ordered : AllPairs (λ first second. Precedes first.space.0 first.offset second.space.0 second.offset) changes
