-- view: the bytes that differ between two states, in their order.
use Rattle.std.specs.Prelude.{◌≡◌, ◌≢◌, ℕ, ◌^◌, ◌<◌, ◌⊎◌, List}
use Rattle.std.specs.List.{All, AllPairs, Contains}
use Rattle.sl_word.specs.declared.state.Change.{Change}
use Rattle.sl_word.specs.declared.state.State.{State}
use Rattle.sl_word.specs.Bytes.{byte_at}

-- An offset of one space comes before an offset of another, or before a later one of the same.
abbrev pub Precedes : ℕ → ℕ → ℕ → ℕ → Type 0
Precedes space offset other later = (space < other) ⊎ ((space ≡ other) × (offset < later))

-- The change that gives an offset of a space this byte.
abbrev pub change_of : ℕ → ℕ → ℕ → Change
change_of space offset byte = record { space = record { 0 = space }; offset = offset; byte = byte }

-- The bytes differ where the change says, and it has the new one.
abbrev pub IsChange : State → State → Change → Type 0
IsChange opening now change =
    (byte_at opening change.space.0 change.offset ≢ byte_at now change.space.0 change.offset)
    × (change.byte ≡ byte_at now change.space.0 change.offset)

-- The list has all bytes that differ between two states, by space and then offset.
pub record ListsChanges (opening now : State) (changes : List Change) : Type 0 where
  pub each : All (IsChange opening now) changes
  pub all : (space offset : ℕ) → offset < 2 ^ 64 → byte_at opening space offset ≢ byte_at now space offset → Contains changes (change_of space offset (byte_at now space offset))
  pub ordered : AllPairs (λ first second. Precedes first.space.0 first.offset second.space.0 second.offset) changes
