-- view: what bytes a state has, in spaces whose addresses have a size, and what a write changes.
use Rattle.std.specs.Prelude.{◌≡◌, ◌≢◌, ℕ, ◌+◌, ◌%◌, ◌^◌, List, map, slice_get, slice_index}
use Rattle.std.specs.Option.{option_map_or}
use Rattle.sl_word.specs.declared.word.Endian.{Endian}
use Rattle.sl_word.specs.Layout.{Puts, number_of}
use Rattle.sl_word.specs.Pages.{byte_in}
use Rattle.sl_word.specs.declared.space.Space.{Space}
use Rattle.sl_word.specs.declared.state.State.{State}

-- The byte at an offset of one of several spaces.
abbrev pub byte_among : List Space → ℕ → ℕ → ℕ
byte_among spaces space offset = option_map_or (λ one. byte_in one offset) (slice_get spaces space) 0

-- The byte at an offset of a space of a state.
unfoldable pub byte_at : State → ℕ → ℕ → ℕ
byte_at state space offset = byte_among state.spaces.items space offset

-- How many bytes an address has in each space.
unfoldable pub address_sizes : State → List ℕ
address_sizes state = map (λ one. one.size.bytes) state.spaces.items

abbrev pub address_size : State → ℕ → ℕ
address_size state space = slice_index (address_sizes state) space

unfoldable pub endian_of : State → Endian
endian_of state = state.endian

-- The number that so many bytes from an offset on make, round the end of the space.
abbrev pub number_at : State → ℕ → ℕ → ℕ → ℕ
number_at state space offset count =
    number_of (endian_of state) (λ i. byte_at state space ((offset + i) % 256 ^ address_size state space)) count

-- Of one space, the new state has these bytes from an offset on, round its end, and all others as they were.
abbrev pub PutsBytes : State → State → ℕ → ℕ → ℕ → (ℕ → ℕ) → Type 0
PutsBytes old new space offset count byte =
    Puts (256 ^ address_size old space) offset count byte (byte_at old space) (byte_at new space)

-- Two states have the same order of bytes and the same spaces, with the same byte at each offset but of this space.
pub record KeepsOthers (old new : State) (space : ℕ) : Type 0 where
  pub endian : endian_of new ≡ endian_of old
  pub sizes : address_sizes new ≡ address_sizes old
  pub bytes : (other offset : ℕ) → other ≢ space → byte_at new other offset ≡ byte_at old other offset

-- Two states have the same order of bytes and the same spaces, with the same byte at each offset.
pub record IsSame (old new : State) : Type 0 where
  pub endian : endian_of new ≡ endian_of old
  pub sizes : address_sizes new ≡ address_sizes old
  pub bytes : (space offset : ℕ) → byte_at new space offset ≡ byte_at old space offset
