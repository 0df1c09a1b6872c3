-- meaning: the bytes of a machine as a function, and whole numbers read and written in them.
use Rattle.std.specs.Prelude.{ℕ, ◌+◌, ◌-◌, ◌%◌, ◌^◌, ◌==◌, ◌&&◌, if◌then◌else◌, nat_lt, List, slice_index}
use Rattle.sl_word.specs.declared.word.Endian.{Endian}
use Rattle.sl_word.specs.Layout.{byte_of, number_of}

-- Bytes by space and offset.
abbrev pub Memory : Type 0
Memory = ℕ → ℕ → ℕ

-- How far an offset lies behind a base, round the end of a space of so many offsets.
abbrev pub distance : ℕ → ℕ → ℕ → ℕ
distance offsets base offset = (offset + (offsets - base % offsets)) % offsets

-- Bytes of a space of so many offsets, with `count` others from a base on, round its end.
abbrev pub with_bytes : ℕ → ℕ → ℕ → (ℕ → ℕ) → (ℕ → ℕ) → ℕ → ℕ
with_bytes offsets base count byte bytes offset =
    if nat_lt offset offsets && nat_lt (distance offsets base offset) count
    then byte (distance offsets base offset) else bytes offset

-- A machine's order of bytes, and how many bytes an address has in each space.
module _ (endian : Endian) (sizes : List ℕ) where
  -- How many offsets a space has.
  abbrev pub offsets_of : ℕ → ℕ
  offsets_of space = 256 ^ slice_index sizes space

  -- The number that `count` bytes of a space make from an offset on, round its end.
  abbrev pub loaded : Memory → ℕ → ℕ → ℕ → ℕ
  loaded m space offset count = number_of endian (λ i. m space ((offset + i) % offsets_of space)) count

  -- The memory with a number in `count` bytes of a space from an offset on, round its end.
  abbrev pub stored : Memory → ℕ → ℕ → ℕ → ℕ → Memory
  stored m space offset count number other =
      if other == space then with_bytes (offsets_of space) offset count (byte_of endian count number) (m space) else m other
