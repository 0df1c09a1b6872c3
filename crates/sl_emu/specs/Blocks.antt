-- view: bytes in blocks of 2^20 offsets each.
use Rattle.std.specs.declared.alloc.Global.{Global}
use Rattle.std.specs.Prelude.{ℕ, ◌/◌, ◌%◌, List, Vec, Option, Some, None, slice_get, slice_index}

-- A byte of a block, where there is one, and zeros behind it.
abbrev pub byte_in : Option (Vec ℕ Global) → ℕ → ℕ
byte_in None place = 0
byte_in (Some block) place = slice_index block.items place

-- The bytes of blocks of 2^20 offsets each.
abbrev pub bytes_in : List (Vec ℕ Global) → ℕ → ℕ
bytes_in blocks offset = byte_in (slice_get blocks (offset / 1048576)) (offset % 1048576)
