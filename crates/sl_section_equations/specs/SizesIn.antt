-- meaning: sizes of addresses and of operands, by number.
use Rattle.std.specs.Prelude.{ℕ, List, Option, Some, None, option_and_then, slice_get, unwrap_or}

-- the size of the addresses of a space, of the default space where none is named
abbrev pub address_in : List ℕ → (default : ℕ) → Option ℕ → ℕ
address_in spaces default None = default
address_in spaces default (Some space) = unwrap_or (slice_get spaces space) default

-- what a list of sizes has under a number; there is none past its end
abbrev pub size_in : List (Option ℕ) → ℕ → Option ℕ
size_in sizes i = option_and_then (λ n. n) (slice_get sizes i)
