-- view: the room of a sink.
use Rattle.std.specs.Prelude.{ℕ, ◌-◌, min, option_map, Option, Some, None}

-- how many of so many bytes fit
abbrev pub fitting : Option ℕ → ℕ → ℕ
fitting None count = count
fitting (Some room) count = min room count

-- the room behind so many bytes
abbrev pub room_after : Option ℕ → ℕ → Option ℕ
room_after room count = option_map (λ r. r - count) room
