-- view: bytes with others over some of them.
use Rattle.std.specs.Prelude.{if◌then◌else◌, ◌&&◌, ◌-◌, nat_le, nat_lt, ℕ, ◌+◌}

-- Bytes with `count` others from a place on, the first of which is that at `from`.
abbrev pub with_run : ℕ → ℕ → ℕ → (ℕ → ℕ) → (ℕ → ℕ) → ℕ → ℕ
with_run place from count byte bytes k =
    if nat_le place k && nat_lt k (place + count) then byte (from + (k - place)) else bytes k
