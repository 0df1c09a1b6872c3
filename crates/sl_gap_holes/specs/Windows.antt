-- meaning: the points that lie some bytes behind others.
use Rattle.std.specs.Prelude.{◌≡◌, ◌-◌, ◌*◌, ◌/◌, ◌%◌, ◌^◌, ℕ}
use Rattle.sl_cube.specs.declared.Point.{Point}

-- the first 16 - place bytes of the second are the last ones of the first, and their contexts are equal
abbrev pub Follows : (place : ℕ) → Point → Point → Type 0
Follows place p q = (q.bytes / 2 ^ (8 * place) ≡ p.bytes % 2 ^ (128 - 8 * place)) × (q.context ≡ p.context)
