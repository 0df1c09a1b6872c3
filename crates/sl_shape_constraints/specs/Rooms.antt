-- step: how many bits there are.
use Rattle.std.specs.Prelude.{ℕ, ◌*◌, ◌<◌, ◌≤◌}
use Rattle.sl_shape_constraints.specs.declared.homes.Home.{Home}
use Rattle.sl_shape_constraints.specs.declared.homes.Home.TheVariants.{Context, Token}

abbrev pub room : Home → ℕ
room Context = 64
room (Token order bytes) = 8 * bytes

-- There is a bit, none from 64 on, and no room for more than 64.
abbrev pub Fits : Home → ℕ → ℕ → Type 0
Fits home low high = (low ≤ high) × (high < 64) × (room home ≤ 64)
