-- meaning: places of a list, by their distance from one of its operations.
use Rattle.std.specs.Prelude.{ℕ, ◌+◌, ◌-◌, ◌^◌, ◌≤◌, if◌then◌else◌, nat_lt}
use Rattle.sl_pcode.specs.declared.varnode.Place2.{Place2}
use Rattle.sl_pcode.specs.declared.varnode.Place2.TheVariants.{Const, Unique, In}
use Rattle.sl_pcode.specs.declared.varnode.Varnode.{Varnode}

-- The place at a distance from one, which is a number of four bytes in two's complement. Nothing is before the first.
abbrev pub place_at : ℕ → ℕ → ℕ
place_at at distance = if nat_lt distance (2 ^ 31) then at + distance else at + distance - 2 ^ 32

-- The place at a distance is one of a list of `count` operations, or its end.
pub record IsWithin (at count distance : ℕ) : Type 0 where
  pub not_before : 2 ^ 31 ≤ distance → 2 ^ 32 ≤ at + distance
  pub not_behind : place_at at distance ≤ count

-- A target that is a place of the list is one of its places, or its end.
abbrev pub LeadsWithinAt : ℕ → ℕ → Place2 → ℕ → Type 0
LeadsWithinAt at count Const distance = IsWithin at count distance
LeadsWithinAt at count Unique offset = Unit {0}
LeadsWithinAt at count (In space) offset = Unit {0}

abbrev pub LeadsWithin : ℕ → ℕ → Varnode → Type 0
LeadsWithin at count target = LeadsWithinAt at count target.place target.offset
