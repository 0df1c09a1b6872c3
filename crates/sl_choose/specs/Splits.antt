-- law: trees whose tests tell cubes apart, and whose leaves can be split no further within the room for entries.
use Rattle.std.specs.Prelude.{ℕ, ◌+◌, ◌-◌, ◌<◌, ◌≤◌, ◌⊎◌, List, length, Contains}
use Rattle.sl_cube.specs.declared.Point.{Point}
use Rattle.sl_choose.specs.declared.Entry.{Entry}
use Rattle.sl_choose.specs.declared.Node.{Node, Leaf, Test'}
use Rattle.sl_choose.specs.Sides.{Covers, SetsNone, byte_bit, context_bit, has_count, lacks_count}

-- Each side of the bits has fewer entries, and both sides together fit the room.
pub record IsSplit (entries : List Entry) (bits : Point) (room : ℕ) : Type 0 where
  pub low_fewer : lacks_count bits entries < length entries
  pub high_fewer : has_count bits entries < length entries
  pub fit : lacks_count bits entries + has_count bits entries ≤ room

abbrev pub IsUnsplitByte : List Entry → ℕ → ℕ → Type 0
IsUnsplitByte entries room n = (k : ℕ) → k < n → IsSplit entries (byte_bit k) room → ⊥

abbrev pub IsUnsplitContext : List Entry → ℕ → ℕ → Type 0
IsUnsplitContext entries room n = (k : ℕ) → k < n → IsSplit entries (context_bit k) room → ⊥

-- No bit splits the entries within the room.
pub record IsUnsplit (entries : List Entry) (room : ℕ) : Type 0 where
  pub bytes : IsUnsplitByte entries room 128
  pub context : IsUnsplitContext entries room 64

-- The entry is in a leaf of the tree.
abbrev pub HasEntry : Node → Entry → Type 0
HasEntry (Leaf es) e = Contains es.items e
HasEntry (Test' bits a low b high) e = HasEntry low e ⊎ HasEntry high e

-- The bits tell cubes apart: one below the first child fixes all of them to 0, and one below the second fixes some to 1.
pub record TellsApart (bits : Point) (low high : Node) : Type 0 where
  pub clear : (e : Entry) × HasEntry low e × SetsNone e.cube bits × Covers e.cube bits
  pub set : (e : Entry) × HasEntry high e × (SetsNone e.cube bits → ⊥)

-- Each test tells cubes apart, the room is shared out among the leaves, and no bit splits a leaf within its share.
abbrev pub IsGrown : Node → ℕ → Type 0
IsGrown (Leaf es) room = IsUnsplit es.items room
IsGrown (Test' bits a low b high) room =
    TellsApart bits low high × ((share : ℕ) × (share ≤ room) × IsGrown low share × IsGrown high (room - share))
