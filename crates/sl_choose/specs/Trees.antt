-- law: trees of tests of bits, at one point.
use Rattle.std.specs.Prelude.{◌≡◌, ℕ, ◌+◌, ◌-◌, ◌≤◌, ◌⊎◌, List, length, Contains}
use Rattle.sl_cube.specs.declared.Point.{Point}
use Rattle.sl_cube.specs.Points.{IsIn}
use Rattle.sl_cube.specs.Search.{Lacks}
use Rattle.sl_choose.specs.declared.Entry.{Entry}
use Rattle.sl_choose.specs.declared.Node.{Node, Leaf, Test'}
use Rattle.sl_cube_sets.specs.declared.CubeSet.{CubeSet}
use Rattle.sl_choose.specs.Order.{IsInOrder}
use Rattle.sl_choose.specs.Sides.{HasNoForced}
use Rattle.sl_choose.specs.Splits.{HasEntry, IsGrown, TellsApart}

-- The leaf has only given entries and each that has the point; and no bit is left that all fix and two differ in.
pub record IsLeafOf (sets : List CubeSet) (entries : List Entry) (p : Point) (leaf : List Entry) : Type 0 where
  pub among : (e : Entry) → Contains leaf e → Contains entries e
  pub all : (e : Entry) → Contains entries e → IsIn p e.cube → Contains leaf e
  pub in_order : IsInOrder sets leaf
  pub no_forced : HasNoForced leaf

-- The point leads to a leaf of the entries.
abbrev pub IsTreeOf : List CubeSet → Node → List Entry → Point → Type 0
IsTreeOf sets (Leaf es) entries p = IsLeafOf sets entries p es.items
IsTreeOf sets (Test' bits a low b high) entries p =
    (Lacks bits p → IsTreeOf sets low entries p) × ((Lacks bits p → ⊥) → IsTreeOf sets high entries p)

-- How many entries the leaves have.
abbrev pub entries_in : Node → ℕ
entries_in (Leaf es) = length es.items
entries_in (Test' bits a low b high) = entries_in low + entries_in high

-- The node tests the bits and has these children.
pub record IsTest (bits : Point) (low high node : Node) : Type 0 where
  pub size : entries_in node ≡ entries_in low + entries_in high
  pub grown : (share room : ℕ) → share ≤ room → TellsApart bits low high → IsGrown low share → IsGrown high (room - share) → IsGrown node room
  pub has : (e : Entry) → HasEntry low e ⊎ HasEntry high e → HasEntry node e
  pub tree : (sets : List CubeSet) (entries : List Entry) (p : Point) → (Lacks bits p → IsTreeOf sets low entries p) → ((Lacks bits p → ⊥) → IsTreeOf sets high entries p) → IsTreeOf sets node entries p
