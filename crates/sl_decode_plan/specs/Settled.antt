-- step: what is the same in all constructors inside blocks.
use Rattle.std.specs.Prelude.{◌≡◌, ◌++◌, ℕ, List}
use Rattle.sl_decode_meaning.specs.Places.{Leaf}
use Rattle.sl_decode_leaves.specs.Blocks.{ArePlain}
use Rattle.sl_decode_leaves.specs.Extents.{leaves_at}
use Rattle.sl_decode_leaves.specs.declared.leaves.Leaf as l
use Rattle.sl_decode_plan.specs.Uses.{IsSameName, ReadAsBefore}
use Rattle.sl_decode_plan.specs.declared.uses.Used.{Used}
use Rattle.sl_spec.specs.Tables.{Name, Operand}
use Rattle.sl_spec.specs.declared.tables.Tables.{Tables}

-- The names of a pattern begin with these, whatever the lengths of operands are.
abbrev pub BeginsWith : List l.Leaf → List l.Leaf → Type 0
BeginsWith front ls = (rest : List ℕ → List Leaf)
    × ((lengths : List ℕ) → leaves_at lengths ls ≡ leaves_at lengths front ++ rest lengths)

-- A constructor inside blocks whose patterns have the names of the front: its operands that are named
-- like fields mean them, and its pattern's names begin with those.
abbrev pub IsInside : Tables → List l.Leaf → List Operand → List l.Leaf → Type 0
IsInside t front os ls = ArePlain t os × BeginsWith front ls

-- A name stands for the same inside these blocks, and gives the same.
abbrev pub IsSettled : Tables → List l.Leaf → Name → Type 0
IsSettled t front name = (os : List Operand) (ls : List l.Leaf) → IsInside t front os ls
    → (those : List Operand) (ms : List l.Leaf) → IsInside t front those ms
    → IsSameName t os ls name those ms

-- The new names are the old ones and what isn't settled of these: where the old ones and these are as
-- before, so are the new ones, and inside these blocks the other way round too.
abbrev pub AddsUnsettled : Tables → List l.Leaf → List Used → List Used → List Used → Type 0
AddsUnsettled t front used old new = (os : List Operand) (ls : List l.Leaf) → IsInside t front os ls
    → ReadAsBefore t os ls old → ReadAsBefore t os ls used → ReadAsBefore t os ls new
    × ((those : List Operand) (ms : List l.Leaf) → IsInside t front those ms
    → ReadAsBefore t those ms new → ReadAsBefore t those ms old × ReadAsBefore t those ms used)
