-- step: the blocks round a constructor, and for which constructors the steps of their actions are
-- right.
use Rattle.std.specs.Prelude.{◌≡◌, ◌++◌, ◌∷◌, [], ℕ, ◌≤◌, ◌-◌, List, length, map, take, ⊤}
use Rattle.std.specs.Prelude.{Option, None, Some, slice_get}
use Rattle.std.specs.List.{flat_map}
use Rattle.sl_ast.specs.Trees.{Head}
use Rattle.sl_ast.specs.Unfolding.{written}
use Rattle.sl_ast.specs.Views.{head_of}
use Rattle.sl_decode_leaves.specs.Extents.{leaves_at}
use Rattle.sl_decode_leaves.specs.declared.leaves.Leaf as l
use Rattle.sl_decode_plan.specs.Settled.{IsInside}
use Rattle.sl_decode_plan.specs.Rights.{AreSteps}
use Rattle.sl_decode_plan.specs.Uses.{ReadAsBefore}
use Rattle.sl_decode_plan.specs.declared.open_blocks.OpenBlock.{OpenBlock}
use Rattle.sl_decode_plan.specs.declared.uses.Used.{Used}
use Rattle.sl_spec.specs.Numbers.{AreTold}
use Rattle.sl_spec.specs.Tables.{Operand}
use Rattle.sl_spec.specs.declared.tables.Tables.{Tables}
use Rattle.sl_spec.specs.declared.unfolded.Around.{Around}

-- the names of a block's pattern
abbrev pub leaves_of : OpenBlock → List l.Leaf
leaves_of x = x.leaves.value.leaves.items

-- those of blocks, one inside the other
abbrev pub front_of : List OpenBlock → List l.Leaf
front_of blocks = flat_map leaves_of blocks

-- The steps of a block are right for all constructors inside for which its unsettled names are as
-- before; those that are left from the block round it then are as before too.
abbrev pub IsRight : Tables → Head → List l.Leaf → List Used → OpenBlock → Type 0
IsRight t h front outer x = (os : List Operand) (ls : List l.Leaf) → IsInside t front os ls
    → ReadAsBefore t os ls x.unsettled
    → ReadAsBefore t os ls outer × AreSteps t os ls (written h.actions) x.steps

-- So are those of blocks inside others, where numbers tell heads.
abbrev pub AreRightInside : Tables → (ℕ → Head) → List l.Leaf → List Used → List OpenBlock → Type 0
AreRightInside t head_at front outer [] = ⊤
AreRightInside t head_at front outer (x ∷ xs) =
    IsRight t (head_at x.number) (front ++ leaves_of x) outer x
    × AreRightInside t head_at (front ++ leaves_of x) x.unsettled xs

abbrev pub AreRight : Tables → (ℕ → Head) → List OpenBlock → Type 0
AreRight t head_at blocks = AreRightInside t head_at [] [] blocks

-- the unsettled names of a block, if there is one
abbrev pub unsettled_of : Option OpenBlock → List Used
unsettled_of None = []
unsettled_of (Some x) = x.unsettled

-- those of the innermost one
abbrev pub innermost : List OpenBlock → List Used
innermost blocks = unsettled_of (slice_get blocks (length blocks - 1))

-- They are right where numbers tell the heads of these blocks.
abbrev pub AreRightFor : Tables → List Around → List OpenBlock → Type 0
AreRightFor t heads blocks = (head_at : ℕ → Head) × AreTold head_at heads × AreRight t head_at blocks

-- They stay right, however numbers tell the heads of these blocks.
abbrev pub StayRight : Tables → List Around → List OpenBlock → List OpenBlock → Type 0
StayRight t heads old new = (head_at : ℕ → Head) → AreTold head_at heads → AreRight t head_at old
    → AreRight t head_at new

-- They are right, whatever the tables are and whatever heads there are.
abbrev pub AreRightAnyway : List OpenBlock → Type 0
AreRightAnyway blocks = (t : Tables) (head_at : ℕ → Head) → AreRight t head_at blocks

-- Names stand at the same places, whatever the lengths of operands are.
abbrev pub StandAlike : List l.Leaf → List l.Leaf → Type 0
StandAlike some others = (lengths : List ℕ) → leaves_at lengths some ≡ leaves_at lengths others

abbrev pub numbers_of : List OpenBlock → List ℕ
numbers_of blocks = map (λ x. x.number) blocks

-- So many blocks are those round a constructor, with patterns that are as they were.
pub record AreCommon (patterns : List l.Leaf) (blocks : List OpenBlock) (heads : List Around)
    (count : ℕ) : Type 0 where
  pub few : count ≤ length blocks
  pub there : count ≤ length heads
  pub numbers : numbers_of (take count blocks) ≡ map (λ a. a.number) (take count heads)
  pub alike : StandAlike (front_of (take count blocks)) patterns

-- So many are, and the unsettled names of the innermost one are as before.
pub record IsFront (t : Tables) (os : List Operand) (ls : List l.Leaf) (patterns : List l.Leaf)
    (blocks : List OpenBlock) (heads : List Around) (count : ℕ) : Type 0 where
  pub common : AreCommon patterns blocks heads count
  pub unsettled : ReadAsBefore t os ls (innermost (take count blocks))

-- A block was opened inside another one, of which these names are left: its steps are those of its
-- actions, and right.
pub record IsOpened (t : Tables) (os : List Operand) (ls front its : List l.Leaf) (outer : List Used)
    (a : Around) (x : OpenBlock) : Type 0 where
  pub number : x.number ≡ a.number
  pub leaves : leaves_of x ≡ its
  pub steps : AreSteps t os ls (written (head_of a.head.now).actions) x.steps
  pub unsettled : ReadAsBefore t os ls x.unsettled
  pub right : IsRight t (head_of a.head.now) front outer x

-- The steps of these blocks, the outermost first, are those of the actions of the first of these
-- heads.
abbrev pub AreStepsOf : Tables → List Operand → List l.Leaf → List OpenBlock → List Around → Type 0
AreStepsOf t os ls [] heads = ⊤
AreStepsOf t os ls (x ∷ xs) [] = ⊥
AreStepsOf t os ls (x ∷ xs) (a ∷ heads) =
    AreSteps t os ls (written (head_of a.head.now).actions) x.steps × AreStepsOf t os ls xs heads

-- The steps of the blocks are those of the first of these heads, for this constructor, and the blocks
-- stay right; how many there are is open.
pub record AreEntered (t : Tables) (os : List Operand) (ls : List l.Leaf) (heads : List Around)
    (old new : List OpenBlock) : Type 0 where
  pub steps : AreStepsOf t os ls new heads
  pub kept : StayRight t heads old new
