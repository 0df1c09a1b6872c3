-- step: what a function hands on that may meet a broken rule, and what was made of blocks.
use Rattle.std.specs.Prelude.{◌≡◌, ℕ, List, ◌∷◌, ◌++◌, Some, Result, Ok, Err}
use Rattle.sl_ast.specs.Trees.{Head, Item, constructor}
use Rattle.sl_ast.specs.Unfolding.{Placed, unfolded_from}
use Rattle.sl_bind.specs.Verdict.{Broken}
use Rattle.sl_bind.specs.declared.stop.Stop.{Stop}
use Rattle.sl_bind.specs.declared.stop.Stop.TheVariants.{Rule, NoMemory}
use Rattle.sl_spec_constructors.specs.Made.{IsMade}
use Rattle.sl_spec_constructors.specs.declared.made.MadeOfBlocks.{MadeOfBlocks}
use Rattle.sl_spec_rules.specs.declared.fault.Fault.{Fault}
use Rattle.sl_spec_rules.specs.declared.fault.Fault.TheVariants as fault
use Rattle.sl_spec.specs.Numbers.{AreToldOf}
use Rattle.sl_spec.specs.Tables.{Table}
use Rattle.sl_spec.specs.Unfolded.{placed, unfolded_one}
use Rattle.sl_spec.specs.declared.tables.Tables.{Tables}
use Rattle.sl_spec.specs.declared.unfolded.Unfolded.{Unfolded}

-- The rule is broken by this item, unless memory ran out.
abbrev pub FailsAt : {Y : Type 0} → Stop → Result Y Broken → Type 0
FailsAt (Rule rule item) there = there ≡ Err (rule, item)
FailsAt NoMemory there = Unit {0}

-- What a function returned, seen by a view, is what there is, unless memory ran out.
abbrev pub GivesAt : {X Y : Type 0} → (X → Y) → Result X Stop → Result Y Broken → Type 0
GivesAt view (Ok x) there = there ≡ Ok (view x)
GivesAt view (Err stop) there = FailsAt stop there

-- a fault of the item of this number
abbrev pub stop_at : ℕ → Fault → Stop
stop_at n (fault.Rule rule) = Rule rule (Some n)
stop_at n fault.NoMemory = NoMemory

-- a constructor that the program keeps, as an item
abbrev pub constructor_item : Unfolded → Placed Item
constructor_item u = ((placed u).0, constructor (placed u).1)

-- The items behind this one are numbered from `next` on.
abbrev pub GoesOn : ℕ → Item → ℕ → Type 0
GoesOn number item next = (items : List Item)
    → unfolded_from number (item ∷ items) ≡ unfolded_one number item ++ unfolded_from next items

-- It is right where numbers tell the heads of the blocks round all these constructors, by all tables
-- of the text and what is defined so far.
abbrev pub IsMadeForAll : List Table → Tables → List Unfolded → MadeOfBlocks → Type 0
IsMadeForAll tables t us made =
    (head_at : ℕ → Head) × AreToldOf head_at us × IsMade tables t head_at made
