-- view: what was made of blocks is right for their heads.
use Rattle.std.specs.Prelude.{ℕ, List}
use Rattle.sl_ast.specs.Trees.{Head}
use Rattle.sl_spec.specs.Numbers.{AreMade, AreTold}
use Rattle.sl_spec.specs.Tables.{Table}
use Rattle.sl_spec.specs.declared.tables.Tables.{Tables}
use Rattle.sl_spec.specs.declared.unfolded.Around.{Around}
use Rattle.sl_spec_actions.specs.Blocks.{AreRight}
use Rattle.sl_spec_constructors.specs.Facts.{AreOfHead}
use Rattle.sl_spec_constructors.specs.declared.made.MadeOfBlocks.{MadeOfBlocks}

-- It is right for the heads that numbers tell, by all tables of the text and what is defined so far.
pub record IsMade (tables : List Table) (t : Tables) (head_at : ℕ → Head) (made : MadeOfBlocks)
    : Type 0 where
  pub facts : AreMade (AreOfHead t.fields tables) head_at made.facts
  pub actions : AreRight tables t head_at made.actions

-- It is right where numbers tell the heads of these blocks.
abbrev pub IsMadeFor : List Table → Tables → List Around → MadeOfBlocks → Type 0
IsMadeFor tables t blocks made =
    (head_at : ℕ → Head) × AreTold head_at blocks × IsMade tables t head_at made

-- It stays right, however numbers tell the heads of these blocks.
abbrev pub StaysMade : List Table → Tables → List Around → MadeOfBlocks → MadeOfBlocks → Type 0
StaysMade tables t blocks old new = (head_at : ℕ → Head) → AreTold head_at blocks
    → IsMade tables t head_at old → IsMade tables t head_at new

-- It is right, whatever is known and whatever heads there are.
abbrev pub IsMadeAnyway : MadeOfBlocks → Type 0
IsMadeAnyway made = (tables : List Table) (t : Tables) (head_at : ℕ → Head)
    → IsMade tables t head_at made
