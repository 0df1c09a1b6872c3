-- step: one more line of a text.
use Rattle.std.specs.Prelude.{ℕ, ◌+◌, ◌≤◌, List, [], ◌∷◌, drop, length}
use Rattle.sl_asm_lines.specs.Kept.{AreKept, IsFault}
use Rattle.sl_asm_lines.specs.Lines.{Line}
use Rattle.sl_asm_lines.specs.Reading.{BeginsBy}
use Rattle.sl_asm_lines.specs.declared.faults.LineFault.{LineFault}
use Rattle.sl_asm_lines.specs.declared.listing.EditedListing.{EditedListing}

-- the address of the first line, where one is added to some
abbrev pub base_after : List Line → ℕ → ℕ → ℕ
base_after [] base address = address
base_after (l ∷ ls) base address = base

-- Lines of a text are kept, and this is what comes after them.
pub record IsReadTo (size : ℕ) (text rest : List ℕ) (listing : EditedListing) : Type 0 where
  pub lines : List Line
  pub before : BeginsBy size text listing.base lines rest
  pub are_kept : AreKept listing.image.items listing.lines.items lines

-- A line is added, which has so many bytes of what is left of the text.
pub record TakesLine (size : ℕ) (rest : List ℕ) (old new : EditedListing) (count : ℕ) : Type 0 where
  pub some : 1 ≤ count
  pub within : count ≤ length rest
  pub goes_on : (text : List ℕ) → IsReadTo size text rest old → IsReadTo size text (drop count rest) new

-- After these lines the next one is at fault.
abbrev pub IsFaultAfter : ℕ → List ℕ → EditedListing → LineFault → Type 0
IsFaultAfter size rest listing fault = (text : List ℕ) → IsReadTo size text rest listing
    → IsFault size text (length listing.lines.items + 1) fault
