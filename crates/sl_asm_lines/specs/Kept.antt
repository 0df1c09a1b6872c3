-- view: lines of a listing, as they are kept.
use Rattle.std.specs.Prelude.{◌≡◌, ℕ, List, drop, length, map}
use Rattle.sl_asm_lines.specs.Lines.{Line, Shape, bytes_of, line_text, shape_of}
use Rattle.sl_asm_lines.specs.Reading.{IsBadAddress, IsBadLine, IsFront, IsRead}
use Rattle.sl_asm_lines.specs.declared.front.Front.{Front}
use Rattle.sl_asm_lines.specs.declared.listing.EditedListing.{EditedListing}
use Rattle.sl_asm_lines.specs.declared.listing.ShownLine.{ShownLine}
use Rattle.sl_asm_lines.specs.declared.faults.LineFault.{LineFault}
use Rattle.sl_asm_lines.specs.declared.faults.LineFault.TheVariants.{BadAddress, BadLine, NoEncoding, Undecided}

-- The bytes of all lines lie in one list, and what else they tell beside it.
abbrev pub kept_shape : ShownLine → Shape
kept_shape l = record { count = l.count; text = l.text.now }

pub record AreKept (image : List ℕ) (kept : List ShownLine) (lines : List Line) : Type 0 where
  pub image_is : image ≡ bytes_of lines
  pub shapes : map kept_shape kept ≡ map shape_of lines

-- The text begins with a line that is kept so, and goes on after so many bytes.
abbrev pub IsFrontKept : ℕ → List ℕ → List ℕ → Front → Type 0
IsFrontKept size text bytes f = (l : Line) × IsFront size text f.address l (drop f.length text)
    × (bytes ≡ l.bytes) × (f.text.now ≡ l.text) × (f.length ≡ length (line_text size f.address l))

-- The text is read as lines that are kept.
pub record IsKept (size : ℕ) (text : List ℕ) (listing : EditedListing) : Type 0 where
  pub lines : List Line
  pub is_read : IsRead size text listing.base lines
  pub are_kept : AreKept listing.image.items listing.lines.items lines

-- It has a line that can't be read.
abbrev pub IsFault : ℕ → List ℕ → ℕ → LineFault → Type 0
IsFault size text number BadLine = IsBadLine size text number
IsFault size text number BadAddress = IsBadAddress size text number
IsFault size text number NoEncoding = ⊥
IsFault size text number Undecided = ⊥
