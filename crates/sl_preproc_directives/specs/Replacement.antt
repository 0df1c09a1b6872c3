-- meaning: replacement of `$(NAME)` in a line.
use Rattle.std.specs.Prelude.{ℕ, zero, suc, ◌==◌, List, [], ◌∷◌, ◌++◌, length, Option, Some, None, Result, Ok, Err, nat_lt, if◌then◌else◌}
use Rattle.sl_outside.specs.Folder.{size_limit}
use Rattle.sl_preproc_directives.specs.Parts.{◌>>=◌, name_at, byte_at}
use Rattle.sl_preproc_directives.specs.Definitions.{Values}
use Rattle.sl_preproc_directives.specs.Outcomes.{◌>>◌}
use Rattle.sl_preproc_directives.specs.declared.fault.Cause.{Cause}
use Rattle.sl_preproc_directives.specs.declared.fault.Cause.TheVariants.{TooLong, UndefinedName, ReplaceDepth}
use Rattle.sl_preproc_directives.specs.declared.page.LinePart.{LinePart}
use Rattle.sl_preproc_directives.specs.declared.page.LinePart.TheVariants.{Plain, Quoted, Comment}

-- ---- what is written

-- the part of a line that stands behind one byte more
abbrev pub after_byte : LinePart → ℕ → LinePart
after_byte Plain b = if b == 34 then Quoted else (if b == 35 then Comment else Plain)
after_byte Quoted b = if b == 34 then Plain else Quoted
after_byte Comment b = Comment

-- the expanded text so far, and the part of its last line that has been reached
pub record Page : Type 0 where
  pub text : List ℕ
  pub part : LinePart

abbrev pub Written : Type 0
Written = Result Page Cause

abbrev pub with_byte : ℕ → Page → Page
with_byte b page = record { text = page.text ++ b ∷ []; part = after_byte page.part b }

-- no expanded text has more bytes than a file may have
unfoldable pub put : ℕ → Page → Written
put b page = if nat_lt (length page.text) size_limit then Ok (with_byte b page) else Err TooLong

unfoldable pub put_all : List ℕ → Page → Written
put_all [] page = Ok page
put_all (b ∷ s) page = put b page >> put_all s

-- ---- what is read

-- a byte that stands for itself, or `$(NAME)`
pub data Piece : Type 0 where
  Byte : ℕ → Piece
  Name : List ℕ → Piece

-- the name of `$(NAME)` at the front, and what stands behind it
unfoldable pub reference_at : List ℕ → Option (List ℕ × List ℕ)
reference_at s = do
  a ← byte_at 36 s
  b ← byte_at 40 a
  name ← name_at b
  rest ← byte_at 41 name.1
  Some (name.0, rest)

abbrev pub name_or_byte : ℕ → List ℕ → Option (List ℕ × List ℕ) → Piece × List ℕ
name_or_byte b s (Some reference) = (Name reference.0, reference.1)
name_or_byte b s None = (Byte b, s)

-- The pieces of a text, at most so many. A text has no more pieces than bytes.
unfoldable pub pieces : ℕ → List ℕ → List Piece
pieces zero s = []
pieces (suc most) [] = []
pieces (suc most) (b ∷ s) = (name_or_byte b s (reference_at (b ∷ s))).0 ∷ pieces most (name_or_byte b s (reference_at (b ∷ s))).1

-- ---- the replacement

-- a name that isn't defined: it stays as it is behind a `#` that isn't inside a quoted text
abbrev pub stays_in : LinePart → List ℕ → Page → Written
stays_in Comment name page = put 36 page >> λ a. put 40 a >> λ b. put_all name b >> put 41
stays_in Plain name page = Err UndefinedName
stays_in Quoted name page = Err UndefinedName

unfoldable pub stays : List ℕ → Page → Written
stays name page = stays_in page.part name page

abbrev pub piece_by : (List ℕ → Page → Written) → Piece → Page → Written
piece_by named (Byte b) page = put b page
piece_by named (Name name) page = named name page

-- the pieces one after the other
unfoldable pub write_pieces : (List ℕ → Page → Written) → List Piece → Page → Written
write_pieces named [] page = Ok page
write_pieces named (piece ∷ others) page = piece_by named piece page >> write_pieces named others

abbrev pub all_pieces : List ℕ → List Piece
all_pieces s = pieces (length s) s

abbrev pub value_or_stays : (List ℕ → Page → Written) → List ℕ → Page → Option (List ℕ) → Written
value_or_stays named name page (Some value) = write_pieces named (all_pieces value) page
value_or_stays named name page None = stays name page

-- `$(NAME)`, where so many levels are left: the value in its place, which is read for `$(..)` itself
unfoldable pub write_name : ℕ → Values → List ℕ → Page → Written
write_name zero defs name page = Err ReplaceDepth
write_name (suc left) defs name page = value_or_stays (write_name left defs) name page (defs name)

-- a text, where so many levels are left
abbrev pub write_text : ℕ → Values → List ℕ → Page → Written
write_text left defs s page = write_pieces (write_name left defs) (all_pieces s) page
