-- step: lists that are no encodings, and what a text says of those that are.
use Rattle.std.specs.Prelude.{◌≡◌, ℕ, ◌≤◌, List, get_or, length}
use Rattle.std.specs.Int.{bit_at}
use Rattle.sl_asm.specs.Shortest.{EncodesShortest}
use Rattle.sl_asm.specs.declared.wanted.Span.{Span}
use Rattle.sl_asm.specs.declared.wanted.Wanted.{Wanted}
use Rattle.sl_asm_encodings.specs.Encodings.{Encodes}
use Rattle.sl_asm_fit.specs.Regions.{IsOf}
use Rattle.sl_asm_fit.specs.declared.Cell.{Cell}
use Rattle.sl_asm_known.specs.declared.Bit.{Bit}
use Rattle.sl_asm_narrow.specs.Readers.{tables_of, written_of}

-- The bytes are an encoding that is wanted.
abbrev pub Passes : Wanted → List ℕ → Type 0
Passes w bytes = Encodes (tables_of w.reader.now) (written_of w.reader.now) w.address w.context w.text.now bytes

-- They are one of this length.
pub record PassesAs (w : Wanted) (count : ℕ) (bytes : List ℕ) : Type 0 where
  pub passes : Passes w bytes
  pub long : length bytes ≡ count

-- They are a shortest one.
abbrev pub PassesShortest : Wanted → List ℕ → Type 0
PassesShortest w bytes = EncodesShortest (tables_of w.reader.now) (written_of w.reader.now) w.address w.context w.text.now bytes

-- No bytes are.
abbrev pub HasNone : Wanted → Type 0
HasNone w = (bytes : List ℕ) → Passes w bytes → ⊥

-- None of this length.
abbrev pub HasNoneOf : Wanted → ℕ → Type 0
HasNoneOf w count = (bytes : List ℕ) → length bytes ≡ count → Passes w bytes → ⊥

-- No list of the region.
abbrev pub HasNoneIn : Wanted → List Cell → Type 0
HasNoneIn w region = (bytes : List ℕ) → IsOf region bytes → Passes w bytes → ⊥

-- None whose bit is so.
abbrev pub HasNoneIf : Wanted → List Cell → Bit → ℕ → Type 0
HasNoneIf w region b bit = (bytes : List ℕ) → IsOf region bytes
    → bit_at (get_or bytes b.index 0) b.place ≡ bit → Passes w bytes → ⊥

-- A region of lists as long, among them each of the region that is an encoding.
pub record KeepsPassing (w : Wanted) (region narrow : List Cell) : Type 0 where
  pub long : length narrow ≡ length region
  pub stays : (bytes : List ℕ) → IsOf region bytes → Passes w bytes → IsOf narrow bytes

-- A number of bytes is among these lengths.
abbrev pub IsAmong : Span → ℕ → Type 0
IsAmong span count = (span.least ≤ count) × (count ≤ span.most)

-- The length of each encoding is among them.
abbrev pub Covers : Wanted → Span → Type 0
Covers w span = (bytes : List ℕ) → Passes w bytes → IsAmong span (length bytes)
