-- step: the parts of a line, read one after another.
use Rattle.std.specs.Prelude.{◌≡◌, ◌≢◌, ℕ, ◌+◌, ◌<◌, ◌≤◌, ◌^◌, Bool, true, false, List, [], ◌∷◌, ◌++◌, Option, Some, None, drop, length}
use Rattle.std.specs.List.{All}
use Rattle.hex.specs.Hex.{encode_lower}
use Rattle.sl_asm_encodings.specs.Encodings.{most_encoded}
use Rattle.sl_asm_lines.specs.Lines.{IsLine, Line, line_text}
use Rattle.sl_asm_lines.specs.declared.front.Front.{Front}
use Rattle.sl_list_instructions.specs.Lines.{address_text}

-- An address that has the digits, if they are those of one.
abbrev pub ReadsAddress : ℕ → List ℕ → Option ℕ → Type 0
ReadsAddress size digits None = (a : ℕ) → digits ≢ address_text size a
ReadsAddress size digits (Some a) =
    (a < 256 ^ size) × ((b : ℕ) → digits ≡ address_text size b → address_text size a ≡ address_text size b)

-- Bytes that a line may show.
pub record AreShown (bytes : List ℕ) : Type 0 where
  pub some : 1 ≤ length bytes
  pub most : length bytes ≤ most_encoded
  pub are_bytes : All (λ b. b < 256) bytes

-- Such bytes, which have the digits, if they are those of such.
abbrev pub ReadsBytes : List ℕ → List ℕ → Bool → Type 0
ReadsBytes digits bytes false = (bs : List ℕ) → AreShown bs → digits ≢ encode_lower bs
ReadsBytes digits bytes true =
    AreShown bytes × ((bs : List ℕ) → AreShown bs → digits ≡ encode_lower bs → bytes ≡ bs)

abbrev pub line_of : List ℕ → List ℕ → Line
line_of bytes text = record { bytes = bytes; text = text }

-- What a line is, if it is one.
pub record ReadsAs (size : ℕ) (line bytes : List ℕ) (f : Front) : Type 0 where
  pub shown : AreShown bytes
  pub in_space : f.address < 256 ^ size
  pub taken : f.length ≡ length line + 1
  pub cut : ℕ
  pub text : f.text.now ≡ drop cut line
  pub same : (a : ℕ) (l : Line) → IsLine l → line ++ 10 ∷ [] ≡ line_text size a l
      → line_text size f.address (line_of bytes f.text.now) ≡ line_text size a l

abbrev pub ReadsLine : ℕ → List ℕ → List ℕ → Option Front → Type 0
ReadsLine size line bytes None = (a : ℕ) (l : Line) → IsLine l → line ++ 10 ∷ [] ≢ line_text size a l
ReadsLine size line bytes (Some f) = ReadsAs size line bytes f
