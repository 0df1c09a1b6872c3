-- law: how an encoding is listed, and that it is one of one text.
use Rattle.std.specs.Prelude.{◌≡◌, ℕ, ◌<◌, ◌%◌, ◌^◌, List, Ok, length}
use Rattle.sl_ast.specs.Trees.{Constructor}
use Rattle.sl_ast.specs.Unfolding.{Placed}
use Rattle.sl_asm_encodings.specs.Encodings.{Encodes}
use Rattle.sl_decode_choices.specs.Choices.{IsChoiceOf}
use Rattle.sl_decode_meaning.specs.Actions.{address_bytes}
use Rattle.sl_decode_meaning.specs.Choices.{Choice}
use Rattle.sl_list_instructions.specs.Instructions.{Told, listing_window}
use Rattle.sl_list_instructions.specs.Lines.{bytes_at, listed_line}
use Rattle.sl_list_instructions.specs.Listing.{IsListing, image_from}
use Rattle.sl_list_instructions.specs.Told.{tells}
use Rattle.sl_spec.specs.declared.tables.Tables.{Tables}

-- At an aligned address the listing of the bytes is the line with the address, the bytes and the text.
abbrev pub EncodingIsListed : Type 0
EncodingIsListed = (t : Tables) (cs : List (Placed Constructor)) (address context : ℕ) (text bytes : List ℕ)
    → address % t.alignment ≡ 0 → context < 2 ^ 64 → Encodes t cs address context text bytes
    → IsListing t cs (image_from bytes address context) (listed_line (address_bytes t) address bytes text)

-- Bytes are an encoding of one text at most.
abbrev pub EncodesOneText : Type 0
EncodesOneText = (t : Tables) (cs : List (Placed Constructor)) (address context : ℕ) (text other bytes : List ℕ)
    → Encodes t cs address context text bytes → Encodes t cs address context other bytes → text ≡ other

-- By each choice of the tables, an encoding decodes to an instruction with just its bytes and its text.
abbrev pub HasLengthToo : Type 0
HasLengthToo = (t : Tables) (cs : List (Placed Constructor)) (address context : ℕ) (text bytes : List ℕ) (choose : Choice) (told : Told)
    → IsChoiceOf t cs choose → Encodes t cs address context text bytes
    → tells t cs choose (bytes_at bytes 0 listing_window) address context ≡ Ok told
    → (told.length ≡ length bytes) × (told.text ≡ text)
