-- meaning: bytes that are shown as a text, and constructors that have actions.
use Rattle.std.specs.Prelude.{◌≡◌, ◌≢◌, ℕ, ◌<◌, ◌≤◌, List, [], Some, Ok, length, slice_get}
use Rattle.std.specs.List.{All}
use Rattle.sl_ast.specs.Trees.{Constructor}
use Rattle.sl_ast.specs.Unfolding.{Placed, written}
use Rattle.sl_decode_choices.specs.Choices.{IsChoiceOf}
use Rattle.sl_decode_meaning.specs.Choices.{Choice}
use Rattle.sl_list_instructions.specs.Instructions.{DecodeFunction, Told, listing_window}
use Rattle.sl_list_instructions.specs.Lines.{bytes_at}
use Rattle.sl_list_instructions.specs.Told.{tells}
use Rattle.sl_spec.specs.declared.tables.Tables.{Tables}

-- the greatest number of bytes that an instruction has
abbrev pub most_encoded : ℕ
most_encoded = 255

-- One byte or more, which, followed by zeros, decode at the address from the context to an
-- instruction with just these bytes and with the text.
pub record IsEncoding (decodes : DecodeFunction) (address context : ℕ) (text bytes : List ℕ) : Type 0 where
  pub some : 1 ≤ length bytes
  pub most : length bytes ≤ most_encoded
  pub are_bytes : All (λ b. b < 256) bytes
  pub told : Told
  pub is : decodes (bytes_at bytes 0 listing_window) address context ≡ Ok told
  pub long : told.length ≡ length bytes
  pub shows : told.text ≡ text

module _ (t : Tables) (cs : List (Placed Constructor)) where
  -- The bytes are an encoding of the text, where each table chooses the most specific constructor that
  -- matches.
  pub record Encodes (address context : ℕ) (text bytes : List ℕ) : Type 0 where
    pub choose : Choice
    pub is_choice : IsChoiceOf t cs choose
    pub encoding : IsEncoding (tells t cs choose) address context text bytes

-- The constructor of a number has an action; a `globalset` is one, and brackets without one are none.
abbrev pub HasAction : List (Placed Constructor) → ℕ → Type 0
HasAction cs number = (c : Placed Constructor) × (slice_get cs number ≡ Some c) × (written c.1.actions ≢ [])

-- It is the first one that has, in the order of the text.
abbrev pub IsFirstWithAction : List (Placed Constructor) → ℕ → Type 0
IsFirstWithAction cs number = HasAction cs number × ((n : ℕ) → n < number → HasAction cs n → ⊥)

-- No constructor has one.
abbrev pub HasNoActions : List (Placed Constructor) → Type 0
HasNoActions cs = (n : ℕ) → HasAction cs n → ⊥
