-- meaning: what the text of an edited listing comes to.
use Rattle.std.specs.Prelude.{◌≡◌, ℕ, ◌⊎◌, List}
use Rattle.sl_asm_lines.specs.Lines.{Line, bytes_of, text_from}
use Rattle.sl_asm_lines.specs.Patching.{AreAlike, HasNoEncoding, IsPatched, IsUndecided, ListsItself}
use Rattle.sl_asm_lines.specs.Reading.{IsBadAddress, IsBadLine, IsRead}
use Rattle.sl_asm_lines.specs.declared.faults.LineFault.{LineFault}
use Rattle.sl_asm_lines.specs.declared.faults.LineFault.TheVariants.{BadAddress, BadLine, NoEncoding, Undecided}
use Rattle.sl_ast.specs.Trees.{Constructor}
use Rattle.sl_ast.specs.Unfolding.{Placed}
use Rattle.sl_decode_choices.specs.Choices.{IsChoiceOf}
use Rattle.sl_decode_meaning.specs.Actions.{address_bytes}
use Rattle.sl_decode_meaning.specs.Choices.{Choice}
use Rattle.sl_list_instructions.specs.Instructions.{DecodeFunction}
use Rattle.sl_list_instructions.specs.Listing.{IsListing, image_from}
use Rattle.sl_list_instructions.specs.Told.{tells}
use Rattle.sl_spec.specs.declared.tables.Tables.{Tables}

module _ (decodes : DecodeFunction) (size alignment start : ℕ) where
  -- The lines are given their bytes, which are the image. Where they list themselves, as they do
  -- before anyone edits them, it has their own bytes.
  pub record LinesGive (base : ℕ) (lines : List Line) (image : List ℕ) : Type 0 where
    pub patched : IsPatched decodes size alignment start base lines image
    pub unedited : ListsItself decodes size alignment start base lines → image ≡ bytes_of lines

  -- A line has no encoding, or isn't listed in the image of all. The lines don't list themselves.
  abbrev pub LinesFail : ℕ → List Line → ℕ → LineFault → Type 0
  LinesFail base lines number BadLine = ⊥
  LinesFail base lines number BadAddress = ⊥
  LinesFail base lines number NoEncoding = HasNoEncoding decodes size alignment start base lines number
      × (ListsItself decodes size alignment start base lines → ⊥)
  LinesFail base lines number Undecided = IsUndecided decodes size alignment start base lines number
      × (ListsItself decodes size alignment start base lines → ⊥)

  -- A text is read as lines, and this holds of their base and of them.
  pub record IsReadAnd (text : List ℕ) (Holds : ℕ → List Line → Type 0) : Type 0 where
    pub base : ℕ
    pub lines : List Line
    pub is_read : IsRead size text base lines
    pub holds : Holds base lines

  -- The image is that of the lines of the text.
  abbrev pub TextGives : List ℕ → List ℕ → Type 0
  TextGives text image = IsReadAnd text (λ base lines. LinesGive base lines image)

  -- A line of the text, counted from 1, can't be read, or it is at fault among all its lines.
  abbrev pub TextFails : List ℕ → ℕ → LineFault → Type 0
  TextFails text number BadLine = IsBadLine size text number
  TextFails text number BadAddress = IsBadAddress size text number
  TextFails text number NoEncoding = IsReadAnd text (λ base lines. LinesFail base lines number NoEncoding)
  TextFails text number Undecided = IsReadAnd text (λ base lines. LinesFail base lines number Undecided)

-- The same for the constructors of a specification, of which each table chooses the most specific one
-- that matches.
module _ (t : Tables) (cs : List (Placed Constructor)) (start : ℕ) (text : List ℕ) where
  pub record Gives (image : List ℕ) : Type 0 where
    pub choose : Choice
    pub is_choice : IsChoiceOf t cs choose
    pub gives : TextGives (tells t cs choose) (address_bytes t) t.alignment start text image

  pub record Fails (number : ℕ) (fault : LineFault) : Type 0 where
    pub choose : Choice
    pub is_choice : IsChoiceOf t cs choose
    pub fails : TextFails (tells t cs choose) (address_bytes t) t.alignment start text number fault

  -- The text is read as lines, and the listing of their bytes has just these.
  pub record IsUnedited : Type 0 where
    pub choose : Choice
    pub is_choice : IsChoiceOf t cs choose
    pub base : ℕ
    pub lines : List Line
    pub is_read : IsRead (address_bytes t) text base lines
    pub lists : ListsItself (tells t cs choose) (address_bytes t) t.alignment start base lines

  -- What comes of the text: an image, or a line that is at fault.
  abbrev pub Outcome : Type 0
  Outcome = ((image : List ℕ) × Gives image) ⊎ ((number : ℕ) × (fault : LineFault) × Fails number fault)

  -- The listing of the image from the address of the text's first line on has lines with the addresses,
  -- the numbers of bytes and the texts that the lines of the text have.
  pub record ListsAlike (image : List ℕ) : Type 0 where
    pub base : ℕ
    pub lines : List Line
    pub new : List Line
    pub is_read : IsRead (address_bytes t) text base lines
    pub alike : AreAlike new lines
    pub lists : IsListing t cs (image_from image base start) (text_from (address_bytes t) base new)
