-- meaning: the listing of an image by a specification.
use Rattle.std.specs.Prelude.{ℕ, List, [], length}
use Rattle.sl_ast.specs.Trees.{Constructor}
use Rattle.sl_ast.specs.Unfolding.{Placed}
use Rattle.sl_decode_choices.specs.Choices.{IsChoiceOf}
use Rattle.sl_decode_meaning.specs.Actions.{address_bytes}
use Rattle.sl_decode_meaning.specs.Choices.{Choice}
use Rattle.sl_list_instructions.specs.Instructions.{Listed, Subject}
use Rattle.sl_list_instructions.specs.Listings.{Lists}
use Rattle.sl_list_instructions.specs.Told.{tells}
use Rattle.sl_spec.specs.declared.tables.Tables.{Tables}

-- an image, the address of its first byte, and the context where no commit counts
pub record Image : Type 0 where
  pub bytes : List ℕ
  pub base : ℕ
  pub start : ℕ

abbrev pub image_from : List ℕ → (base start : ℕ) → Image
image_from bytes base start = record { bytes = bytes; base = base; start = start }

module _ (t : Tables) (cs : List (Placed Constructor)) where
  -- what is listed, by a choice of constructors
  abbrev pub subject : Choice → Image → Subject
  subject choose i = record {
    tells = tells t cs choose;
    image = i.bytes;
    base = i.base;
    address_bytes = address_bytes t;
    alignment = t.alignment;
    start = i.start;
  }

  -- The text lists the image: each line is an instruction, at each table of which the most specific
  -- constructor that matches is chosen, or the mark of why there is none.
  pub record IsListing (i : Image) (text : List ℕ) : Type 0 where
    pub choose : Choice
    pub is_choice : IsChoiceOf t cs choose
    pub lists : Lists (Listed (subject choose i)) (length i.bytes) 0 [] text
