-- What was written of a listing.
use Rattle.std.proofs.Common.{ℕ, inr, List, length, Option, Result, Ok, Err}
use Rattle.std.specs.Prelude.{OnErr, OnOk}
use Rattle.sl_ast.specs.Trees.{Item}
use Rattle.sl_bind.specs.Binding.{constructors_of}
use Rattle.sl_decode_choices.specs.Choices.{IsChoiceOf}
use Rattle.sl_decode_meaning.specs.Choices.{Choice}
use Rattle.sl_list_instructions.specs.Listings.{Shows}
use Rattle.sl_list_instructions.specs.Fronts.{IsBegun, IsListed}
use Rattle.sl_list_instructions.specs.declared.listings.ListError.{ListError}
use Rattle.sl_list_instructions.specs.declared.listings.ListError.TheVariants.{NoMemory, WriteFault}
use Rattle.sl_list_instructions.specs.Listing.{Image}
use Rattle.sl_pcode.specs.declared.print.Names.{Names}
use Rattle.sl_list_pcode.specs.Listing.{Shown}
use Rattle.sl_list_pcode.specs.Names.{AreNames}
use Rattle.sl_list_pcode.specs.Writing.{Writes, WritesFront}
use Rattle.sl_spec.specs.declared.tables.Tables.{Tables}
use Rattle.sl_word.specs.declared.word.Size.{Size}

module _ (items : List Item) (t : Tables) (sizes : List (List Size)) (i : Image) (old new : Option (List ℕ)) where
  by_error : (T : Type 0) (e : ListError) → WritesFront items t sizes i old new
      → Writes items t sizes i old new {T = T} (Err e)
  by_error T WriteFault w = w
  by_error T NoMemory w = inr w

  module _ (choose : Choice) (is_choice : IsChoiceOf t (constructors_of items) choose) (names : Names)
      (are_names : AreNames t names) where
    abbrev shows : Shows
    shows = Shown items t sizes i choose names

    -- what was listed was written
    pub listed_written : {T : Type 0} (r : Result T ListError) → OnOk r (IsListed shows (length i.bytes) old new)
        → OnErr r (IsBegun shows (length i.bytes) old new)
        → Writes items t sizes i old new r
    listed_written (Ok done) whole front = (
      whole.0,
      record { choose = choose; is_choice = is_choice; names = names; are_names = are_names; lists = whole.1 },
      whole.2,
    )
    listed_written {T = T} (Err e) whole front = by_error T e (
      front.0,
      record { choose = choose; is_choice = is_choice; names = names; are_names = are_names; begins = front.1 },
      front.2,
    )
