-- meaning: the packed form of a specification that was read from a text.
use Rattle.std.specs.Prelude.{ℕ, List, length, map, Option, Some, None, slice_get}
use Rattle.sl_ast.specs.Trees.{Item}
use Rattle.sl_ast.specs.Unfolding.{firsts}
use Rattle.sl_lex.specs.Reading.{Token}
use Rattle.sl_preproc.specs.Expanded.{Text, place_at}
use Rattle.sl_preproc.specs.declared.places.Place.{Place}
use Rattle.sl_store_format.specs.Packed.{Packed}

abbrev pub from_or : ℕ → Option Token → ℕ
from_or end None = end
from_or end (Some t) = t.from

-- the byte at which the token of this index begins; after the last one it is the end
abbrev pub start_of : List Token → ℕ → ℕ → ℕ
start_of tokens index end = from_or end (slice_get tokens index)

-- the file and the line of the item whose first token has this index
abbrev pub place_of_first : Text → List Token → ℕ → Place
place_of_first text tokens index = place_at text (start_of tokens index (length text.bytes))

-- The files that give lines to the text; the place of each item, a block's before those of the items inside it; and the items.
abbrev pub packed_form : Text → List Token → List Item → Packed
packed_form text tokens items = record {
  files = text.files;
  places = map (place_of_first text tokens) (firsts items);
  items = items;
}
