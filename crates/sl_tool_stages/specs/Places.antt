-- meaning: the places of bytes, tokens, items and constructors.
use Rattle.std.specs.Prelude.{ℕ, ◌-◌, List, [], length, Option, Some, None, option_and_then, slice_get, slice_index_or, unwrap_or}
use Rattle.std.specs.List.{range_with_len}
use Rattle.sl_ast.specs.Trees.{Item}
use Rattle.sl_ast.specs.Unfolding.{firsts}
use Rattle.sl_bind.specs.BindFaults.{token_of}
use Rattle.sl_bind_compile.specs.Outcomes.{item_of_ctor}
use Rattle.sl_preproc.specs.Expanded.{Text, or_no_place, place_at}
use Rattle.sl_preproc.specs.declared.places.Place as line
use Rattle.sl_store_text.specs.PackedForm as form
use Rattle.sl_tool_stages.specs.Values.{Compiled, InText, Origin, Stored, Tokens}
use Rattle.sl_tool_stages.specs.declared.place.Place.{Place}

-- ---- bytes

-- a line of one of these files, with the file's name
abbrev pub named : (files : List (List ℕ)) → line.Place → Place
named files place = record { file = slice_index_or files place.file []; line = place.line }

-- the file and the line from which the line of this byte comes
abbrev pub place_of_byte : Text → ℕ → Place
place_of_byte t byte = named t.files (place_at t byte)

-- ---- tokens

-- the byte at which the token of this index begins; after the last one it is the text's end
abbrev pub start_of : Tokens → ℕ → ℕ
start_of k index = form.start_of k.tokens index (length k.source.text.bytes)

abbrev pub place_of_token : Tokens → ℕ → Place
place_of_token k index = place_of_byte k.source.text (start_of k index)

-- the place of a token, or, where there is none, of the text's end
abbrev pub place_of_some : Tokens → Option ℕ → Place
place_of_some k (Some index) = place_of_token k index
place_of_some k None = place_of_byte k.source.text (length k.source.text.bytes)

-- ---- items

-- by which index the place of each item is told: in a text by that of its first token, else by its number among all items
abbrev pub indexes_in : Origin → List Item → List ℕ
indexes_in (InText k) items = firsts items
indexes_in (Stored files places) items = range_with_len 0 (length places)

-- the place of the item with this number; where there is none, of the last item, or line 0 of the first file
abbrev pub stored_place : List line.Place → Option ℕ → line.Place
stored_place places item =
    unwrap_or (option_and_then (slice_get places) item) (or_no_place (slice_get places (length places - 1)))

-- the place of this index, or, where there is none, of the text's end
abbrev pub place_in : Origin → Option ℕ → Place
place_in (InText k) index = place_of_some k index
place_in (Stored files places) index = named files (stored_place places index)

-- the place of the constructor of this number, which is that of its item
abbrev pub place_of_ctor : Compiled → ℕ → Place
place_of_ctor c ctor = place_in c.tree.origin (token_of (indexes_in c.tree.origin c.tree.items) (item_of_ctor c.tables ctor))
