-- view: the lines of items, and the files that they are in.
use Rattle.std.specs.Prelude.{ℕ, List, Option, Some, None, map, option_and_then, slice_get}
use Rattle.sl_ast.specs.Trees.{Item}
use Rattle.sl_ast.specs.Unfolding.{firsts}
use Rattle.sl_preproc.specs.declared.places.Place as line
use Rattle.sl_store_text.specs.PackedForm.{place_of_first}
use Rattle.sl_tool_stages.specs.Places.{named, place_in}
use Rattle.sl_tool_stages.specs.Values.{InText, Origin, Stored}
use Rattle.sl_tool_stages.specs.declared.place.Place.{Place}

-- the files of a text, or those that were stored
abbrev pub files_in : Origin → List (List ℕ)
files_in (InText k) = k.source.text.files
files_in (Stored files places) = files

-- the line of each item, a block's before those of the items inside it
abbrev pub lines_in : Origin → List Item → List line.Place
lines_in (InText k) items = map (place_of_first k.source.text k.tokens) (firsts items)
lines_in (Stored files places) items = places

-- the line of the item of this number
abbrev pub line_of : Origin → List Item → Option ℕ → Option line.Place
line_of o items item = option_and_then (slice_get (lines_in o items)) item

-- the place that a line is, or, where there is none, that of the text's end
abbrev pub place_of_line : Origin → Option line.Place → Place
place_of_line o (Some line) = named (files_in o) line
place_of_line o None = place_in o None
