-- meaning: the file and the line of a token of a text.
use Rattle.std.specs.Prelude.{ℕ, List, [], length, min, Option, Some, None, slice_get, slice_index_or}
use Rattle.sl_explain_lines.specs.FactLines.{line_words}
use Rattle.sl_lex.specs.Reading.{Token}
use Rattle.sl_preproc.specs.Expanded as expanded
use Rattle.sl_preproc.specs.Expanded.{place_at}
use Rattle.sl_preproc.specs.declared.places.Place.{Place}

abbrev pub words_of_place : expanded.Text → Place → List ℕ
words_of_place t place = line_words (slice_index_or t.files place.file []) place.line

-- those of a byte; past the text's end those of the end
unfoldable pub byte_place : expanded.Text → (byte : ℕ) → List ℕ
byte_place t byte = words_of_place t (place_at t (min byte (length t.bytes)))

abbrev pub byte_of : Option Token → ℕ
byte_of None = 0
byte_of (Some k) = k.from

-- those of the token of an index
abbrev pub token_place : expanded.Text → List Token → (index : ℕ) → List ℕ
token_place t ts index = byte_place t (byte_of (slice_get ts index))
