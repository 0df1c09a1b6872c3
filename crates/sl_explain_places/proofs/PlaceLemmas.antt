-- The place of a token has no control byte.
use Rattle.std.proofs.Common.{ℕ, List, [], length, min}
use Rattle.std.specs.Prelude.{slice_get, slice_index_or}
use Rattle.sl_explain_lines.proofs.ShownLemmas.{AllShown, line_shown}
use Rattle.sl_explain_places.specs.TokenPlaces.{byte_of, byte_place, token_place}
use Rattle.sl_lex.specs.Reading.{Token}
use Rattle.sl_preproc.specs.Expanded.{Text, place_at}

byte_shown : (t : Text) (byte : ℕ) → AllShown (byte_place t byte)
unfolding byte_place
byte_shown t byte =
    let place = place_at t (min byte (length t.bytes)) in
    line_shown (slice_index_or t.files place.file []) place.line

pub place_shown : (t : Text) (ts : List Token) (index : ℕ) → AllShown (token_place t ts index)
place_shown t ts index = byte_shown t (byte_of (slice_get ts index))
