-- meaning: where in an instruction the token of a pattern's field begins, as far as the pattern's own tokens tell it.
use Rattle.std.specs.Prelude.{ℕ, ◌+◌, ◌-◌, ◌/◌, ◌==◌, ◌^◌, ◌||◌, List, Option, Some, None, codes, find, max, min, if◌then◌else◌}
use Rattle.std.specs.Prelude.{true, false, not}
use Rattle.std.specs.Str.{bytes_eq}
use Rattle.sl_explain_names.specs.Items.{Item, is_table, is_token_field, name_at}
use Rattle.sl_explain_names.specs.Names.{is_known, kind_by}
use Rattle.sl_explain_names.specs.TokenKinds.{number_after}
use Rattle.sl_explain_names.specs.declared.names.Mention.{Mention}
use Rattle.sl_explain_names.specs.declared.places.Part.{Part}
use Rattle.sl_explain_names.specs.declared.places.Part.TheVariants as part
use Rattle.sl_explain_names.specs.declared.places.Place.{Place}
use Rattle.sl_explain_points.specs.declared.readings.Reading.{Reading}
use Rattle.sl_lex.specs.Reading.{Token}

-- ---- what is read of a pattern

-- nothing
abbrev pub start : Reading
start = record { depth = 0; begin = 0; end = 0; varies = false; lost = false }

abbrev pub opened : Reading → Reading
opened r = record { depth = min (r.depth + 1) (2 ^ 64 - 1); begin = r.begin; end = r.end; varies = r.varies; lost = r.lost }

abbrev pub closed : Reading → Reading
closed r = record { depth = r.depth - 1; begin = r.begin; end = r.end; varies = r.varies; lost = r.lost }

-- What is behind a `;` begins where the part before it ends, if it has a fixed number of bytes. A `;` in brackets isn't followed.
abbrev pub cut : Reading → Reading
cut r = record { depth = r.depth; begin = r.end; end = r.end; varies = r.varies; lost = r.lost || (r.varies || not (r.depth == 0)) }

-- Each side of a `|` begins where all begin.
abbrev pub parted : Reading → Reading
parted r = if r.depth == 0 then record { depth = 0; begin = 0; end = 0; varies = r.varies; lost = r.lost } else r

abbrev pub varying : Reading → Reading
varying r = record { depth = r.depth; begin = r.begin; end = r.end; varies = true; lost = r.lost }

-- a token of so many bytes
abbrev pub widened : Reading → ℕ → Reading
widened r bytes =
    record { depth = r.depth; begin = r.begin; end = max r.end (min (r.begin + bytes) (2 ^ 64 - 1)); varies = r.varies; lost = r.lost }

-- ---- the tokens of a pattern

-- the bytes of the token in whose definition this is
abbrev pub token_bytes : List Token → Mention → ℕ
token_bytes ts m = min (number_after ts m.head 4) 64 / 8

abbrev pub after_definition : List Token → Reading → Mention → Reading
after_definition ts r m =
    if is_token_field (kind_by m.role) then widened r (token_bytes ts m)
    else if is_table (kind_by m.role) then varying r
    else r

abbrev pub after_name : List Token → Reading → Option Mention → Reading
after_name ts r None = r
after_name ts r (Some m) = after_definition ts r m

-- what defines the name of a place
abbrev pub definition_at : Item → Place → Option Mention
definition_at i p = find (is_known i.tokens i.start (name_at i p)) i.names

unfoldable pub after_token : Item → Reading → Place → Reading
after_token i r p =
    let text = name_at i p in
    if bytes_eq text (codes "(") then opened r
    else if bytes_eq text (codes ")") then closed r
    else if bytes_eq text (codes ";") then cut r
    else if bytes_eq text (codes "|") then parted r
    else if bytes_eq text (codes "...") then varying r
    else after_name i.tokens r (definition_at i p)

-- behind a place of an item; the head of a block and the constructor begin anew
abbrev pub after_part : Part → Item → Reading → Place → Reading
after_part part.Begin i r p = start
after_part part.Pattern i r p = after_token i r p
after_part _ i r p = r
