-- meaning: the packed form of a specification.
use Rattle.sl_store_format.specs.Packed.{Packed}
use Rattle.sl_store_text.specs.PackedForm.{packed_form}
use Rattle.sl_tool_stages.specs.Values.{InText, Origin, Stored, Tree}

-- Of a text its files, the place of each item and the items; of stored places these.
abbrev pub packed_in : Origin → Tree → Packed
packed_in (InText k) t = packed_form k.source.text k.tokens t.items
packed_in (Stored files places) t = record { files = files; places = places; items = t.items }

abbrev pub packed_form_of : Tree → Packed
packed_form_of t = packed_in t.origin t
