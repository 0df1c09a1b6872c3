-- view: where the items of a tree are.
use Rattle.std.specs.Prelude.{map}
use Rattle.std.specs.String.{string_bytes}
use Rattle.sl_tool_stages.specs.TokensView.{tokens_view}
use Rattle.sl_tool_stages.specs.Values as values
use Rattle.sl_tool_stages.specs.declared.origin.Origin.{Origin}
use Rattle.sl_tool_stages.specs.declared.origin.Origin.TheVariants.{InText, Stored}

abbrev pub origin_view : Origin → values.Origin
origin_view (InText k) = values.InText (tokens_view k)
origin_view (Stored s) = values.Stored (map string_bytes s.files.items) s.places.items
