-- view: that the packed form of a tree has a file.
use Rattle.std.specs.Prelude.{map}
use Rattle.std.specs.String.{string_bytes}
use Rattle.sl_ast.specs.Views.{items_of}
use Rattle.sl_ast.specs.declared.items.Spec.{Spec}
use Rattle.sl_lex.specs.Views.{views}
use Rattle.sl_preproc.specs.Expanded.{seen}
use Rattle.sl_store_format.specs.Packed.{IsPacked}
use Rattle.sl_store_text.specs.Parsed.{IsParsed}
use Rattle.sl_tool_stages.specs.declared.origin.Origin.{Origin}
use Rattle.sl_tool_stages.specs.declared.origin.Origin.TheVariants.{InText, Stored}

-- The items are those of a text that was read, or with their stored places they may be packed.
abbrev pub IsPackable : Origin → Spec → Type 0
IsPackable (InText k) spec = IsParsed (seen k.source.now.expanded) (views k.tokens.items) spec
IsPackable (Stored s) spec =
    IsPacked (record { files = map string_bytes s.files.items; places = s.places.items; items = items_of spec })
