-- view: the later stages as values.
use Rattle.sl_ast.specs.Views.{items_of}
use Rattle.sl_tool_stages.specs.OriginView.{origin_view}
use Rattle.sl_tool_stages.specs.Values as values
use Rattle.sl_tool_stages.specs.declared.tree.Tree.{Tree}
use Rattle.sl_tool_stages.specs.declared.compiled.Compiled.{Compiled}
use Rattle.sl_tool_stages.specs.declared.loaded.Loaded.{Loaded}

abbrev pub tree_view : Tree → values.Tree
tree_view t = values.tree (origin_view t.origin) (items_of t.spec)

abbrev pub compiled_view : Compiled → values.Compiled
compiled_view c = values.compiled (values.tree (origin_view c.origin) (items_of c.specification.bound.spec)) c.specification.bound.tables

abbrev pub loaded_view : Loaded → values.Loaded
loaded_view l = values.loaded (compiled_view l.compiled) l.image
