-- step: the actions that are written, if any.
use Rattle.std.specs.Prelude.{List, Option, Vec, option_map}
use Rattle.std.specs.declared.alloc.Global.{Global}
use Rattle.sl_ast.specs.Trees.{Action}
use Rattle.sl_ast.specs.Unfolding.{written}
use Rattle.sl_ast.specs.Views.{actions_of}
use Rattle.sl_ast.specs.declared.patterns.Action as tree

abbrev pub seen_written : Option (Vec tree.Action Global) → List Action
seen_written actions = written (option_map (λ as'. actions_of as'.items) actions)
