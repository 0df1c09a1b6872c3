-- step: the command that `clap` reads the words by
use Rattle.std.specs.Prelude.{List, ◌∷◌, map, fold, Some, true, codes, if◌then◌else◌}
use Rattle.clap.specs.Simple.{App, Shape, new_app, new_rule, new_shape, on_top, with_subcommand}
use Rattle.clap.specs.Walk.{Rule}
use Rattle.clap.specs.declared.builder.action.ArgAction.{ArgAction}
use Rattle.clap.specs.declared.builder.action.ArgAction.TheVariants.{Append, Set, SetTrue}
use Rattle.sl_tool_request.specs.Requests.{Command, commands}
use Rattle.sl_tool_request.specs.Words.{OptionRule, Text}

-- The positional words.
abbrev pub words_rule : Rule
words_rule = record (new_rule (codes "WORDS")) { action = Some Append }

-- An option: `--NAME`, by what its use does.
abbrev pub long_rule : Text → ArgAction → Rule
long_rule name action = record (new_rule name) { long = Some name; action = Some action }

abbrev pub option_rule : OptionRule → Rule
option_rule o = long_rule o.name (if o.takes_value then Set else SetTrue)

-- A command with positional words and these options.
abbrev pub leaf : Text → List OptionRule → Shape
leaf name options =
    record (new_shape name) { rules = words_rule ∷ map option_rule options }

-- The program's command, without `clap`'s own help.
abbrev pub top : App
top = on_top (λ s. record s { disable_help_flag = true; disable_help_subcommand = true })
    (new_app (codes "sleigh"))

abbrev pub with_command : App → Command → App
with_command a c = with_subcommand a (leaf c.name c.options)

abbrev pub app : App
app = fold with_command top commands
