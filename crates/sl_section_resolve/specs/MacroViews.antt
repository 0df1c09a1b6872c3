-- view: the macros of the program.
use Rattle.std.specs.Prelude.{List, map}
use Rattle.sl_ast.specs.Views.{macro_of}
use Rattle.sl_section_resolve.specs.declared.macros.MacroBody.{MacroBody}
use Rattle.sl_section_resolve.specs.Macros.{Body}

abbrev pub macro_view : MacroBody → Body
macro_view m = record { of = macro_of m.of.now; reach = m.reach }

-- the macros that the program keeps
abbrev pub bodies_of : List MacroBody → List Body
bodies_of ms = map macro_view ms
