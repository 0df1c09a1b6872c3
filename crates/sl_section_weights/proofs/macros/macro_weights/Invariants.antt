use Rattle.std.proofs.Common.{◌≡◌, [], map, min, take}
use Rattle.std.specs.Prelude.{fold}
use Rattle.sl_section_resolve.specs.MacroViews.{bodies_of}
use Rattle.sl_section_weights.specs.Weights.{with_macro}
use Rattle.sl_section_weights.proofs.macros.macro_weights.Given as goal

-- the weights of the macros before this one
abbrev pub invariant-macros : goal.invariant-macros
invariant-macros l = l.weights.items ≡ map (λ n. min n 65537) (fold (with_macro (bodies_of l.macros)) [] (take l.index (bodies_of l.macros)))
