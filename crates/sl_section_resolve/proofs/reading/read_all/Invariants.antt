use Rattle.std.proofs.Common.{◌≡◌}
use Rattle.sl_section_resolve.specs.MacroViews.{bodies_of}
use Rattle.sl_section_resolve.specs.Work.{outcome}
use Rattle.sl_section_resolve.proofs.reading.read_all.Given as goal

-- what is there and what is owed stays
abbrev pub invariant-rounds : goal.invariant-rounds
invariant-rounds l = outcome l.t (bodies_of l.macros) l.work ≡ outcome l.t (bodies_of l.macros) l.fn.work
