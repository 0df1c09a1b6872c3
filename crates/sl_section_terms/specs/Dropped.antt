-- step: names whose bytes are dropped, as those of the definitions.
use Rattle.std.specs.Prelude.{ℕ}
use Rattle.sl_section_flat.specs.Sections as s
use Rattle.sl_section_flat.specs.Views.{symbol_of}
use Rattle.sl_section_flat.specs.declared.symbol.Symbol.{Symbol}

abbrev pub dropped_view : Symbol × ℕ → s.Symbol × ℕ
dropped_view d = (symbol_of d.0, d.1)
