use Rattle.std.proofs.Common.{None, replicate}
use Rattle.sl_section_equations.specs.Known.{exports_of}
use Rattle.sl_section_equations.specs.SizesIn.{address_in}
use Rattle.sl_word.specs.Sizes.{byte_counts}
use Rattle.sl_section_sizes.specs.ConstructorViews.{constructors_of}
use Rattle.sl_section_sizes.specs.Sizings.{lists_of}
use Rattle.sl_section_sizes.proofs.RunLemmas.{IsRun}
use Rattle.sl_section_sizes.proofs.sizing.all_sizes.Given as goal

abbrev pub invariant-constructors : goal.invariant-constructors
invariant-constructors l =
    IsRun (address_in (byte_counts l.spaces) l.default.bytes) (replicate l.tables None) (constructors_of l.constructors)
    (exports_of l.exports.items) (lists_of l.sections.items) l.index
