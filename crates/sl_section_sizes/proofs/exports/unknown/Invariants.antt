use Rattle.std.proofs.Common.{◌≡◌, None, replicate}
use Rattle.sl_section_equations.specs.Known.{exports_of}
use Rattle.sl_section_sizes.proofs.exports.unknown.Given as goal

abbrev pub invariant-tables : goal.invariant-tables
invariant-tables l = exports_of l.exports.items ≡ replicate l._table None
