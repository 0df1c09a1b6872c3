use Rattle.std.proofs.Common.{◌≡◌, ◌++◌, map, take}
use Rattle.sl_section_exports.proofs.handing.add_edges.Given as goal

abbrev pub invariant-tables : goal.invariant-tables
invariant-tables l = l.edges.items ≡ l.initial.edges.items ++ map (λ u. (l.from, u)) (take l.index l.tables)
