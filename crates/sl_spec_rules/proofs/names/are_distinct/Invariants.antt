use Rattle.std.proofs.Common.{◌≡◌, drop, map}
use Rattle.sl_spec_rules.specs.Names.{are_distinct, differ_behind}
use Rattle.sl_spec_rules.proofs.names.are_distinct.Given as goal

abbrev pub invariant-names : goal.invariant-names
invariant-names l = differ_behind l.seen (drop l.index (map (λ name. name.now) l.names)) ≡ are_distinct (map (λ name. name.now) l.names)
