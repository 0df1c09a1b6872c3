use Rattle.std.specs.Prelude.{◌||◌, Bool, true}
use Rattle.std.specs.List.{list_all}
use Rattle.sl_spec_rules.specs.Names.{Name, is_among}
use Rattle.sl_spec_actions.proofs.PendingLemmas.{IsTested}
use Rattle.sl_spec_actions.proofs.pending.without.Given as goal

abbrev pub invariant-names : goal.invariant-names
invariant-names l = (f : Name → Bool) → IsTested (λ n. is_among l.those n || f n) true l.names (list_all f l.left) l.index
