use Rattle.sl_spec_tables.proofs.PositionLemmas.{IsNotBefore}
use Rattle.sl_section_exports.proofs.standing.default_space.Given as goal

abbrev pub invariant-spaces : goal.invariant-spaces
invariant-spaces l = IsNotBefore (λ s. s.default) l.t.spaces l.index
