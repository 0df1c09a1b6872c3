use Rattle.std.proofs.Common.{◌≡◌, drop}
use Rattle.sl_section_terms.specs.Scopes.{first_register}
use Rattle.sl_section_terms.proofs.operands.first_register.Given as goal

-- the first one is among those that are left
abbrev pub invariant-ids : goal.invariant-ids
invariant-ids l = first_register (drop l.index l.ids) ≡ first_register l.ids
