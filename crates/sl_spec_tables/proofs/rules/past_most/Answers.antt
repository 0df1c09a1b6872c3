use Rattle.std.proofs.Common.{Some, ap, sym, ◌∙◌}
use Rattle.std.specs.Prelude.{option_copied}
use Rattle.sl_spec_tables.proofs.RuleLemmas.{past_none, past_some}
use Rattle.sl_spec_tables.proofs.rules.past_most.Goals as goal

pub returns-in-Some : goal.returns-in-Some
returns-in-Some c = ap Some c.place.ensures ∙ past_some c.args.rows.now c.in-Some.row.now (sym (ap option_copied c.in-Some.is) ∙ c.row_at.ensures)

pub returns-in-None : goal.returns-in-None
returns-in-None c = past_none c.args.rows.now (sym (ap option_copied c.in-None.is) ∙ c.row_at.ensures)
