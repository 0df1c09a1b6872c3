use Rattle.sl_explain_points.proofs.LineLemmas.{fields}
use Rattle.sl_explain_points.proofs.laws.fields_are_shown.Goals as goal

pub returns : goal.returns
returns c = fields
