use Rattle.sl_spec.proofs.FieldLemmas.{greatest_is}
use Rattle.sl_spec.proofs.fields.greatest.Goals as goal

pub returns : goal.returns
returns c = greatest_is c.args.width c.requires.most
