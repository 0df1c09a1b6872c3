use Rattle.sl_spec_constructors.specs.Facts.{AreOfHead}
use Rattle.sl_spec_constructors.proofs.MadeLemmas.{none_made}
use Rattle.sl_spec_constructors.proofs.made.MadeOfBlocks.new.Goals as goal

pub returns : goal.returns
returns c = λ tables t head_at. record {
  facts = none_made (AreOfHead t.fields tables) head_at c.new.result c.new.ensures;
  actions = c.new-2.ensures tables t head_at;
}
