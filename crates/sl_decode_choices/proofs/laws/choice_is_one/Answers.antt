use Rattle.sl_decode_choices.proofs.ChoiceLemmas as lemmas
use Rattle.sl_decode_choices.proofs.laws.choice_is_one.Goals as goal

pub returns : goal.returns
returns c = lemmas.choice_is_one
