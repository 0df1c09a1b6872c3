use Rattle.sl_decode_choices.proofs.ChoiceLemmas as lemmas
use Rattle.sl_decode_choices.proofs.laws.some_choice.Goals as goal

pub returns : goal.returns
returns c = lemmas.some_choice
