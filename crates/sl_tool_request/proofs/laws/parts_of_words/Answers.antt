use Rattle.sl_tool_request.proofs.PartLemmas.{parts_are_those}
use Rattle.sl_tool_request.proofs.laws.parts_of_words.Goals as goal

pub returns : goal.returns
returns c = parts_are_those
