use Rattle.std.proofs.Common.{length}
use Rattle.sl_store_format.proofs.ValidLaws.{items_valid}
use Rattle.sl_store_format.proofs.laws.items_have_no_fault.Goals as goal

pub returns : goal.returns
returns c = λ w good. items_valid (length w.files) w.items good.items
