use Rattle.sl_store_format.proofs.PackedLaws.{apart_one}
use Rattle.sl_store_format.proofs.laws.places_tell_the_value.Goals as goal

pub returns : goal.returns
returns c = apart_one
