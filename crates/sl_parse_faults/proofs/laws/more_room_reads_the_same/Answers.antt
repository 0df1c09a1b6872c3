use Rattle.sl_parse_faults.proofs.RaisedItems.{more_room}
use Rattle.sl_parse_faults.proofs.laws.more_room_reads_the_same.Goals as goal

pub returns : goal.returns
returns c = more_room
