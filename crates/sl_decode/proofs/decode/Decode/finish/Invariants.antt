use Rattle.std.proofs.Common.{◌≡◌, drop}
use Rattle.sl_decode.specs.Finishing.{finish_kept, kept}
use Rattle.sl_decode.specs.Inputs.{input_of}
use Rattle.sl_decode.proofs.decode.Decode.finish.Given as goal

abbrev pub invariant-sprouts : goal.invariant-sprouts
invariant-sprouts g l =
    finish_kept (input_of g.C.Choose.chosen l.self) l.next (drop l.index l.sprouts) l.rest (kept l.nodes.items l.values.items l.commits.items)
    ≡ finish_kept (input_of g.C.Choose.chosen l.self) l.next l.sprouts l.initial.rest (kept l.initial.nodes.items l.initial.values.items l.initial.commits.items)
