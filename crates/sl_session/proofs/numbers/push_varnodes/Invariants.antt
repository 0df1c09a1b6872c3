use Rattle.std.proofs.Common.{◌≡◌, ◌++◌, take}
use Rattle.std.specs.List.{flat_map}
use Rattle.sl_session.specs.Numbers.{numbers_of_varnode}
use Rattle.sl_session.proofs.numbers.push_varnodes.Given as goal

abbrev pub invariant-varnodes : goal.invariant-varnodes
invariant-varnodes l = l.out.items
    ≡ l.initial.out.items ++ flat_map numbers_of_varnode (take l.varnode-index l.varnodes)
