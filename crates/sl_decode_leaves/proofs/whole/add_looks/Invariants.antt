use Rattle.std.proofs.Common.{◌≡◌, ◌++◌, drop}
use Rattle.sl_decode_meaning.specs.Actions.{Own}
use Rattle.sl_decode_meaning.specs.Outcomes.{in_turn}
use Rattle.sl_decode_meaning.specs.Values.{Site}
use Rattle.sl_decode_leaves.specs.Looks.{look_step}
use Rattle.sl_spec.specs.declared.tables.Tables.{Tables}
use Rattle.sl_decode_leaves.proofs.whole.add_looks.Given as goal

abbrev pub invariant-looks : goal.invariant-looks
invariant-looks l = (t : Tables) (s : Site) (c : Own) → in_turn (look_step t s) (l.all.items ++ drop l.index l.looks) c ≡ in_turn (look_step t s) (l.initial.all.items ++ l.looks) c
