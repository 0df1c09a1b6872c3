use Rattle.std.proofs.Common.{sym, subst}
use Rattle.sl_bind.proofs.MadeLemmas.{fresh_numbered}
use Rattle.sl_spec.specs.Numbers.{AreNumbered}
use Rattle.sl_bind.proofs.items.take_item.Goals as goal

pub take_unfolded-requires-clause-numbered : goal.take_unfolded-requires-clause-numbered
take_unfolded-requires-clause-numbered c =
    subst AreNumbered (sym c.as_slice.ensures.value)
    (fresh_numbered c.args.number _ _ _ c.new-constructors.ensures.items c.in_ok-next.ensures.numbered)
