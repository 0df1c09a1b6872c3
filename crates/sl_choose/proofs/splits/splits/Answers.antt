use Rattle.std.proofs.lemmas.Bool.{false≢true}
use Rattle.sl_choose.proofs.CountLemmas.{none_clear_splits, none_set_splits}
use Rattle.sl_choose.proofs.splits.splits.Goals as goal

pub returns-then-has_none : goal.returns-then-has_none
returns-then-has_none c = (
  λ t. absurd (false≢true t),
  λ split. absurd (none_set_splits c.args.entries.now c.args.shared.now c.args.bits.now c.args.room c.requires.shared (c.has_none.ensures.0 c.if-has_none.true) split),
)

pub returns-then-has_none-2 : goal.returns-then-has_none-2
returns-then-has_none-2 c = (
  λ t. absurd (false≢true t),
  λ split. absurd (none_clear_splits c.args.entries.now c.args.shared.now c.args.bits.now c.args.room c.requires.shared (c.has_none-2.ensures.0 c.if-has_none-2.true) split),
)
