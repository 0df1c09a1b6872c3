use Rattle.std.proofs.Common.{◌<◌, get_or, rules, sym, ◌∙◌}
use Rattle.sl_base_names.proofs.ByNameLemmas.{long_after, short_after}
use Rattle.sl_base_names.proofs.by_name.ByName.add.Goals as goal

pub returns-in_ok-insert-clause-added : goal.returns-in_ok-insert-clause-added
returns-in_ok-insert-clause-added c =
    short_after c.args.self.now.short c.insert.new.self c.args.self.now.long c.args.name.now c.number_of-number.result c.args.index
    (sym c.is_short.ensures.is ∙ c.if-is_short.true) (λ i. let byte : get_or c.args.name.now i 0 < 256 = search rules in byte)
    c.number_of-number.ensures c.in_ok-insert.ensures.updates

pub returns-in_ok-insert-2-clause-added : goal.returns-in_ok-insert-2-clause-added
returns-in_ok-insert-2-clause-added c other others =
    long_after c.args.self.now.short c.args.self.now.long c.insert-else-is_short.new.self c.args.name.now c.in_ok-key.key c.args.index
    (sym c.is_short.ensures.is ∙ c.if-is_short.false) c.in_ok-key.ensures.items c.in_ok-insert-2.ensures.updates other
