use Rattle.std.proofs.Common.{◌++◌, ap, sym, ◌∙◌, append-nil}
use Rattle.sl_section_sizes.specs.Ordering.{below, numbers_of}
use Rattle.sl_section_sizes.proofs.order.add_table.Goals as goal

pub returns-in-None : goal.returns-in-None
unfolding Rattle.sl_spec_rules.specs.Gathered.gathered
returns-in-None c =
    let all = c.args.all.now.items in
    sym (append-nil all) ∙ ap (λ o. all ++ below c.args.count (numbers_of o)) c.in-None.ensures
