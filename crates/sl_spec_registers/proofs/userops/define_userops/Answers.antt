use Rattle.std.proofs.Common.{map, sym, ◌∙◌}
use Rattle.sl_spec_registers.proofs.FreshLemmas.{are_free}
use Rattle.sl_spec_registers.proofs.userops.define_userops.Goals as goal

pub add-requires : goal.add-requires
add-requires c = (are_free c.args.t.now (map (λ n. n.now) c.args.names.now) (sym c.in_ok-are_new.ensures.is ∙ c.if-not-branch.false)).userops
