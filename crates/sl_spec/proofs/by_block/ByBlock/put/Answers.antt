use Rattle.std.proofs.Common.{Some, cond, ap, ◌∙◌}
use Rattle.sl_spec.specs.Numbers.{is_number, made_of}
use Rattle.sl_spec.proofs.by_block.ByBlock.put.Goals as goal

pub returns-in-Ok : goal.returns-in-Ok
returns-in-Ok g c n = c.in-Ok.ensures.updates.0 n ∙ ap (λ made. cond (is_number c.args.number n) (Some c.args.value) (made_of made n)) c.self.view_is
