use Rattle.std.proofs.Common.{Some, cond, ap, ◌∙◌}
use Rattle.sl_show.specs.Spans.{span_of}
use Rattle.sl_spec.specs.Numbers.{is_number}
use Rattle.sl_show.proofs.spans.Spans.put.Goals as goal

pub returns : goal.returns
returns c n = c.in_ok-insert.ensures.updates.0 n ∙ ap (λ spans. cond (is_number c.args.number n) (Some c.args.span) (span_of spans n)) c.self.view_is
