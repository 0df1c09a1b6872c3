use Rattle.std.proofs.Common.{◌∙◌, ap, take, drop}
use Rattle.std.proofs.lemmas.List.{take_min}
use Rattle.sl_explain_lines.proofs.excerpt.part_shown.Goals as goal

pub returns : goal.returns
returns c =
    c.split_at-2.ensures.front
    ∙ (ap (λ n. take n c.split_at.result.1.now) c.min.ensures
    ∙ (take_min 90 c.split_at.result.1.now
    ∙ (ap (take 90) c.split_at.ensures.back
    ∙ ap (λ n. take 90 (drop n c.args.line.now)) c.begin.ensures)))
