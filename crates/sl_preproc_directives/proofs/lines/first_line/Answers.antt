use Rattle.std.proofs.Common.{List, ◌∷◌, ℕ, ap, ◌∙◌, sym}
use Rattle.sl_preproc_directives.specs.Lines.{lines}
use Rattle.sl_preproc_directives.proofs.LineLemmas.{line_cut, no_more, all_taken, some_bytes}
use Rattle.sl_preproc_directives.proofs.lines.first_line.Goals as goal

pub returns-in-empty-clause-lines : goal.returns-in-empty-clause-lines
returns-in-empty-clause-lines c =
    line_cut _ _ _ (some_bytes _ _ c.is_empty.ensures c.if-is_empty.false) c.split_line.ensures.front c.split_line.ensures.back
    ∙ ap (λ (r : List ℕ). c.split_line.result.0.now ∷ lines r) (no_more c.split_line.result.1.now c.in-empty.len_below)

pub returns-in-len1-up-clause-lines : goal.returns-in-len1-up-clause-lines
returns-in-len1-up-clause-lines c =
    line_cut _ _ _ (some_bytes _ _ c.is_empty.ensures c.if-is_empty.false) c.split_line.ensures.front c.split_line.ensures.back
    ∙ ap (λ (r : List ℕ). c.split_line.result.0.now ∷ lines r) (sym (all_taken c.split_line.result.1.now))
