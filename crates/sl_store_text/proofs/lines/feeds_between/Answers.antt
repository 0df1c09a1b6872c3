use Rattle.std.proofs.Common.{rules, ◌≡◌, ℕ, ◌+◌, length, take, drop, ap, ◌∙◌, arith}
use Rattle.std.proofs.lemmas.Grind.{common_steps}
use Rattle.std.specs.Prelude.{min}
use Rattle.sl_preproc.specs.Expanded.{line_index}
use Rattle.sl_store_text.proofs.LineLemmas.{counted_on}
use Rattle.sl_store_text.proofs.lines.feeds_between.Goals as goal

pub returns : goal.returns
returns c =
    let text = c.args.text.now in
    let front = c.split_at.result.0.now in
    let between = c.split_at-2.result.1.now in
    let first : front ≡ take (min c.args.to (length text)) text = first_of (search rules, grind (arith, common_steps)) in
    let rest : between ≡ drop (min c.args.from (length front)) front = first_of (search rules, grind (arith, common_steps)) in
    ap (λ (n : ℕ). line_index text c.args.from + n) c.feeds.ensures ∙ counted_on text front between c.args.from c.args.to c.requires first rest
