use Rattle.std.proofs.Common.{ap, sym, ◌∙◌}
use Rattle.std.specs.Prelude.{option_copied}
use Rattle.sl_ast.specs.Views.{head_of, pattern_of}
use Rattle.sl_shape_patterns.specs.Counts.{HasPatternCount, IsTold}
use Rattle.sl_shape_patterns.specs.Heads.{IsHeadCount}
use Rattle.sl_shape_patterns.proofs.HeadLemmas.{its_own}
use Rattle.sl_spec.proofs.MadeLemmas.{found_right, put_right}
use Rattle.sl_shape_patterns.proofs.counts.count_of_block.Goals as goal

pub returns-in-Some-clause-count : goal.returns-in-Some-clause-count
returns-in-Some-clause-count c =
    let made = c.requires.made in
    found_right (IsHeadCount c.args.t.now) made.0 c.args.block.now made.1.0 c.args.counts.now c.in-Some.count.now made.2
    (sym c.get.ensures ∙ ap option_copied c.in-Some.is) (pattern_of c.args.pattern.now) c.requires.its

pub returns-clause-kept : goal.returns-clause-kept
returns-clause-kept c = λ head_at told right.
    let t = c.args.t.now in
    let block = c.args.block.now in
    put_right (IsHeadCount t) head_at block told.0 c.args.counts.now c.put.new.self c.in_ok-count.count c.in_ok-put.ensures right
    (its_own (λ p n. IsTold (HasPatternCount t p) n) (head_of block.head.now) (pattern_of c.args.pattern.now) c.in_ok-count.count c.requires.its c.in_ok-count.ensures)
